-- A text is exactly one query or has exactly one fault.
use Rattle.std.proofs.Common.{◌≡◌, ℕ, ◌<◌, ◌≤◌, ◌⊎◌, Bool, true, false, List, length, Option, Some, None, Result, Ok, Err, refl, sym, ap, ◌∙◌, inl, inr, arith}
use Rattle.sql_tokens.specs.Cutting.{symbols_of, lexer_fault}
use Rattle.sql_grammar.specs.declared.tree.Query.{Query}
use Rattle.sql_grammar.specs.declared.error.SqlCode.TheVariants as code
use Rattle.sql_grammar.specs.declared.error.SqlError.{SqlError}
use Rattle.grammar_rules.specs.Places.{Answer, value, refusal, AnswersNamed}
use Rattle.grammar_rules.specs.Readers.{answer_named}
use Rattle.sql_grammar.specs.Marks.{Fault}
use Rattle.sql_grammar.specs.Queries.{Written, query}
use Rattle.sql_grammar.specs.QueryReaders.{read_query}
use Rattle.sql_grammar.specs.Faults.{names_source, query_of, misplaced, code_of, longest, place_of, IsCut, IsWritten, Spells, FaultOf, is_too_long, is_unfit, is_refused, is_other_name, Parses, EachParses, OneParse}
use Rattle.sql_grammar.proofs.QueryReads.{said, one_answer}

-- ---- some answer

module _ (text : List ℕ) (cut : IsCut text) where
  by_name : (w : Written) → IsWritten text w → (b : Bool) → names_source w ≡ b → (r : Result Query SqlError) × Parses text r
  by_name w v true h = (Ok (query_of w), record { as_written = w; written = v; own = h; is = refl })
  by_name w v false h = (Err (record { code = code.Syntax; at = place_of text 1 }), is_other_name w v h refl)

  by_answer : (x : Answer Fault Written) → AnswersNamed misplaced query (symbols_of text) x → (r : Result Query SqlError) × Parses text r
  by_answer (value w) v = by_name w (record { cut = cut; spelled = v }) (names_source w) refl
  by_answer (refusal f n) v = (Err (record { code = code_of f; at = place_of text n }), is_refused f n cut v refl)

by_tokens : (text : List ℕ) → length text ≤ longest → (o : Option ℕ) → lexer_fault text ≡ o → (r : Result Query SqlError) × Parses text r
by_tokens text short (Some at) h = (Err (record { code = code.Lexer; at = at }), is_unfit at short h refl)
by_tokens text short None h =
    by_answer text (record { short = short; tokens = h }) (answer_named misplaced (length (symbols_of text)) (read_query (symbols_of text))) (said (symbols_of text) (read_query (symbols_of text)) refl)

by_length : (text : List ℕ) → (longest < length text) ⊎ (length text ≤ longest) → (r : Result Query SqlError) × Parses text r
by_length text (inl h) = (Err (record { code = code.TooLong; at = longest }), is_too_long h refl)
by_length text (inr h) = by_tokens text h (lexer_fault text) refl

pub each_parses : EachParses
each_parses text = by_length text (split (length text))
  where
    split : (n : ℕ) → (longest < n) ⊎ (n ≤ longest)
    split n = grind (arith)

-- ---- one answer

module _ (text : List ℕ) where
  one_written : (w v : Written) → IsWritten text w → IsWritten text v → w ≡ v
  one_written w v x y = let p : value w ≡ value v = one_answer (symbols_of text) (value w) (value v) x.spelled y.spelled in cc

  written_refused : (w : Written) (f : Option Fault) (n : ℕ) → IsWritten text w → AnswersNamed misplaced query (symbols_of text) (refusal f n) → ⊥
  written_refused w f n x y = let p : value w ≡ refusal f n = one_answer (symbols_of text) (value w) (refusal f n) x.spelled y in cc

  one_refusal : (f g : Option Fault) (n m : ℕ) → AnswersNamed misplaced query (symbols_of text) (refusal f n) → AnswersNamed misplaced query (symbols_of text) (refusal g m) → (f ≡ g) × (n ≡ m)
  one_refusal f g n m x y = let p : refusal f n ≡ refusal g m = one_answer (symbols_of text) (refusal f n) (refusal g m) x y in (cc, cc)

  both_lengths : longest < length text → length text ≤ longest → ⊥
  both_lengths a b = omega arith

  both_cuts : (at : ℕ) → lexer_fault text ≡ Some at → lexer_fault text ≡ None → ⊥
  both_cuts at a b = let p : Some at ≡ None = sym a ∙ b in cc

  spelled_faulty : (q : Query) (error : SqlError) → Spells text q → FaultOf text error → ⊥
  spelled_faulty q error s (is_too_long h e) = both_lengths h s.written.cut.short
  spelled_faulty q error s (is_unfit at h l e) = both_cuts at l s.written.cut.tokens
  spelled_faulty q error s (is_refused f n c v e) = written_refused s.as_written f n s.written v
  spelled_faulty q error s (is_other_name w v h e) =
      let p : s.as_written ≡ w = one_written s.as_written w s.written v in
      let b : true ≡ false = sym s.own ∙ (ap names_source p ∙ h) in cc

  one_fault : (error other : SqlError) → FaultOf text error → FaultOf text other → error ≡ other
  one_fault error other (is_too_long h e) (is_too_long i f) = e ∙ sym f
  one_fault error other (is_too_long h e) (is_unfit at i l f) = absurd (both_lengths h i)
  one_fault error other (is_too_long h e) (is_refused k n c v f) = absurd (both_lengths h c.short)
  one_fault error other (is_too_long h e) (is_other_name w v i f) = absurd (both_lengths h v.cut.short)
  one_fault error other (is_unfit at h l e) (is_too_long i f) = absurd (both_lengths i h)
  one_fault error other (is_unfit at h l e) (is_unfit bt i m f) = let p : Some at ≡ Some bt = sym l ∙ m in let q : at ≡ bt = cc in rw (e, f, q) refl
  one_fault error other (is_unfit at h l e) (is_refused k n c v f) = absurd (both_cuts at l c.tokens)
  one_fault error other (is_unfit at h l e) (is_other_name w v i f) = absurd (both_cuts at l v.cut.tokens)
  one_fault error other (is_refused g n c v e) (is_too_long i f) = absurd (both_lengths i c.short)
  one_fault error other (is_refused g n c v e) (is_unfit bt i m f) = absurd (both_cuts bt m c.tokens)
  one_fault error other (is_refused g n c v e) (is_refused k m d w f) = let p = one_refusal g k n m v w in rw (e, f, p.0, p.1) refl
  one_fault error other (is_refused g n c v e) (is_other_name w x i f) = absurd (written_refused w g n x v)
  one_fault error other (is_other_name w v h e) (is_too_long i f) = absurd (both_lengths i v.cut.short)
  one_fault error other (is_other_name w v h e) (is_unfit bt i m f) = absurd (both_cuts bt m v.cut.tokens)
  one_fault error other (is_other_name w v h e) (is_refused k m d x f) = absurd (written_refused w k m v x)
  one_fault error other (is_other_name w v h e) (is_other_name u x i f) = e ∙ sym f

pub one_parse : OneParse
one_parse text (Ok q) (Ok r) s t =
    let p = one_written text s.as_written t.as_written s.written t.written in
    ap Ok (sym s.is ∙ (ap query_of p ∙ t.is))
one_parse text (Ok q) (Err error) s t = absurd (spelled_faulty text q error s t)
one_parse text (Err error) (Ok q) s t = absurd (spelled_faulty text q error t s)
one_parse text (Err error) (Err other) s t = ap Err (one_fault text error other s t)
