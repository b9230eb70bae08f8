-- The fields of a line as a function of its bytes.
use Rattle.std.proofs.Common.{Ok, Err, ◌≡◌, ℕ, ◌≤◌, ◌<◌, nat_lt, Bool, true, false, List, map, take, length, [], ◌∷◌, refl, sym, ◌∙◌, ap, subst, true≢false, arith}
use Rattle.std.proofs.lemmas.Bool.{cond-true, cond-false}
use Rattle.std.proofs.lemmas.Bool.Decides.{nat_tests}
use Rattle.std.proofs.lemmas.List.{length-map, length-take-le}
use Rattle.std.proofs.lemmas.Str.{IsUtf8-from_is_utf8, is_utf8-from_IsUtf8}
use Rattle.std.specs.Str.{chars, IsUtf8, is_utf8}
use Rattle.byte_masks.specs.declared.split.Span.{Span}
use Rattle.byte_masks.specs.Parts.{part}
use Rattle.csv_cutter.specs.declared.dialect.Dialect.{Dialect}
use Rattle.csv_cutter.specs.declared.fields.CsvFault.{CsvFault}
use Rattle.csv_cutter.specs.declared.fields.CsvFault.TheVariants.{InvalidTextEncoding, TooManyFields}
use Rattle.csv_cutter.specs.Fields.{SpellsFields, text_of}
use Rattle.csv_cutter.specs.Walk.{cut_fields}
use Rattle.csv_cutter.specs.Reading.{texts_at, text_at, fields_of, AreFirst, IsFilled, IsRead, HasFields}
use Rattle.csv_cutter.proofs.Characters.{IsApart}
use Rattle.csv_cutter.proofs.Cuts.{many_read}
use Rattle.csv_cutter.proofs.Lines.{fields_cut}
use Rattle.csv_cutter.proofs.Spelling.{cut_chars}

-- ---- the three outcomes

no_text : (line : List ℕ) → ¬ (IsUtf8 line) → is_utf8 line ≡ false
no_text line h = by_test (is_utf8 line) refl
  where
    by_test : (b : Bool) → is_utf8 line ≡ b → is_utf8 line ≡ false
    by_test true e = absurd (h (IsUtf8-from_is_utf8 line e))
    by_test false e = e

is_many : (n : ℕ) → 65536 < n → nat_lt 65536 n ≡ true
is_many n h = grind (arith, nat_tests)

is_few : (n : ℕ) → n ≤ 65536 → nat_lt 65536 n ≡ false
is_few n h = grind (arith, nat_tests)

few : (n : ℕ) → nat_lt 65536 n ≡ false → n ≤ 65536
few n h = grind (arith, nat_tests)

many : (n : ℕ) → nat_lt 65536 n ≡ true → 65536 < n
many n h = grind (arith, nat_tests)

module _ (d : Dialect) (line : List ℕ) where
  encoding_fault : ¬ (IsUtf8 line) → fields_of d line ≡ Err InvalidTextEncoding
  unfolding fields_of
  encoding_fault h = cond-false _ _ _ (no_text line h)

  count_fault : IsUtf8 line → 65536 < length (cut_fields d line) → fields_of d line ≡ Err TooManyFields
  unfolding fields_of
  count_fault u h = cond-true _ _ _ (is_utf8-from_IsUtf8 line u) ∙ cond-true _ _ _ (is_many (length (cut_fields d line)) h)

  texts_told : IsUtf8 line → length (cut_fields d line) ≤ 65536 → fields_of d line ≡ Ok (map (λ spelled. text_of d (chars spelled)) (cut_fields d line))
  unfolding fields_of
  texts_told u h = cond-true _ _ _ (is_utf8-from_IsUtf8 line u) ∙ cond-false _ _ _ (is_few (length (cut_fields d line)) h)

-- ---- what was cut

texts_of_parts : (d : Dialect) (line : List ℕ) (spans : List Span) → texts_at d line spans ≡ map (λ spelled. text_of d (chars spelled)) (map (part line) spans)
texts_of_parts d line [] = refl
texts_of_parts d line (span ∷ spans) = ap (λ l. text_at d line span ∷ l) (texts_of_parts d line spans)

pub filled_fields : (d : Dialect) (line : List ℕ) (count : ℕ) (spans : List Span) → IsUtf8 line → AreFirst d line count spans
    → Ok (texts_at d line (take count spans)) ≡ fields_of d line
filled_fields d line count spans u f =
    let n : length (cut_fields d line) ≡ count = sym (ap length f.parts) ∙ length-map (take count spans) (part line) ∙ length-take-le count spans f.within in
    ap Ok (texts_of_parts d line (take count spans) ∙ ap (map (λ spelled. text_of d (chars spelled))) f.parts)
    ∙ sym (texts_told d line u (omega (arith, n, f.few)))

pub filled_fault : (d : Dialect) (line : List ℕ) (spans : List Span) (fault : CsvFault) → IsFilled d line spans (Err fault) → Err fault ≡ fields_of d line
filled_fault d line spans InvalidTextEncoding h = sym (encoding_fault d line h)
filled_fault d line spans TooManyFields h = sym (count_fault d line h.0 h.1)

-- ---- it is what reading gives

texts_of_chars : (d : Dialect) (parts : List (List ℕ)) → map (λ spelled. text_of d (chars spelled)) parts ≡ map (text_of d) (map chars parts)
texts_of_chars d [] = refl
texts_of_chars d (p ∷ ps) = ap (λ l. text_of d (chars p) ∷ l) (texts_of_chars d ps)

has_fields_of : (d : Dialect) → IsApart d → (line : List ℕ) → IsUtf8 line → length (cut_fields d line) ≤ 65536
    → HasFields d line (map (λ spelled. text_of d (chars spelled)) (cut_fields d line))
has_fields_of d a line u h = record {
  utf8 = u;
  spelled =
      let texts = texts_of_chars d (cut_fields d line) ∙ ap (map (text_of d)) (cut_chars d a line u) in
      subst (SpellsFields d (chars line)) (sym texts) (fields_cut d a (chars line));
  few = omega (arith, h, length-map (cut_fields d line) (λ spelled. text_of d (chars spelled)));
}

pub read_so : (d : Dialect) → IsApart d → (line : List ℕ) → IsRead d line (fields_of d line)
read_so d a line = by_text (is_utf8 line) refl
  where
    by_count : IsUtf8 line → (b : Bool) → nat_lt 65536 (length (cut_fields d line)) ≡ b → IsRead d line (fields_of d line)
    by_count u true e = subst (IsRead d line) (sym (count_fault d line u (many _ e))) (many_read d a line u (many _ e))
    by_count u false e = subst (IsRead d line) (sym (texts_told d line u (few _ e))) (has_fields_of d a line u (few _ e))

    by_text : (b : Bool) → is_utf8 line ≡ b → IsRead d line (fields_of d line)
    by_text true e = by_count (IsUtf8-from_is_utf8 line e) (nat_lt 65536 (length (cut_fields d line))) refl
    by_text false e =
        let no : ¬ (IsUtf8 line) = λ u. true≢false (sym (is_utf8-from_IsUtf8 line u) ∙ e) in
        subst (IsRead d line) (sym (encoding_fault d line no)) no
