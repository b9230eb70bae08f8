-- What is left of a text tells its fault and the place of the fault.
use Rattle.std.proofs.Common.{◌≡◌, ◌≢◌, ℕ, ◌-◌, ◌<◌, ◌≤◌, Result, Ok, Err, IfOk, Bool, true, false, List, [], ◌∷◌, ◌++◌, length, drop, Option, Some, None, refl, sym, ap, ◌∙◌, subst, if◌then◌else◌}
use Rattle.sql_tokens.specs.declared.class.Class.{Class}
use Rattle.sql_tokens.specs.declared.class.Class.TheVariants as k
use Rattle.sql_tokens.specs.Classes.{same_class}
use Rattle.sql_tokens.specs.Cutting.{Symbol, symbols_of, first_class, place_or, lexer_fault}
use Rattle.sql_grammar.specs.declared.error.SqlCode.{SqlCode}
use Rattle.sql_grammar.specs.declared.error.SqlCode.TheVariants as code
use Rattle.sql_grammar.specs.declared.error.SqlError.{SqlError}
use Rattle.sql_grammar.specs.declared.error.ParseError.{ParseError}
use Rattle.sql_grammar.specs.declared.error.ParseError.TheVariants as error
use Rattle.sql_grammar.specs.declared.tree.Query.{Query}
use Rattle.grammar_rules.specs.Readers.{Outcome, found, failed, read_made, answer_named}
use Rattle.grammar_rules.specs.Places.{value, refusal, named_first, AnswersNamed}
use Rattle.grammar_rules.proofs.Right.{Right}
use Rattle.grammar_rules.proofs.Answering.{left_over}
use Rattle.sql_grammar.specs.Marks.{Fault, aggregate_mixed, class, is_aggregate}
use Rattle.sql_grammar.specs.Queries.{Written, query}
use Rattle.sql_grammar.specs.QueryReaders.{is_agg, read_whole_query, read_query}
use Rattle.sql_grammar.specs.Faults.{names_source, query_of, misplaced, code_of, longest, place_of, IsCut, IsWritten, Spells, FaultOf, is_too_long, is_unfit, is_refused, is_other_name}
use Rattle.sql_grammar.proofs.QueryReads.{reads-query, said}
use Rattle.sql_lawful.specs.Lawful.{IsLawful}
use Rattle.sql_lawful.specs.Depths.{IsShallow}
use Rattle.sql_lawful.specs.Laws.{EachSpelledIsLawful, EachSpelledIsShallow}
use Rattle.sql_leaves.specs.declared.stop.Stop.{Stop}
use Rattle.sql_leaves.specs.declared.stop.Stop.TheVariants as stop
use Rattle.sql_leaves.specs.Parsing.{fault_of}
use Rattle.select_sql.specs.Written.{at_end, NoneIsEnd, refused_code, stop_code, error_by, error_of}
use Rattle.sql_leaves.proofs.ClassSteps.{agreeing}
use Rattle.select_sql.proofs.EndSteps.{end_in_sight}

pub place_anywhere : (n m : ℕ) (ts : List Symbol) → at_end ts ≡ false → place_or n ts ≡ place_or m ts
unfolding same_class
place_anywhere n m [] h = let p : true ≡ false = h in cc
place_anywhere n m (s ∷ ts) h = refl

-- ---- codes

pub named : Option Fault → List Symbol → Option Fault
named None left = named_first misplaced left
named (Some f) left = Some f

same_agg : (c : Class) → is_agg c ≡ is_aggregate c
same_agg = agreeing is_agg is_aggregate refl

named_code : (ts : List Symbol) → code_of (named_first misplaced ts) ≡ refused_code ts
named_code [] = refl
named_code (s ∷ ts) = rw (same_agg (class s)) (by_test (is_aggregate (class s)))
  where
    by_test : (b : Bool) → code_of (if b then Some aggregate_mixed else None) ≡ (if b then code.AggregateMixed else code.Syntax)
    by_test true = refl
    by_test false = refl

stop_named : (s : Stop) (left : List Symbol) → s ≢ stop.Memory → stop_code s left ≡ Some (code_of (named (fault_of s) left))
unfolding named
stop_named stop.Refused left m = ap Some (sym (named_code left))
stop_named stop.UnknownFunction left m = refl
stop_named stop.AggregateMixed left m = refl
stop_named stop.UnsupportedType left m = refl
stop_named stop.BadEscape left m = refl
stop_named stop.WrongNumber left m = refl
stop_named stop.TooDeep left m = refl
stop_named stop.TooMany left m = refl
stop_named stop.Memory left m = absurd (m refl)

-- ---- what is left

left_of : {A : Type 0} → Outcome Symbol Fault A → List Symbol
left_of (found a left) = left
left_of (failed f left) = left

-- the rest of a list
record IsRest (ts left : List Symbol) : Type 0 where
  before : List Symbol
  is : ts ≡ before ++ left

rest_of : (ts : List Symbol) (o : Outcome Symbol Fault Written) → Right query ts o → IsRest ts (left_of o)
unfolding left_of
rest_of ts (found a left) w = record { before = w.pre; is = w.is }
rest_of ts (failed None left) w = record { before = w.pre; is = w.is }
rest_of ts (failed (Some f) left) w = record { before = w.pre; is = w.is }

rest_read : (ts : List Symbol) (o : Outcome Symbol Fault Written) → read_query ts ≡ o → IsRest ts (left_of o)
rest_read ts o h = rest_of ts o (subst (λ z. Right query ts z) h (reads-query.right ts))

place_left : (text : List ℕ) (left : List Symbol) → IsRest (symbols_of text) left → place_of text (length (symbols_of text) - length left) ≡ place_or (length text) left
place_left text left r =
    let e : drop (length (symbols_of text) - length left) (symbols_of text) ≡ left = ap (λ z. drop (length z - length left) z) r.is ∙ left_over r.before left in
    ap (place_or (length text)) e

module _ (text : List ℕ) (cut : IsCut text) where
  failed_fault : (f : Option Fault) (left : List Symbol) → read_query (symbols_of text) ≡ failed f left → FaultOf text (record { code = code_of (named f left); at = place_or (length text) left })
  unfolding named left_of
  failed_fault None left h = is_refused (named_first misplaced left) (length (symbols_of text) - length left) cut (said (symbols_of text) (failed None left) h) (ap (λ n. record { code = code_of (named_first misplaced left); at = n }) (sym (place_left text left (rest_read (symbols_of text) (failed None left) h))))
  failed_fault (Some f) left h = is_refused (Some f) (length (symbols_of text) - length left) cut (said (symbols_of text) (failed (Some f) left) h) (ap (λ n. record { code = code_of (Some f); at = n }) (sym (place_left text left (rest_read (symbols_of text) (failed (Some f) left) h))))

  -- the query, with what is left behind it
  made_query : (o : Outcome Symbol Fault (Written × ℕ)) → read_whole_query 4096 (symbols_of text) ≡ o → read_query (symbols_of text) ≡ read_made (λ p. p.0) o
  unfolding read_query
  made_query o h = ap (read_made (λ p. p.0)) h

  pub stop_fault : (s : Stop) (left : List Symbol) (error : SqlError) → s ≢ stop.Memory → read_whole_query 4096 (symbols_of text) ≡ failed (fault_of s) left → error ≡ record { code = code_of (named (fault_of s) left); at = place_or (length text) left } → FaultOf text error
  stop_fault s left error m h e = rw e (failed_fault (fault_of s) left (made_query (failed (fault_of s) left) h))

  pub stop_end : (f : Option Fault) (left : List Symbol) → read_whole_query 4096 (symbols_of text) ≡ failed f left → NoneIsEnd left
  unfolding left_of
  stop_end f left h g = let r = rest_read (symbols_of text) (failed f left) (made_query (failed f left) h) in end_in_sight text r.before left r.is g

  module _ (w : Written) (n : ℕ) (left : List Symbol) (h : read_whole_query 4096 (symbols_of text) ≡ found (w, n) left) where
    pub found_end : NoneIsEnd left
    unfolding left_of
    found_end g = let r = rest_read (symbols_of text) (found w left) (made_query (found (w, n) left) h) in end_in_sight text r.before left r.is g

    pub found_written : at_end left ≡ true → IsWritten text w
    found_written g =
        let z : left ≡ [] = found_end g in
        record { cut = cut; spelled = said (symbols_of text) (found w []) (made_query (found (w, n) left) h ∙ ap (found w) z) }

    pub trailing_fault : at_end left ≡ false → FaultOf text (record { code = refused_code left; at = place_or (length text) left })
    unfolding left_of same_class
    trailing_fault g = trailing left (made_query (found (w, n) left) h) g
      where
        trailing : (rest : List Symbol) → read_query (symbols_of text) ≡ found w rest → at_end rest ≡ false → FaultOf text (record { code = refused_code rest; at = place_or (length text) rest })
        trailing [] q g = let p : true ≡ false = g in cc
        trailing (t ∷ rest) q g =
            rw (← named_code (t ∷ rest)) (is_refused (misplaced t) (length (symbols_of text) - length (t ∷ rest)) cut (said (symbols_of text) (found w (t ∷ rest)) q) (ap (λ n. record { code = code_of (misplaced t); at = n }) (sym (place_left text (t ∷ rest) (rest_read (symbols_of text) (found w (t ∷ rest)) q)))))

-- ---- errors

-- what is refused so is this fault
pub refusal_is : (r : ParseError) (fault made : SqlError) → r ≡ error.Refused made → ◌≡◌ {A = Result Query ParseError} (Err r) (Err (error.Refused fault)) → fault ≡ made
refusal_is r fault made h q = let p : ◌≡◌ {A = Result Query ParseError} (Err (error.Refused made)) (Err (error.Refused fault)) = ap Err (sym h) ∙ q in cc

error_named : (text : List ℕ) (s : Stop) (left : List Symbol) (fault : SqlError) → s ≢ stop.Memory → error_of text s left ≡ error.Refused fault → fault ≡ record { code = code_of (named (fault_of s) left); at = place_or (length text) left }
error_named text s left fault m h =
    let p : error_by text (Some (code_of (named (fault_of s) left))) left ≡ error.Refused fault = ap (λ o. error_by text o left) (sym (stop_named s left m)) ∙ h in cc

memory_refused : (text : List ℕ) (left : List Symbol) (fault : SqlError) → error_of text stop.Memory left ≡ error.Refused fault → ⊥
memory_refused text left fault h = let p : error.OutOfMemory ≡ error.Refused fault = h in cc

-- a stop that is told as a fault isn't want of memory
no_memory : (text : List ℕ) (s : Stop) (left : List Symbol) (fault : SqlError) → error_of text s left ≡ error.Refused fault → s ≢ stop.Memory
no_memory text s left fault h e = memory_refused text left fault (ap (λ r. error_of text r left) (sym e) ∙ h)

pub stopped_fault : (text : List ℕ) → IsCut text → (s : Stop) (left : List Symbol) (r : ParseError) (fault : SqlError) → (s ≢ stop.Memory → read_whole_query 4096 (symbols_of text) ≡ failed (fault_of s) left) → r ≡ error_of text s left → ◌≡◌ {A = Result Query ParseError} (Err r) (Err (error.Refused fault)) → FaultOf text fault
stopped_fault text cut s left r fault reads told q =
    let p : r ≡ error.Refused fault = cc in
    let h : error_of text s left ≡ error.Refused fault = sym told ∙ p in
    let m = no_memory text s left fault h in
    stop_fault text cut s left fault m (reads m) (error_named text s left fault m h)

pub stopped_end : (text : List ℕ) → IsCut text → (s : Stop) (left : List Symbol) → (s ≢ stop.Memory → read_whole_query 4096 (symbols_of text) ≡ failed (fault_of s) left) → s ≢ stop.Memory → NoneIsEnd left
stopped_end text cut s left reads m = stop_end text cut (fault_of s) left (reads m)

pub spelled : (text : List ℕ) (w : Written) (q : Query) → IsWritten text w → names_source w ≡ true → q ≡ query_of w → Spells text q
spelled text w q h own is = record { as_written = w; written = h; own = own; is = sym is }

pub other_name : (text : List ℕ) (w : Written) → IsWritten text w → names_source w ≡ false → (r : ParseError) (at : ℕ) (fault : SqlError) → r ≡ error.Refused (record { code = code.Syntax; at = at }) → at ≡ place_of text 1 → ◌≡◌ {A = Result Query ParseError} (Err r) (Err (error.Refused fault)) → FaultOf text fault
other_name text w h own r at fault told place q = is_other_name w h own (refusal_is r fault (record { code = code.Syntax; at = at }) told q ∙ ap (λ n. record { code = code.Syntax; at = n }) place)

pub trailed : (text : List ℕ) → IsCut text → (w : Written) (n : ℕ) (left : List Symbol) → read_whole_query 4096 (symbols_of text) ≡ found (w, n) left → at_end left ≡ false → (r : ParseError) (c : SqlCode) (at : ℕ) (fault : SqlError) → r ≡ error.Refused (record { code = c; at = at }) → c ≡ refused_code left → at ≡ place_or (length text) left → ◌≡◌ {A = Result Query ParseError} (Err r) (Err (error.Refused fault)) → FaultOf text fault
trailed text cut w n left h g r c at fault told is place q =
    let e : fault ≡ record { code = refused_code left; at = place_or (length text) left } = refusal_is r fault (record { code = c; at = at }) told q ∙ (ap (λ d. record { code = d; at = at }) is ∙ ap (λ m. record { code = refused_code left; at = m }) place) in
    rw e (trailing_fault text cut w n left h g)

pub too_long : (text : List ℕ) → longest < length text → (r : ParseError) (fault : SqlError) → r ≡ error.Refused (record { code = code.TooLong; at = longest }) → ◌≡◌ {A = Result Query ParseError} (Err r) (Err (error.Refused fault)) → FaultOf text fault
too_long text h r fault told q = is_too_long h (refusal_is r fault (record { code = code.TooLong; at = longest }) told q)

pub unfit : (text : List ℕ) (at : ℕ) → length text ≤ longest → lexer_fault text ≡ Some at → (r : ParseError) (fault : SqlError) → r ≡ error.Refused (record { code = code.Lexer; at = at }) → ◌≡◌ {A = Result Query ParseError} (Err r) (Err (error.Refused fault)) → FaultOf text fault
unfit text at short h r fault told q = is_unfit at short h (refusal_is r fault (record { code = code.Lexer; at = at }) told q)

-- ---- what is parsed is lawful

module _ (text : List ℕ) where
  pub parsed_lawful : EachSpelledIsLawful → (r : Result Query ParseError) → IfOk r (λ q. Spells text q) → IfOk r (λ q. IsLawful q)
  parsed_lawful law (Ok q) h = law text q h
  parsed_lawful law (Err e) h = h

  pub parsed_shallow : EachSpelledIsShallow → (r : Result Query ParseError) → IfOk r (λ q. Spells text q) → IfOk r (λ q. IsShallow q)
  parsed_shallow law (Ok q) h = law text q h
  parsed_shallow law (Err e) h = h
