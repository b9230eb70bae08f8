-- The values that are selected of a row, one after the other.
use Rattle.std.specs.Prelude.{◌≡◌, ℕ, zero, suc, ◌+◌, ◌-◌, ◌<◌, ◌≤◌, Bool, true, false, nat_le, List, [], ◌∷◌, ◌++◌, length, map, take, drop, get_or, Option, None, Some, Result, Ok, Err, refl}
use Rattle.std.proofs.Common.{◌∙◌, ap, ap₂, sym, subst, append_assoc, append-nil, length-drop, arith}
use Rattle.std.proofs.lemmas.Bool.Decides.{nat_tests}
use Rattle.std.proofs.Math.Seq.{drop-cons, take-length}
use Rattle.select_request.specs.declared.request.Output.{Output}
use Rattle.sql_timestamp.specs.declared.fault.ValueFault.{ValueFault}
use Rattle.sql_value.specs.declared.value.Value.{Value}
use Rattle.sql_value.specs.Outcomes.{Outcome}
use Rattle.select_reply.specs.declared.code.Code.{Code}
use Rattle.select_reply.specs.declared.code.Code.TheVariants.{OverMaxRecordSize}
use Rattle.select_reply.specs.Yields.{Yield, fails}
use Rattle.sql_eval.specs.Rows.{cell_at}
use Rattle.record_output.specs.declared.out.OutFault.{OutFault}
use Rattle.record_output.specs.declared.out.OutFault.TheVariants as fault
use Rattle.record_output.specs.Values.{fault_of}
use Rattle.record_output.specs.Records.{Field, record_text}
use Rattle.record_output.specs.Writing.{Writing, closed, anew, with_field, is_within, judged, HasSettings, Holds}
use Rattle.record_output.proofs.Recording.{holds_more, holds_closed}
use Rattle.record_output.proofs.Whole.{record_longer}
use Rattle.record_yields.specs.Codes.{value_code}
use Rattle.record_yields.specs.Projections.{ok_unless, readable, named, put_before, projected, projections, fault_else, first_fault}
use Rattle.record_yields.specs.Yields.{limited, of_fields}
use Rattle.record_yields.specs.Adding.{Adds, outcome_verdict, HoldsOneMore, over_unless}

-- ---- what adding a value tells of it

-- the value was added
record IsAdded (o : Outcome) : Type 0 where
  value : Value
  same : o ≡ Ok value
  fine : fault_of value ≡ None

-- it is the fault
ok_judged : (found : Option ValueFault) (b : Bool) (x : Unit {0}) → Ok x ≡ judged found b → found ≡ None
ok_judged None b x h = refl
ok_judged (Some why) b x h = absurd (cc)

is_added : (w : Writing) (name : List ℕ) (o : Outcome) (x : Unit {0}) → Ok x ≡ outcome_verdict w name o → IsAdded o
is_added w name (Ok v) x h = record { value = v; same = refl; fine = ok_judged (fault_of v) (is_within (with_field w (named name v))) x h }
is_added w name (Err why) x h = absurd (cc)

value_judged : (found : Option ValueFault) (b : Bool) (why : ValueFault) → Err (fault.Value why) ≡ judged found b → found ≡ Some why
value_judged None true why h = absurd (cc)
value_judged None false why h = absurd (cc)
value_judged (Some other) b why h = cc

is_faulty : (w : Writing) (name : List ℕ) (o : Outcome) (why : ValueFault) → Err (fault.Value why) ≡ outcome_verdict w name o → readable o ≡ Err why
is_faulty w name (Ok v) why h = ap (λ f. ok_unless f v) (value_judged (fault_of v) (is_within (with_field w (named name v))) why h)
is_faulty w name (Err other) why h = cc

-- the value can be read, and the record is too long with it
record IsOver (w : Writing) (name : List ℕ) (o : Outcome) : Type 0 where
  value : Value
  same : o ≡ Ok value
  fine : fault_of value ≡ None
  over : is_within (with_field w (named name value)) ≡ false

over_judged : (found : Option ValueFault) (b : Bool) → Err fault.OverMaxRecordSize ≡ judged found b → (found ≡ None) × (b ≡ false)
over_judged None true h = absurd (cc)
over_judged None false h = (refl, refl)
over_judged (Some why) b h = absurd (cc)

is_over : (w : Writing) (name : List ℕ) (o : Outcome) → Err fault.OverMaxRecordSize ≡ outcome_verdict w name o → IsOver w name o
is_over w name (Ok v) h =
    let j = over_judged (fault_of v) (is_within (with_field w (named name v))) h in
    record { value = v; same = refl; fine = j.0; over = j.1 }
is_over w name (Err why) h = absurd (cc)

-- ---- some of the values stand in the record

abbrev pub behind : List Field → Result (List Field) ValueFault → Result (List Field) ValueFault
behind fields (Ok more) = Ok (fields ++ more)
behind fields (Err why) = Err why

-- the values before a place stand in the record, and these are left from there on
pub record Passed (name : ℕ → List ℕ) (os left : List Outcome) (k : ℕ) (w : Writing) : Type 0 where
  pub fields : List Field
  pub holds : Holds w fields
  pub same : projections name 0 os ≡ behind fields (projections name k left)

behind_none : (r : Result (List Field) ValueFault) → r ≡ behind [] r
behind_none (Ok fields) = refl
behind_none (Err why) = refl

pub none_passed : (name : ℕ → List ℕ) (os : List Outcome) (w : Writing) → Holds w [] → Passed name os os 0 w
none_passed name os w h = record { fields = []; holds = h; same = behind_none (projections name 0 os) }

behind_one : (fields : List Field) (field : Field) (r : Result (List Field) ValueFault) → behind fields (put_before field r) ≡ behind (fields ++ field ∷ []) r
behind_one fields field (Ok more) = ap Ok (sym (append_assoc fields (field ∷ []) more))
behind_one fields field (Err why) = refl

readable_one : (o : Outcome) (v : Value) → o ≡ Ok v → fault_of v ≡ None → readable o ≡ Ok v
readable_one o v same fine = ap readable same ∙ ap (λ f. ok_unless f v) fine

-- the projections from a place on, where a value stands there that can be read
from_here : (name : ℕ → List ℕ) (k : ℕ) (o : Outcome) (rest : List Outcome) (v : Value) → readable o ≡ Ok v
    → projections name k (o ∷ rest) ≡ put_before (named (name k) v) (projections name (suc k) rest)
unfolding projections
from_here name k o rest v is = ap (λ r. projected (name k) r (projections name (suc k) rest)) is

from_fault : (name : ℕ → List ℕ) (k : ℕ) (o : Outcome) (rest : List Outcome) (why : ValueFault) → readable o ≡ Err why → projections name k (o ∷ rest) ≡ Err why
unfolding projections
from_fault name k o rest why is = ap (λ r. projected (name k) r (projections name (suc k) rest)) is

module _ (name : ℕ → List ℕ) (os : List Outcome) (k : ℕ) (w new : Writing) (o : Outcome) (rest : List Outcome) (p : Passed name os (o ∷ rest) k w) where
  pub goes_on : (x : Unit {0}) → Adds w new (name k) o (Ok x) → Passed name os rest (suc k) new
  goes_on x adds =
      let a = is_added w (name k) o x adds.verdict in
      let field = named (name k) a.value in
      let step = from_here name k o rest a.value (readable_one o a.value a.same a.fine) in
      record {
        fields = p.fields ++ field ∷ [];
        holds = subst (HoldsOneMore new p.fields (name k)) a.same (adds.holds p.fields p.holds);
        same = p.same ∙ ap (behind p.fields) step ∙ behind_one p.fields field (projections name (suc k) rest);
      }

  pub fault_here : (why : ValueFault) → Adds w new (name k) o (Err (fault.Value why)) → projections name 0 os ≡ Err why
  fault_here why adds = p.same ∙ ap (behind p.fields) (from_fault name k o rest why (is_faulty w (name k) o why adds.verdict))

-- ---- a record that is too long

-- the values are what the projections have, or both have the first fault
data IsRead (name : ℕ → List ℕ) (k : ℕ) (os : List Outcome) : Type 0 where
  all_read : (fields : List Field) → projections name k os ≡ Ok fields → first_fault os ≡ None → IsRead name k os
  faulty : (why : ValueFault) → projections name k os ≡ Err why → first_fault os ≡ Some why → IsRead name k os

read_more : (name : ℕ → List ℕ) (k : ℕ) (o : Outcome) (os : List Outcome) (r : Outcome) → readable o ≡ r → IsRead name (suc k) os → IsRead name k (o ∷ os)
unfolding projections first_fault
read_more name k o os (Ok v) is (all_read fields p f) =
    all_read (named (name k) v ∷ fields) (ap₂ (λ r l. projected (name k) r l) is p) (ap₂ fault_else is f)
read_more name k o os (Ok v) is (faulty why p f) = faulty why (ap₂ (λ r l. projected (name k) r l) is p) (ap₂ fault_else is f)
read_more name k o os (Err why) is x =
    faulty why (ap (λ r. projected (name k) r (projections name (suc k) os)) is) (ap (λ r. fault_else r (first_fault os)) is)

is_read : (name : ℕ → List ℕ) (k : ℕ) (os : List Outcome) → IsRead name k os
unfolding projections first_fault
is_read name k [] = all_read [] refl refl
is_read name k (o ∷ os) = read_more name k o os (readable o) refl (is_read name (suc k) os)

past_limit : (n longest : ℕ) → nat_le n longest ≡ false → longest < n
past_limit n longest h = grind (arith, nat_tests)

past_too : (n m longest : ℕ) → longest < n → n ≤ m → nat_le m longest ≡ false
past_too n m longest h more = grind (arith, nat_tests)

over_limit : (output : Output) (longest : ℕ) (text : List ℕ) (b : Bool) → nat_le (length text) longest ≡ b → b ≡ false → limited output longest text ≡ fails OverMaxRecordSize
over_limit output longest text b is over = rw is (rw over refl)

over_read : (name : ℕ → List ℕ) (k : ℕ) (os rest : List Outcome) (w : Writing) (fields : List Field) (field : Field) → Holds w fields
    → projections name 0 os ≡ behind (fields ++ field ∷ []) (projections name k rest) → is_within (with_field w field) ≡ false → IsRead name k rest
    → of_fields w.output w.longest (projections name 0 os) ≡ over_unless (first_fault rest)
over_read name k os rest w fields field h same over (all_read more p f) =
    let all = fields ++ field ∷ [] in
    let here : closed (with_field w field) ≡ record_text w.output all = holds_closed (with_field w field) all (holds_more w fields field h) in
    let above : w.longest < length (record_text w.output all) = subst (λ t. w.longest < length t) here (past_limit (length (closed (with_field w field))) w.longest over) in
    let too : nat_le (length (record_text w.output (all ++ more))) w.longest ≡ false =
    past_too (length (record_text w.output all)) (length (record_text w.output (all ++ more))) w.longest above (record_longer w.output all more) in
    ap (of_fields w.output w.longest) (same ∙ ap (behind all) p)
    ∙ over_limit w.output w.longest (record_text w.output (all ++ more)) false too refl ∙ ap over_unless (sym f)
over_read name k os rest w fields field h same over (faulty why p f) =
    ap (of_fields w.output w.longest) (same ∙ ap (behind (fields ++ field ∷ [])) p) ∙ ap over_unless (sym f)

pub over_here : (name : ℕ → List ℕ) (os : List Outcome) (k : ℕ) (w new : Writing) (o : Outcome) (rest : List Outcome) → Passed name os (o ∷ rest) k w
    → Adds w new (name k) o (Err fault.OverMaxRecordSize) → of_fields w.output w.longest (projections name 0 os) ≡ over_unless (first_fault rest)
over_here name os k w new o rest p adds =
    let v = is_over w (name k) o adds.verdict in
    let field = named (name k) v.value in
    let step = from_here name k o rest v.value (readable_one o v.value v.same v.fine) in
    let same = p.same ∙ ap (behind p.fields) step ∙ behind_one p.fields field (projections name (suc k) rest) in
    over_read name (suc k) os rest w p.fields field p.holds same v.over (is_read name (suc k) rest)

-- ---- the end

pub all_passed : (name : ℕ → List ℕ) (os : List Outcome) (k : ℕ) (w : Writing) (p : Passed name os [] k w) → projections name 0 os ≡ Ok p.fields
unfolding projections
all_passed name os k w p = p.same ∙ ap Ok (append-nil p.fields)

-- ---- as the code goes on

add_one : (k : ℕ) → suc k ≡ k + 1
add_one k = omega arith

pub next_item : {A B : Type 0} (f : A → B) (xs : List A) (i : ℕ) (x : A) → i < length xs → x ≡ get_or xs i x → map f (drop i xs) ≡ f x ∷ map f (drop (i + 1) xs)
next_item f xs i x within at =
    ap (map f) (drop-cons xs i x within) ∙ ap (λ y. f y ∷ map f (drop (suc i) xs)) (sym at) ∙ ap (λ j. f x ∷ map f (drop j xs)) (add_one i)

pub no_item : {A B : Type 0} (f : A → B) (xs : List A) (i : ℕ) → length xs ≤ i → map f (drop i xs) ≡ []
no_item f xs i past = ap (map f) (none xs i past)
  where
    none : {A : Type 0} (xs : List A) (i : ℕ) → length xs ≤ i → drop i xs ≡ []
    none [] zero past = refl
    none [] (suc i) past = refl
    none (x ∷ xs) zero past = absurd (omega arith)
    none (x ∷ xs) (suc i) past = none xs i (omega arith)

-- the items from a place on, as a slice of so many
pub rest_is : {A : Type 0} (n : ℕ) (xs : List A) → take (length xs - n) (drop n xs) ≡ drop n xs
rest_is n xs = ap (λ k. take k (drop n xs)) (sym (length-drop n xs)) ∙ take-length (drop n xs)

pub settings_stay : (start w new : Writing) → HasSettings start w → HasSettings w new → HasSettings start new
settings_stay start w new first second = record { output = second.output ∙ first.output; longest = second.longest ∙ first.longest }

module _ (name : ℕ → List ℕ) (os left : List Outcome) (k : ℕ) (w : Writing) (p : Passed name os left k w) where
  module _ (new : Writing) (o : Outcome) (rest : List Outcome) (here : left ≡ o ∷ rest) (called : List ℕ) (is : called ≡ name k) where
    passed_here : Passed name os (o ∷ rest) k w
    passed_here = subst (λ l. Passed name os l k w) here p

    pub step_ok : (x : Unit {0}) → Adds w new called o (Ok x) → Passed name os rest (k + 1) new
    step_ok x adds = subst (λ j. Passed name os rest j new) (add_one k) (goes_on name os k w new o rest passed_here x (subst (λ n. Adds w new n o (Ok x)) is adds))

    pub step_fault : (e : OutFault) (why : ValueFault) → e ≡ fault.Value why → Adds w new called o (Err e) → (output : Output) (longest : ℕ) (code : Code)
        → code ≡ value_code why → fails code ≡ of_fields output longest (projections name 0 os)
    step_fault e why told adds output longest code same =
        ap fails same
        ∙ sym (ap (of_fields output longest) (fault_here name os k w new o rest passed_here why (subst (λ f. Adds w new (name k) o (Err f)) told (subst (λ n. Adds w new n o (Err e)) is adds))))

    pub step_over : (e : OutFault) → e ≡ fault.OverMaxRecordSize → Adds w new called o (Err e) → (start : Writing) → HasSettings start w → (code : Code)
        → fails code ≡ over_unless (first_fault rest) → fails code ≡ of_fields start.output start.longest (projections name 0 os)
    step_over e told adds start same code found =
        found
        ∙ sym (over_here name os k w new o rest passed_here (subst (λ f. Adds w new (name k) o (Err f)) told (subst (λ n. Adds w new n o (Err e)) is adds)))
        ∙ ap₂ (λ output longest. of_fields output longest (projections name 0 os)) same.output same.longest

  pub end_yields : left ≡ [] → (start : Writing) → HasSettings start w → (y : Yield)
      → ((fields : List Field) → Holds w fields → y ≡ limited w.output w.longest (record_text w.output fields)) → y ≡ of_fields start.output start.longest (projections name 0 os)
  end_yields none start same y told =
      let q = subst (λ l. Passed name os l k w) none p in
      told q.fields q.holds ∙ ap₂ (λ output longest. limited output longest (record_text output q.fields)) same.output same.longest
      ∙ sym (ap (of_fields start.output start.longest) (all_passed name os k w q))

-- ---- cells

pub next_cell : (cells : List Value) (k : ℕ) → k < length cells → drop k cells ≡ cell_at cells k ∷ drop (suc k) cells
next_cell [] k here = absurd (omega arith)
next_cell (v ∷ vs) zero here = refl
next_cell (v ∷ vs) (suc k) here = next_cell vs k (omega arith)

pub no_cell : (cells : List Value) (k : ℕ) → length cells ≤ k → drop k cells ≡ []
no_cell [] zero past = refl
no_cell [] (suc k) past = refl
no_cell (v ∷ vs) zero past = absurd (omega arith)
no_cell (v ∷ vs) (suc k) past = no_cell vs k (omega arith)

first_here : (v : Value) (rest : List Value) (found : Option ValueFault) → fault_of v ≡ found → first_fault (map Ok (v ∷ rest)) ≡ fault_else (ok_unless found v) (first_fault (map Ok rest))
unfolding first_fault
first_here v rest found is = ap (λ f. fault_else (ok_unless f v) (first_fault (map Ok rest))) is

module _ (cells : List Value) (k : ℕ) (here : k < length cells) where
  from_cell : (found : Option ValueFault) → fault_of (cell_at cells k) ≡ found
      → first_fault (map Ok (drop k cells)) ≡ fault_else (ok_unless found (cell_at cells k)) (first_fault (map Ok (drop (suc k) cells)))
  from_cell found is = ap (λ l. first_fault (map Ok l)) (next_cell cells k here) ∙ first_here (cell_at cells k) (drop (suc k) cells) found is

  pub cell_faulty : (v : Value) (why : ValueFault) → v ≡ cell_at cells k → Some why ≡ fault_of v → first_fault (map Ok (drop k cells)) ≡ Some why
  cell_faulty v why is found = from_cell (Some why) (sym (ap fault_of is) ∙ sym found)

  pub cell_fine : (v : Value) → v ≡ cell_at cells k → None ≡ fault_of v → first_fault (map Ok (drop k cells)) ≡ first_fault (map Ok (drop (k + 1) cells))
  cell_fine v is found = from_cell None (sym (ap fault_of is) ∙ sym found) ∙ ap (λ j. first_fault (map Ok (drop j cells))) (add_one k)

abbrev pub outcomes : List Value → List Outcome
outcomes cells = map Ok cells

pub cell_next : (cells : List Value) (k : ℕ) (v : Value) → k < length cells → v ≡ cell_at cells k → outcomes (drop k cells) ≡ Ok v ∷ outcomes (drop (k + 1) cells)
cell_next cells k v here is =
    ap outcomes (next_cell cells k here) ∙ ap (λ c. Ok c ∷ outcomes (drop (suc k) cells)) (sym is) ∙ ap (λ j. Ok v ∷ outcomes (drop j cells)) (add_one k)

pub cell_none : (cells : List Value) (k : ℕ) → length cells ≤ k → outcomes (drop k cells) ≡ []
cell_none cells k past = ap outcomes (no_cell cells k past)

-- ---- a record begins

pub settings_begun : (old new : Writing) → new ≡ anew old → HasSettings old new
settings_begun old new is = record { output = ap (λ w. w.output) is; longest = ap (λ w. w.longest) is }

pub no_more : fails OverMaxRecordSize ≡ over_unless (first_fault [])
unfolding first_fault
no_more = refl
