-- A tree's bytes are passed over as far as the tree's answer says, and the answer's fault is the tree's first.
use Rattle.std.proofs.Common.{◌≡◌, ℕ, suc, ◌+◌, ◌-◌, ◌<◌, ℤ, pos, Bool, IsTrue, true, false, nat_eq, nat_le, List, [], ◌∷◌, length, drop, Option, Some, None, Result, Ok, Err, refl, ap, sym, ◌∙◌, subst, arith}
use Rattle.std.proofs.lemmas.Bool.{lt-leb}
use Rattle.std.proofs.lemmas.Bool.Decides.{nat_tests}
use Rattle.std.proofs.lemmas.List.{drop-drop}
use Rattle.thrift_compact.specs.declared.faults.ThriftFault.{ThriftFault}
use Rattle.thrift_compact.specs.declared.kinds.Kind.{Kind}
use Rattle.thrift_compact.specs.declared.kinds.Kind.TheVariants as kind
use Rattle.thrift_compact.specs.declared.stack.Open.{Open}
use Rattle.thrift_compact.specs.declared.stack.Open.TheVariants.{Fields, Members}
use Rattle.thrift_compact.specs.Opens.{ended, with_opened}
use Rattle.thrift_compact.specs.Items.{Item, then_read, number_at, header_at, list_header_at, map_header_at, byte_list_at, value_at, members}
use Rattle.thrift_compact.specs.Runs.{placed, behind, value_step, step, Runs, nothing_open, faulty, goes_on, Passes, PassesFrom}
use Rattle.thrift_compact.specs.Trees.{Datum, Data, FieldList, cut, passed, numeral, binary, sequence, mapping, structure, nothing, datum, stop, field, broken, standing, is_sequence, key_kind, value_kind, entries, Behind, IsDatum, AreData, AreFields, datum_fault, data_fault, fields_fault, first_of}
use Rattle.thrift_compact.proofs.RunLaws.{behind_ok, ended_members, opens_some}

pub behind_err : {X : Type 0} (k : ℕ) (item : Item X) (f : ThriftFault) → behind k item ≡ Err f → (g : ThriftFault) × (item ≡ Err g) × (placed k g ≡ f)
behind_err k (Ok y) f e = absurd cc
behind_err k (Err g) f e = (g, refl, let same : placed k g ≡ f = cc in same)

-- what the run is from a place on, where a value's step answered so
abbrev pub FromStep : ℕ → List ℕ → Result ℕ ThriftFault → ℕ → Item (List Open) → Type 0
FromStep already bytes answer at (Ok (next, taken)) = Runs already bytes answer next (at + taken)
FromStep already bytes answer at (Err f) = answer ≡ Err (placed at f)

-- the run goes on with a value of this kind
abbrev pub ValueRuns : ℕ → List ℕ → Result ℕ ThriftFault → Bool → Kind → List Open → ℕ → Type 0
ValueRuns already bytes answer member k nest at =
    FromStep already bytes answer at (value_step already member k nest (drop at bytes))

-- the run goes on behind a value that ended so
abbrev pub Onward : ℕ → List ℕ → Result ℕ ThriftFault → List Open → Result ℕ ThriftFault → Type 0
Onward already bytes answer nest (Ok end) = Runs already bytes answer nest end
Onward already bytes answer nest (Err f) = answer ≡ Err f

-- a value of whose front this was read
opened_runs : (already depth : ℕ) (bytes : List ℕ) (answer : Result ℕ ThriftFault) (member : Bool) (k : Kind) (nest : List Open) (at : ℕ) (o : Option Open) (taken : ℕ) → depth ≡ already + length nest → value_at depth member k (drop at bytes) ≡ Ok (o, taken) → Runs already bytes answer (with_opened o nest) (at + taken) → ValueRuns already bytes answer member k nest at
unfolding value_step
opened_runs already depth bytes answer member k nest at o taken deep e r = rw (← deep, e) r

cut_runs : (already depth : ℕ) (bytes : List ℕ) (answer : Result ℕ ThriftFault) (member : Bool) (k : Kind) (nest : List Open) (at : ℕ) (g : ThriftFault) → depth ≡ already + length nest → value_at depth member k (drop at bytes) ≡ Err g → answer ≡ Err (placed at g) → ValueRuns already bytes answer member k nest at
unfolding value_step
cut_runs already depth bytes answer member k nest at g deep e r = rw (← deep, e) r

-- a number opens nothing
pub number_front : (depth : ℕ) (member : Bool) (k : Kind) (bytes : List ℕ) (z : ℤ) (taken : ℕ) → number_at k bytes ≡ Ok (z, taken) → value_at depth member k bytes ≡ Ok (None, taken)
unfolding value_at number_at
number_front depth member kind.I8 bytes z taken e = rw e refl
number_front depth member kind.I16 bytes z taken e = rw e refl
number_front depth member kind.I32 bytes z taken e = rw e refl
number_front depth member kind.I64 bytes z taken e = rw e refl
number_front depth member _ bytes z taken e = absurd cc

pub binary_front : (depth : ℕ) (member : Bool) (k : Kind) (bytes list : List ℕ) (taken : ℕ) → k ≡ kind.Binary → byte_list_at bytes ≡ Ok (list, taken) → value_at depth member k bytes ≡ Ok (None, taken)
unfolding value_at
binary_front depth member k bytes list taken is e = rw (is, e) refl

pub sequence_front : (depth : ℕ) (member : Bool) (k each : Kind) (size : ℕ) (bytes : List ℕ) (taken : ℕ) → IsTrue (is_sequence k) → depth < 32 → list_header_at bytes ≡ Ok ((each, size), taken) → value_at depth member k bytes ≡ Ok (members each each size, taken)
unfolding value_at
sequence_front depth member kind.List each size bytes taken is room e =
    let free : nat_le 32 depth ≡ false = lt-leb _ _ room in
    rw (e, free) refl
sequence_front depth member kind.Set each size bytes taken is room e =
    let free : nat_le 32 depth ≡ false = lt-leb _ _ room in
    rw (e, free) refl
sequence_front depth member _ each size bytes taken is room e = absurd cc

pub mapping_front : (depth : ℕ) (member : Bool) (k : Kind) (header : Option (Kind × Kind × ℕ)) (bytes : List ℕ) (taken : ℕ) → k ≡ kind.Map → depth < 32 → map_header_at bytes ≡ Ok (header, taken) → value_at depth member k bytes ≡ Ok (members (key_kind header) (value_kind header) (entries header), taken)
unfolding value_at
mapping_front depth member k None bytes taken is room e =
    let free : nat_le 32 depth ≡ false = lt-leb _ _ room in
    rw (is, e, free) refl
mapping_front depth member k (Some h) bytes taken is room e =
    let free : nat_le 32 depth ≡ false = lt-leb _ _ room in
    rw (is, e, free) refl

pub structure_front : (depth : ℕ) (member : Bool) (k : Kind) (bytes : List ℕ) → k ≡ kind.Struct → depth < 32 → value_at depth member k bytes ≡ Ok (Some (Fields (pos 0)), 0)
unfolding value_at
structure_front depth member k bytes is room =
    let free : nat_le 32 depth ≡ false = lt-leb _ _ room in
    rw (is, free) refl

-- a value that is whole behind its first item
whole_runs : (already depth : ℕ) (bytes : List ℕ) (answer between : Result ℕ ThriftFault) (member : Bool) (k : Kind) (nest : List Open) (at end taken : ℕ) → depth ≡ already + length nest → value_at depth member k (drop at bytes) ≡ Ok (None, taken) → at + taken ≡ end → between ≡ Ok end → Onward already bytes answer (ended nest) between → ValueRuns already bytes answer member k nest at
whole_runs already depth bytes answer between member k nest at end taken deep e place is more =
    let P : Result ℕ ThriftFault → Type 0 = λ b. Onward already bytes answer (ended nest) b in
    let Q : ℕ → Type 0 = λ n. Runs already bytes answer (ended nest) n in
    opened_runs already depth bytes answer member k nest at None taken deep e (subst Q (sym place) (subst P is more))

member_on : (already : ℕ) (bytes : List ℕ) (answer : Result ℕ ThriftFault) (first then : Kind) (n : ℕ) (nest : List Open) (at : ℕ) → ValueRuns already bytes answer true first (Members first then n ∷ nest) at → Runs already bytes answer (Members first then n ∷ nest) at
unfolding step
member_on already bytes answer first then n nest at r = go (value_step already true first (Members first then n ∷ nest) (drop at bytes)) refl r
  where
    go : (s : Item (List Open)) → value_step already true first (Members first then n ∷ nest) (drop at bytes) ≡ s → FromStep already bytes answer at s → Runs already bytes answer (Members first then n ∷ nest) at
    go (Ok (next, taken)) e r = goes_on (Members first then n) nest at next taken e r
    go (Err f) e r = faulty (Members first then n) nest at f e r

field_on : (already : ℕ) (bytes : List ℕ) (answer : Result ℕ ThriftFault) (last number : ℤ) (k : Kind) (nest : List Open) (at len : ℕ) → header_at last (drop at bytes) ≡ Ok (Some (number, k), len) → ValueRuns already bytes answer false k (Fields number ∷ nest) (at + len) → Runs already bytes answer (Fields last ∷ nest) at
unfolding step
field_on already bytes answer last number k nest at len e r = go (value_step already false k (Fields number ∷ nest) (drop (at + len) bytes)) refl r
  where
    go : (s : Item (List Open)) → value_step already false k (Fields number ∷ nest) (drop (at + len) bytes) ≡ s → FromStep already bytes answer (at + len) s → Runs already bytes answer (Fields last ∷ nest) at
    go (Ok (next, taken)) s r =
        let place : at + len + taken ≡ at + (len + taken) = omega arith in
        let P : ℕ → Type 0 = λ z. Runs already bytes answer next z in
        goes_on (Fields last) nest at next (len + taken) (rw (e, drop-drop len at bytes, s) refl) (subst P place r)
    go (Err f) s r =
        let place : at + len + f.at ≡ at + (len + f.at) = omega arith in
        let P : ℕ → Type 0 = λ z. answer ≡ Err (record { code = f.code; at = z }) in
        faulty (Fields last) nest at (placed len f) (rw (e, drop-drop len at bytes, s) refl) (subst P place r)

stop_on : (already : ℕ) (bytes : List ℕ) (answer between : Result ℕ ThriftFault) (last : ℤ) (nest : List Open) (at : ℕ) → standing (header_at last) bytes at ≡ Ok (None, at + 1) → between ≡ Ok (at + 1) → Onward already bytes answer (ended nest) between → Runs already bytes answer (Fields last ∷ nest) at
unfolding step
stop_on already bytes answer between last nest at e is more =
    let h = behind_ok at (header_at last (drop at bytes)) None (at + 1) e in
    let one : h.0 ≡ 1 = omega (arith, h.2) in
    let P : Result ℕ ThriftFault → Type 0 = λ b. Onward already bytes answer (ended nest) b in
    goes_on (Fields last) nest at (ended nest) 1 (rw (h.1, one) refl) (subst P is more)

broken_at : (already : ℕ) (bytes : List ℕ) (answer : Result ℕ ThriftFault) (last : ℤ) (nest : List Open) (at : ℕ) (g : ThriftFault) → header_at last (drop at bytes) ≡ Err g → answer ≡ Err (placed at g) → Runs already bytes answer (Fields last ∷ nest) at
unfolding step
broken_at already bytes answer last nest at g e is = faulty (Fields last) nest at g (rw e refl) is

broken_on : (already : ℕ) (bytes : List ℕ) (answer between : Result ℕ ThriftFault) (last : ℤ) (nest : List Open) (at : ℕ) (f : ThriftFault) → standing (header_at last) bytes at ≡ Err f → between ≡ Err f → Onward already bytes answer (ended nest) between → Runs already bytes answer (Fields last ∷ nest) at
broken_on already bytes answer between last nest at f e is more =
    let h = behind_err at (header_at last (drop at bytes)) f e in
    let P : Result ℕ ThriftFault → Type 0 = λ b. Onward already bytes answer (ended nest) b in
    let fault_is : answer ≡ Err f = subst P is more in
    broken_at already bytes answer last nest at h.0 h.1 (fault_is ∙ ap (λ z. Err z) (sym h.2))

mutual
  datum_runs : (d : Datum) (already depth : ℕ) (bytes : List ℕ) (answer between : Result ℕ ThriftFault) (member : Bool) (k : Kind) (nest : List Open) (at : ℕ) → depth ≡ already + length nest → IsDatum bytes depth member k at d between → Onward already bytes answer (ended nest) between → ValueRuns already bytes answer member k nest at
  datum_runs (cut f) already depth bytes answer between member k nest at deep is more =
      let h = behind_err at (value_at depth member k (drop at bytes)) f is.0 in
      let P : Result ℕ ThriftFault → Type 0 = λ b. Onward already bytes answer (ended nest) b in
      let fault_is : answer ≡ Err f = subst P is.1 more in
      cut_runs already depth bytes answer member k nest at h.0 deep h.1 (fault_is ∙ ap (λ z. Err z) (sym h.2))
  datum_runs passed already depth bytes answer between member k nest at deep is more =
      let h = behind_ok at (value_at depth member k (drop at bytes)) None is.1 is.2 in
      whole_runs already depth bytes answer between member k nest at is.1 h.0 deep h.1 h.2 is.3 more
  datum_runs (numeral z) already depth bytes answer between member k nest at deep is more =
      let h = behind_ok at (number_at k (drop at bytes)) z is.0 is.1 in
      whole_runs already depth bytes answer between member k nest at is.0 h.0 deep (number_front depth member k (drop at bytes) z h.0 h.1) h.2 is.2 more
  datum_runs (binary list) already depth bytes answer between member k nest at deep is more =
      let h = behind_ok at (byte_list_at (drop at bytes)) list is.1 is.2 in
      whole_runs already depth bytes answer between member k nest at is.1 h.0 deep (binary_front depth member k (drop at bytes) list h.0 is.0 h.1) h.2 is.3 more
  datum_runs (sequence each size items) already depth bytes answer between member k nest at deep is more =
      let h = behind_ok at (list_header_at (drop at bytes)) (each, size) is.2 is.3 in
      let deeper : depth + 1 ≡ already + length nest + 1 = omega arith in
      let P : ℕ → Type 0 = λ z. Runs already bytes answer (with_opened (members each each size) nest) z in
      opened_runs already depth bytes answer member k nest at (members each each size) h.0 deep (sequence_front depth member k each size (drop at bytes) h.0 is.0 is.1 h.1)
      (subst P (sym h.2) (data_runs items already (depth + 1) bytes answer between each each size nest is.2 deeper is.4 more))
  datum_runs (mapping header items) already depth bytes answer between member k nest at deep is more =
      let h = behind_ok at (map_header_at (drop at bytes)) header is.2 is.3 in
      let deeper : depth + 1 ≡ already + length nest + 1 = omega arith in
      let o = members (key_kind header) (value_kind header) (entries header) in
      let P : ℕ → Type 0 = λ z. Runs already bytes answer (with_opened o nest) z in
      opened_runs already depth bytes answer member k nest at o h.0 deep (mapping_front depth member k header (drop at bytes) h.0 is.0 is.1 h.1)
      (subst P (sym h.2) (data_runs items already (depth + 1) bytes answer between (key_kind header) (value_kind header) (entries header) nest is.2 deeper is.4 more))
  datum_runs (structure fields) already depth bytes answer between member k nest at deep is more =
      let deeper : depth + 1 ≡ already + length nest + 1 = omega arith in
      let here : at ≡ at + 0 = omega arith in
      let P : ℕ → Type 0 = λ z. Runs already bytes answer (Fields (pos 0) ∷ nest) z in
      opened_runs already depth bytes answer member k nest at (Some (Fields (pos 0))) 0 deep (structure_front depth member k (drop at bytes) is.0 is.1)
      (subst P here (fields_runs fields already (depth + 1) bytes answer between (pos 0) nest at deeper is.2 more))

  data_runs : (items : Data) (already depth : ℕ) (bytes : List ℕ) (answer between : Result ℕ ThriftFault) (first then : Kind) (n : ℕ) (nest : List Open) (at : ℕ) → depth ≡ already + length nest + 1 → AreData bytes depth first then n at items between → Onward already bytes answer (ended nest) between → Runs already bytes answer (with_opened (members first then n) nest) at
  data_runs nothing already depth bytes answer between first then n nest at deep are more =
      let P : Result ℕ ThriftFault → Type 0 = λ b. Onward already bytes answer (ended nest) b in
      let none : nat_eq n 0 ≡ true = let zero_is = are.0 in grind (arith, nat_tests) in
      rw none (subst P are.1 more)
  data_runs (datum d items) already depth bytes answer between first then n nest at deep are more =
      let deeper : depth ≡ already + suc (length nest) = omega arith in
      let P : List Open → Type 0 = λ z. Onward already bytes answer z are.1 in
      rw (opens_some first then n are.0)
      (member_on already bytes answer first then n nest at
      (datum_runs d already depth bytes answer are.1 true first (Members first then n ∷ nest) at deeper are.2
      (subst P (sym (ended_members first then n nest are.0)) (go are.1 are.3 (λ end rest. data_runs items already depth bytes answer between then first (n - 1) nest end deep rest more)))))
    where
      go : (b : Result ℕ ThriftFault) → Behind b (λ end. AreData bytes depth then first (n - 1) end items between) (λ f. (items ≡ nothing) × (between ≡ Err f)) → ((end : ℕ) → AreData bytes depth then first (n - 1) end items between → Runs already bytes answer (with_opened (members then first (n - 1)) nest) end) → Onward already bytes answer (with_opened (members then first (n - 1)) nest) b
      go (Ok end) rest on = on end rest
      go (Err f) rest on = let P : Result ℕ ThriftFault → Type 0 = λ b. Onward already bytes answer (ended nest) b in subst P rest.1 more

  fields_runs : (fields : FieldList) (already depth : ℕ) (bytes : List ℕ) (answer between : Result ℕ ThriftFault) (last : ℤ) (nest : List Open) (at : ℕ) → depth ≡ already + length nest + 1 → AreFields bytes depth last at fields between → Onward already bytes answer (ended nest) between → Runs already bytes answer (Fields last ∷ nest) at
  fields_runs (stop place) already depth bytes answer between last nest at deep are more =
      stop_on already bytes answer between last nest at are.1 are.2 more
  fields_runs (broken f) already depth bytes answer between last nest at deep are more =
      broken_on already bytes answer between last nest at f are.0 are.1 more
  fields_runs (field number k d fields) already depth bytes answer between last nest at deep are more =
      let h = behind_ok at (header_at last (drop at bytes)) (Some (number, k)) are.0 are.1 in
      let deeper : depth ≡ already + suc (length nest) = omega arith in
      let P : ℕ → Type 0 = λ z. ValueRuns already bytes answer false k (Fields number ∷ nest) z in
      field_on already bytes answer last number k nest at h.0 h.1
      (subst P (sym h.2) (datum_runs d already depth bytes answer are.2 false k (Fields number ∷ nest) are.0 deeper are.3
      (go are.2 are.4 (λ end rest. fields_runs fields already depth bytes answer between number nest end deep rest more))))
    where
      go : (b : Result ℕ ThriftFault) → Behind b (λ end. AreFields bytes depth number end fields between) (λ f. (fields ≡ broken f) × (between ≡ Err f)) → ((end : ℕ) → AreFields bytes depth number end fields between → Runs already bytes answer (Fields number ∷ nest) end) → Onward already bytes answer (Fields number ∷ nest) b
      go (Ok end) rest on = on end rest
      go (Err f) rest on = let P : Result ℕ ThriftFault → Type 0 = λ b. Onward already bytes answer (ended nest) b in subst P rest.1 more

-- a value's bytes are passed over as its tree's answer says
pub datum_passes : (d : Datum) (already : ℕ) (member : Bool) (k : Kind) (bytes : List ℕ) (at : ℕ) (answer : Result ℕ ThriftFault) → IsDatum bytes already member k at d answer → Passes already member k bytes at answer
unfolding value_step
datum_passes d already member k bytes at answer is =
    let depth : already ≡ already + length {A = Open} [] = omega arith in
    let P : ℕ → Type 0 = λ z. FromStep already bytes answer at (then_read (value_at z member k (drop at bytes)) (λ v. Ok (with_opened v.0 [], v.1))) in
    go (value_at already member k (drop at bytes)) (subst P (sym depth) (datum_runs d already already bytes answer answer member k [] at depth is (here answer refl)))
  where
    here : (b : Result ℕ ThriftFault) → answer ≡ b → Onward already bytes answer [] b
    here (Ok end) e = nothing_open end e
    here (Err f) e = e

    ended_here : (end : ℕ) → Runs already bytes answer [] end → answer ≡ Ok end
    ended_here end (nothing_open _ e) = e

    go : (v : Item (Option Open)) → FromStep already bytes answer at (then_read v (λ v. Ok (with_opened v.0 [], v.1))) → PassesFrom already bytes at answer v
    go (Err f) r = r
    go (Ok (None, taken)) r = ended_here (at + taken) r
    go (Ok (Some o, taken)) r = r

-- the fault that an answer tells
abbrev pub fault_in : Result ℕ ThriftFault → Option ThriftFault
fault_in (Ok end) = None
fault_in (Err f) = Some f

-- an answer's fault is the first in the tree
mutual
  pub datum_answer : (d : Datum) (bytes : List ℕ) (depth : ℕ) (member : Bool) (k : Kind) (at : ℕ) (answer : Result ℕ ThriftFault) → IsDatum bytes depth member k at d answer → datum_fault d ≡ fault_in answer
  datum_answer (cut f) bytes depth member k at answer is = rw is.1 refl
  datum_answer passed bytes depth member k at answer is = rw is.3 refl
  datum_answer (numeral z) bytes depth member k at answer is = rw is.2 refl
  datum_answer (binary list) bytes depth member k at answer is = rw is.3 refl
  datum_answer (sequence each size items) bytes depth member k at answer is =
      data_answer items bytes (depth + 1) each each size is.2 answer is.4
  datum_answer (mapping header items) bytes depth member k at answer is =
      data_answer items bytes (depth + 1) (key_kind header) (value_kind header) (entries header) is.2 answer is.4
  datum_answer (structure fields) bytes depth member k at answer is =
      fields_answer fields bytes (depth + 1) (pos 0) at answer is.2

  pub data_answer : (items : Data) (bytes : List ℕ) (depth : ℕ) (first next : Kind) (left at : ℕ) (answer : Result ℕ ThriftFault) → AreData bytes depth first next left at items answer → data_fault items ≡ fault_in answer
  data_answer nothing bytes depth first next left at answer are = rw are.1 refl
  data_answer (datum d items) bytes depth first next left at answer are =
      rw (datum_answer d bytes depth true first at are.1 are.2) (go are.1 are.3 (λ end rest. data_answer items bytes depth next first (left - 1) end answer rest))
    where
      go : (b : Result ℕ ThriftFault) → Behind b (λ end. AreData bytes depth next first (left - 1) end items answer) (λ f. (items ≡ nothing) × (answer ≡ Err f)) → ((end : ℕ) → AreData bytes depth next first (left - 1) end items answer → data_fault items ≡ fault_in answer) → first_of (fault_in b) (data_fault items) ≡ fault_in answer
      go (Ok end) rest on = on end rest
      go (Err f) rest on = rw rest.1 refl

  pub fields_answer : (fields : FieldList) (bytes : List ℕ) (depth : ℕ) (last : ℤ) (at : ℕ) (answer : Result ℕ ThriftFault) → AreFields bytes depth last at fields answer → fields_fault fields ≡ fault_in answer
  fields_answer (stop place) bytes depth last at answer are = rw are.2 refl
  fields_answer (broken f) bytes depth last at answer are = rw are.1 refl
  fields_answer (field number k d fields) bytes depth last at answer are =
      rw (datum_answer d bytes depth false k are.0 are.2 are.3) (go are.2 are.4 (λ end rest. fields_answer fields bytes depth number end answer rest))
    where
      go : (b : Result ℕ ThriftFault) → Behind b (λ end. AreFields bytes depth number end fields answer) (λ f. (fields ≡ broken f) × (answer ≡ Err f)) → ((end : ℕ) → AreFields bytes depth number end fields answer → fields_fault fields ≡ fault_in answer) → first_of (fault_in b) (fields_fault fields) ≡ fault_in answer
      go (Ok end) rest on = on end rest
      go (Err f) rest on = rw rest.1 refl
