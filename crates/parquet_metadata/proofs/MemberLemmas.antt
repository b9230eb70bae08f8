-- Lemmas on the members of a list that are read one after the other.
use Rattle.std.proofs.Common.{◌≡◌, ◌≤◌, ◌<◌, ◌+◌, ◌-◌, ℕ, Bool, true, false, cond, nat_eq, nat_le, List, [], ◌∷◌, ◌++◌, length, None, Result, Ok, Err, refl, ap, sym, ◌∙◌, subst, arith, append_assoc, append-nil}
use Rattle.std.proofs.lemmas.Bool.{leb-true, leb-false}
use Rattle.std.proofs.lemmas.Bool.Decides.{nat_tests}
use Rattle.thrift_compact.specs.declared.faults.ThriftFault.{ThriftFault}
use Rattle.thrift_compact.specs.declared.kinds.Kind.{Kind}
use Rattle.thrift_compact.specs.declared.stack.Open.{Open}
use Rattle.thrift_compact.specs.declared.stack.Open.TheVariants.{Members}
use Rattle.thrift_compact.specs.Items.{members}
use Rattle.thrift_compact.specs.Opens.{in_members, ended, with_opened}
use Rattle.thrift_compact.specs.States.{State}
use Rattle.thrift_compact.specs.Trees.{Datum, Data, nothing, datum, Behind, IsDatum, AreData, AtDatum, skip_in}
use Rattle.parquet_metadata.specs.declared.faults.ReadFault.{ReadFault}
use Rattle.parquet_metadata.specs.declared.faults.ReadFault.TheVariants.{OutOfMemory, Faulty}
use Rattle.parquet_metadata.specs.Reads.{Read, then_on, at_place, Gives, EndsAt, Passed}
use Rattle.parquet_metadata.specs.Members.{members_of, members_passed, AtMembers}

-- of so many members the first is the innermost
opened_some : (each : Kind) (left : ℕ) (below : List Open) → 0 < left → with_opened (members each each left) below ≡ Members each each left ∷ below
opened_some each left below some = let more : nat_eq left 0 ≡ false = grind (arith, nat_tests) in rw more refl

-- behind it the others are left
opened_next : (each : Kind) (left : ℕ) (below : List Open) → 0 < left → ended (Members each each left ∷ below) ≡ with_opened (members each each (left - 1)) below
opened_next each left below some = go (nat_le left 1) refl
  where
    go : (t : Bool) → nat_le left 1 ≡ t → cond t (ended below) (Members each each (left - 1) ∷ below) ≡ with_opened (members each each (left - 1)) below
    go true h = let none : nat_eq (left - 1) 0 ≡ true = let few = leb-true _ _ h in grind (arith, nat_tests) in rw none refl
    go false h = let more : nat_eq (left - 1) 0 ≡ false = let many = leb-false _ _ h in grind (arith, nat_tests) in rw more refl

-- a first member and the others
pub record First (each : Kind) (left : ℕ) (below : List Open) (now : State) (items : Data) (answer : Result ℕ ThriftFault) : Type 0 where
  pub d : Datum
  pub more : Data
  pub between : Result ℕ ThriftFault
  pub split : items ≡ datum d more
  pub value : AtDatum each now d between
  pub next : Behind between (λ end. AreData now.bytes (length below + 1) each each (left - 1) end more answer) (λ f. (more ≡ nothing) × (answer ≡ Err f))

pub first : (each : Kind) (left : ℕ) (below : List Open) (now : State) (items : Data) (answer : Result ℕ ThriftFault) → 0 < left → AtMembers each left below now items answer → First each left below now items answer
first each left below now items answer some at = go items at.are
  where
    go : (items : Data) → AreData now.bytes (length below + 1) each each left now.at items answer → First each left below now items answer
    go nothing are = absurd (let none = are.0 in omega arith)
    go (datum d more) are =
        let nest : now.nesting ≡ Members each each left ∷ below = at.nesting ∙ opened_some each left below some in
        let deep : length below + 1 ≡ length now.nesting = let n = ap length nest in omega (arith, n) in
        let P : ℕ → Type 0 = λ n. IsDatum now.bytes n true each now.at d are.1 in
        let Q : Bool → Type 0 = λ m. IsDatum now.bytes (length now.nesting) m each now.at d are.1 in
        record {
          d = d;
          more = more;
          between = are.1;
          split = refl;
          value = record { sound = at.sound; is = subst Q (sym (ap in_members nest)) (subst P deep are.2) };
          next = are.3;
        }

-- what is left behind a member
behind_first : (each : Kind) (left : ℕ) (below : List Open) (now after : State) (items : Data) (answer : Result ℕ ThriftFault) → 0 < left → AtMembers each left below now items answer → (f : First each left below now items answer) → f.between ≡ Ok after.at → Passed now after → AtMembers each (left - 1) below after f.more answer
behind_first each left below now after items answer some at f end over =
    let P : Result ℕ ThriftFault → Type 0 = λ b. Behind b (λ end. AreData now.bytes (length below + 1) each each (left - 1) end f.more answer) (λ g. (f.more ≡ nothing) × (answer ≡ Err g)) in
    let Q : List ℕ → Type 0 = λ bytes. AreData bytes (length below + 1) each each (left - 1) after.at f.more answer in
    record {
      sound = over.sound;
      nesting = over.nesting ∙ ap ended (at.nesting ∙ opened_some each left below some) ∙ opened_next each left below some;
      are = subst Q (sym over.bytes) (subst P end f.next);
    }

-- the members that are left, behind those that were read
pub record LeftMembers {X : Type 0} (read : Bool → Datum → Read X) (fst : Bool) (each : Kind) (left : ℕ) (below : List Open) (items : Data) (answer : Result ℕ ThriftFault) (now : State) (xs : List X) : Type 0 where
  pub rest : Data
  pub at : AtMembers each left below now rest answer
  pub same : members_of read true items ≡ then_on (members_of read fst rest) (λ ys. Ok (xs ++ ys))

pub record Gathering {X : Type 0} (read : Bool → Datum → Read X) (fst : Bool) (each : Kind) (size left : ℕ) (start now : State) (xs : List X) : Type 0 where
  pub bytes : now.bytes ≡ start.bytes
  pub forward : start.at ≤ now.at
  pub within : now.at ≤ length now.bytes
  pub sound : now.fault ≡ None
  pub nesting : (below : List Open) → start.nesting ≡ with_opened (members each each size) below → now.nesting ≡ with_opened (members each each left) below
  pub members : (below : List Open) (items : Data) (answer : Result ℕ ThriftFault) → AtMembers each size below start items answer → LeftMembers read fst each left below items answer now xs

joined : {X : Type 0} (r : Read (List X)) (xs : List X) (x : X) → then_on (then_on r (λ ys. Ok (x ∷ ys))) (λ ys. Ok (xs ++ ys)) ≡ then_on r (λ ys. Ok ((xs ++ x ∷ []) ++ ys))
joined (Ok ys) xs x = ap (λ z. Ok z) (sym (append_assoc xs (x ∷ []) ys))
joined (Err at) xs x = refl

one_nesting : (each : Kind) (left : ℕ) (below : List Open) (now after : State) → 0 < left → Passed now after → now.nesting ≡ with_opened (members each each left) below → after.nesting ≡ with_opened (members each each (left - 1)) below
one_nesting each left below now after some over nest =
    over.nesting ∙ ap ended (nest ∙ opened_some each left below some) ∙ opened_next each left below some

-- a member was read
pub gathered : {X : Type 0} (read : Bool → Datum → Read X) (fst : Bool) (each : Kind) (size left : ℕ) (start now after : State) (xs : List X) (x : X) → Gathering read fst each size left start now xs → 0 < left → ((d : Datum) (answer : Result ℕ ThriftFault) → AtDatum each now d answer → (read fst d ≡ Ok x) × (answer ≡ Ok after.at)) → Passed now after → now.at ≤ after.at → after.at ≤ length after.bytes → Gathering read false each size (left - 1) start after (xs ++ x ∷ [])
gathered read fst each size left start now after xs x g some seen over forward within = record {
  bytes = over.bytes ∙ g.bytes;
  forward = omega (arith, g.forward);
  within = within;
  sound = over.sound;
  nesting = λ below e. one_nesting each left below now after some over (g.nesting below e);
  members = λ below items answer at.
      let l = g.members below items answer at in
      let f = first each left below now l.rest answer some l.at in
      let s = seen f.d f.between f.value in
      record {
        rest = f.more;
        at = behind_first each left below now after l.rest answer some l.at f s.1 over;
        same = l.same ∙ ap (λ z. then_on (members_of read fst z) (λ ys. Ok (xs ++ ys))) f.split
            ∙ ap (λ r. then_on (then_on r (λ x. then_on (members_of read false f.more) (λ ys. Ok (x ∷ ys)))) (λ ys. Ok (xs ++ ys))) s.0
            ∙ joined (members_of read false f.more) xs x;
      };
}

-- a member has a fault
pub gathered_faulty : {X : Type 0} (read : Bool → Datum → Read X) (fst : Bool) (each : Kind) (size left : ℕ) (start now after : State) (xs : List X) (fault : ReadFault) → Gathering read fst each size left start now xs → 0 < left → ((d : Datum) (answer : Result ℕ ThriftFault) → AtDatum each now d answer → Gives (read fst d) (Err fault) × EndsAt {X = X} (Err fault) answer after) → (below : List Open) (items : Data) (answer : Result ℕ ThriftFault) → AtMembers each size below start items answer → Gives (members_of read true items) (Err fault) × EndsAt {X = List X} (Err fault) answer after
gathered_faulty read fst each size left start now after xs OutOfMemory g some seen below items answer at = (tt, tt)
gathered_faulty read fst each size left start now after xs (Faulty place) g some seen below items answer at =
    let l = g.members below items answer at in
    let f = first each left below now l.rest answer some l.at in
    let s = seen f.d f.between f.value in (
      l.same ∙ ap (λ z. then_on (members_of read fst z) (λ ys. Ok (xs ++ ys))) f.split
          ∙ ap (λ r. then_on (then_on r (λ x. then_on (members_of read false f.more) (λ ys. Ok (x ∷ ys)))) (λ ys. Ok (xs ++ ys))) s.0,
      tt,
    )

-- no member is left
none_left : (bytes : List ℕ) (depth : ℕ) (each : Kind) (left at : ℕ) (items : Data) (answer : Result ℕ ThriftFault) → left ≤ 0 → AreData bytes depth each each left at items answer → (items ≡ nothing) × (answer ≡ Ok at)
none_left bytes depth each left at nothing answer h are = (refl, are.1)
none_left bytes depth each left at (datum d items) answer h are = absurd (let some = are.0 in omega arith)

pub all_gathered : {X : Type 0} (read : Bool → Datum → Read X) (fst : Bool) (each : Kind) (size left : ℕ) (start now : State) (xs : List X) → Gathering read fst each size left start now xs → left ≤ 0 → (below : List Open) (items : Data) (answer : Result ℕ ThriftFault) → AtMembers each size below start items answer → (members_of read true items ≡ Ok xs) × (answer ≡ Ok now.at)
all_gathered read fst each size left start now xs g none below items answer at =
    let l = g.members below items answer at in
    let n = none_left now.bytes (length below + 1) each left now.at l.rest answer none l.at.are in
    (l.same ∙ ap (λ z. then_on (members_of read fst z) (λ ys. Ok (xs ++ ys))) n.0 ∙ ap (λ z. Ok z) (append-nil xs), n.1)

-- the same where nothing is kept of the members
pub record Passing (each : Kind) (size left : ℕ) (start now : State) : Type 0 where
  pub fst : Bool
  pub units : List (Unit {0})
  pub gathered : Gathering (λ _ d. at_place (skip_in d)) fst each size left start now units

pub one_passed : (each : Kind) (size left : ℕ) (start now after : State) → Passing each size left start now → 0 < left → ((d : Datum) (answer : Result ℕ ThriftFault) → AtDatum each now d answer → (Ok tt ≡ skip_in d) × (answer ≡ Ok after.at)) → Passed now after → now.at ≤ after.at → after.at ≤ length after.bytes → Passing each size (left - 1) start after
one_passed each size left start now after p some seen over forward within = record {
  fst = false;
  units = p.units ++ tt ∷ [];
  gathered = gathered (λ _ d. at_place (skip_in d)) p.fst each size left start now after p.units tt p.gathered some (λ d answer at. let s = seen d answer at in (ap at_place (sym s.0), s.1)) over forward within;
}

pub one_faulty : (each : Kind) (size left : ℕ) (start now after : State) (f : ThriftFault) → Passing each size left start now → 0 < left → ((d : Datum) (answer : Result ℕ ThriftFault) → AtDatum each now d answer → (Err f ≡ skip_in d) × (answer ≡ Err f)) → (below : List Open) (items : Data) (answer : Result ℕ ThriftFault) → AtMembers each size below start items answer → members_passed items ≡ Err f.at
one_faulty each size left start now after f p some seen below items answer at =
    let g = gathered_faulty (λ _ d. at_place (skip_in d)) p.fst each size left start now after p.units (Faulty f.at) p.gathered some (λ d answer at. (ap at_place (sym (seen d answer at).0), tt)) below items answer at in
    ap (λ r. then_on r (λ _. Ok tt)) g.0

pub whole_passed : (each : Kind) (size left : ℕ) (start now : State) → Passing each size left start now → left ≤ 0 → (below : List Open) (items : Data) (answer : Result ℕ ThriftFault) → AtMembers each size below start items answer → (members_passed items ≡ Ok tt) × (answer ≡ Ok now.at)
whole_passed each size left start now p none below items answer at =
    let g = all_gathered (λ _ d. at_place (skip_in d)) p.fst each size left start now p.units p.gathered none below items answer at in
    (ap (λ r. then_on r (λ _. Ok tt)) g.0, g.1)
