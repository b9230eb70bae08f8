-- How the members of a list are read (Apache Thrift compact protocol, "List and Set").
use Rattle.std.specs.Prelude.{◌≡◌, ℕ, ◌+◌, Bool, true, false, if◌then◌else◌, List, [], ◌∷◌, length, Option, None, Some, Result, Ok, Err}
use Rattle.thrift_compact.specs.declared.faults.ThriftFault.{ThriftFault}
use Rattle.thrift_compact.specs.declared.kinds.Kind.{Kind}
use Rattle.thrift_compact.specs.declared.kinds.Kind.TheVariants as kind
use Rattle.thrift_compact.specs.declared.stack.Open.{Open}
use Rattle.thrift_compact.specs.Items.{members}
use Rattle.thrift_compact.specs.Opens.{ended, with_opened}
use Rattle.thrift_compact.specs.States.{State}
use Rattle.thrift_compact.specs.Trees.{Datum, Data, cut, sequence, nothing, datum, skip_in, AreData}
use Rattle.parquet_metadata.specs.Reads.{Read, then_on, at_place}

-- each member, in order. Of a member is told whether it is the first of its list
abbrev pub members_of : {X : Type 0} → (Bool → Datum → Read X) → Bool → Data → Read (List X)
members_of read first nothing = Ok []
members_of read first (datum d items) =
    then_on (read first d) (λ x. then_on (members_of read false items) (λ xs. Ok (x ∷ xs)))

-- each member is passed over
abbrev pub members_passed : Data → Read (Unit {0})
members_passed items = then_on (members_of (λ _ d. at_place (skip_in d)) true items) (λ _. Ok tt)

-- the members of a list, where they are of the kind that is asked for, and else none
abbrev pub list_of : {X : Type 0} → (Kind → Bool) → (Bool → Datum → Read X) → Datum → Read (Option (List X))
list_of is_kind read (cut f) = Err f.at
list_of is_kind read (sequence each size items) =
    if is_kind each then then_on (members_of read true items) (λ xs. Ok (Some xs))
    else then_on (members_passed items) (λ _. Ok None)
list_of is_kind read _ = Err 0

-- the reader stands before so many members of a list that was opened inside these
pub record AtMembers (each : Kind) (left : ℕ) (below : List Open) (s : State) (items : Data) (answer : Result ℕ ThriftFault) : Type 0 where
  pub sound : s.fault ≡ None
  pub nesting : s.nesting ≡ with_opened (members each each left) below
  pub are : AreData s.bytes (length below + 1) each each left s.at items answer

-- the reader has passed the members
pub record PassedMembers (below : List Open) (old new : State) : Type 0 where
  pub bytes : new.bytes ≡ old.bytes
  pub sound : new.fault ≡ None
  pub nesting : new.nesting ≡ ended below

-- the kinds of members
abbrev pub is_struct : Kind → Bool
is_struct kind.Struct = true
is_struct _ = false

abbrev pub is_int : Kind → Bool
is_int kind.I32 = true
is_int _ = false

abbrev pub is_binary : Kind → Bool
is_binary kind.Binary = true
is_binary _ = false
