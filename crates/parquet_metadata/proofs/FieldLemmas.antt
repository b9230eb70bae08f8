-- Lemmas on the fields of a struct that are taken one after the other.
use Rattle.std.proofs.Common.{◌≡◌, ◌≤◌, ℕ, ℤ, IsTrue, None, Result}
use Rattle.thrift_compact.specs.declared.faults.ThriftFault.{ThriftFault}
use Rattle.thrift_compact.specs.declared.kinds.Kind.{Kind}
use Rattle.thrift_compact.specs.Opens.{in_fields, below_top}
use Rattle.thrift_compact.specs.States.{State}
use Rattle.thrift_compact.specs.Trees.{Datum, FieldList, AtFields}
use Rattle.parquet_metadata.specs.Reads.{Read, fields_into}

abbrev pub Put : Type 0 → Type 0
Put S = S → ℤ → Kind → Datum → Read S

-- some fields are left, which put into the slots as they are give what all of them gave from the start
pub record Left {S : Type 0} (put : Put S) (slots₀ : S) (fields : FieldList) (answer : Result ℕ ThriftFault) (now : State) (slots : S) : Type 0 where
  pub rest : FieldList
  pub at : AtFields now rest answer
  pub same : fields_into put slots₀ fields ≡ fields_into put slots rest

pub record OnTheWay {S : Type 0} (put : Put S) (start : State) (slots₀ : S) (now : State) (slots : S) : Type 0 where
  pub bytes : now.bytes ≡ start.bytes
  pub forward : start.at ≤ now.at
  pub sound : now.fault ≡ None
  pub inside : IsTrue (in_fields now.nesting)
  pub below : below_top now.nesting ≡ below_top start.nesting
  pub left : (fields : FieldList) (answer : Result ℕ ThriftFault) → AtFields start fields answer → Left put slots₀ fields answer now slots
