-- What a contract sees while the record of a row is written.
use Rattle.std.specs.Prelude.{◌≡◌, ℕ, List, ◌++◌, [], ◌∷◌, OnOk, Option, None, Some, Result, Ok, Err}
use Rattle.sql_timestamp.specs.declared.fault.ValueFault.{ValueFault}
use Rattle.sql_value.specs.Outcomes.{Outcome}
use Rattle.select_reply.specs.declared.code.Code.TheVariants.{OverMaxRecordSize}
use Rattle.select_reply.specs.Yields.{Yield, silent, writes, fails}
use Rattle.record_output.specs.declared.out.OutFault.{OutFault}
use Rattle.record_output.specs.declared.out.OutFault.TheVariants as fault
use Rattle.record_output.specs.Records.{Field, delimiter_of, delimiter_bytes}
use Rattle.record_output.specs.Writing.{Writing, closed, verdict, HasSettings, Holds}
use Rattle.record_yields.specs.declared.writing.RowYield.{RowYield}
use Rattle.record_yields.specs.declared.writing.RowYield.TheVariants.{Nothing, Output, Fault}
use Rattle.record_yields.specs.Codes.{value_code}
use Rattle.record_yields.specs.Projections.{named}

-- what the answer tells, with the record that stands in the writer
abbrev pub told : RowYield → Writing → Yield
told Nothing w = silent
told Output w = writes (closed w ++ delimiter_bytes (delimiter_of w.output))
told (Fault code) w = fails code

-- what adding a value to a record answers
abbrev pub outcome_verdict : Writing → List ℕ → Outcome → Result (Unit {0}) OutFault
outcome_verdict w name (Ok v) = verdict w (named name v)
outcome_verdict w name (Err why) = Err (fault.Value why)

-- the record has the value behind these fields
abbrev pub HoldsOneMore : Writing → List Field → List ℕ → Outcome → Type 0
HoldsOneMore w fields name (Ok v) = Holds w (fields ++ named name v ∷ [])
HoldsOneMore w fields name (Err why) = ⊥

-- a value was added under a name, or it is a fault, or the record would be too long with it
pub record Adds (old new : Writing) (name : List ℕ) (o : Outcome) (result : Result (Unit {0}) OutFault) : Type 0 where
  pub verdict : result ≡ outcome_verdict old name o
  pub holds : (fields : List Field) → Holds old fields → OnOk result (HoldsOneMore new fields name o)
  pub settings : HasSettings old new

-- a record that is too long, unless one of the values that are left is a fault
abbrev pub over_unless : Option ValueFault → Yield
over_unless None = fails OverMaxRecordSize
over_unless (Some why) = fails (value_code why)
