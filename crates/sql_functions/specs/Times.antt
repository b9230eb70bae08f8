-- Functions of timestamps.
use Rattle.std.specs.Prelude.{Result, Ok, Err}
use Rattle.sql_timestamp.specs.Instants.{Timestamp}
use Rattle.sql_timestamp.specs.Parts.{extracted, date_added}
use Rattle.sql_timestamp.specs.declared.part.Part.{Part}
use Rattle.sql_timestamp.specs.declared.fault.ValueFault.{ValueFault}
use Rattle.sql_value.specs.declared.value.Value.{Value}
use Rattle.sql_value.specs.declared.value.Value.TheVariants.{Int, Stamp}
use Rattle.sql_value.specs.Outcomes.{Outcome}
use Rattle.sql_functions.specs.Operands.{int_operand, stamp_operand, stamp_text_operand, joined, given}

-- EXTRACT
unfoldable pub extract_of : Part → Value → Outcome
extract_of part v = given (stamp_operand v) (λ s. Ok (Int (extracted part s)))

-- a timestamp or its fault
abbrev pub stamp_outcome : Result Timestamp ValueFault → Outcome
stamp_outcome (Ok s) = Ok (Stamp s)
stamp_outcome (Err fault) = Err fault

-- DATE_ADD
unfoldable pub date_add_of : Part → Value → Value → Outcome
date_add_of part count v =
    given (joined (int_operand count) (stamp_operand v)) (λ p. stamp_outcome (date_added part p.1 p.0))

-- TO_TIMESTAMP
unfoldable pub to_timestamp_of : Value → Outcome
to_timestamp_of v = given (stamp_text_operand v) (λ s. Ok (Stamp s))
