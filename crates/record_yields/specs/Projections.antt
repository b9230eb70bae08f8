-- The values that are selected of a row, each under its name, or the first of them that is a fault.
use Rattle.std.specs.Prelude.{ℕ, suc, List, [], ◌∷◌, Option, None, Some, Result, Ok, Err}
use Rattle.sql_timestamp.specs.declared.fault.ValueFault.{ValueFault}
use Rattle.sql_value.specs.declared.value.Value.{Value}
use Rattle.sql_value.specs.Outcomes.{Outcome}
use Rattle.sql_eval.specs.Evaluated.{and_then}
use Rattle.record_output.specs.Values.{fault_of}
use Rattle.record_output.specs.Records.{Field}

abbrev pub ok_unless : Option ValueFault → Value → Outcome
ok_unless None v = Ok v
ok_unless (Some fault) v = Err fault

-- a value that can't be read is its fault where it is printed
abbrev pub readable : Outcome → Outcome
readable o = and_then o (λ v. ok_unless (fault_of v) v)

abbrev pub named : List ℕ → Value → Field
named name v = record { name = name; value = v }

abbrev pub put_before : Field → Result (List Field) ValueFault → Result (List Field) ValueFault
put_before field (Ok fields) = Ok (field ∷ fields)
put_before field (Err fault) = Err fault

-- the first fault counts
abbrev pub projected : List ℕ → Outcome → Result (List Field) ValueFault → Result (List Field) ValueFault
projected name (Ok v) later = put_before (named name v) later
projected name (Err fault) later = Err fault

-- of these, the first of which stands at a place
unfoldable pub projections : (ℕ → List ℕ) → ℕ → List Outcome → Result (List Field) ValueFault
projections name k [] = Ok []
projections name k (o ∷ os) = projected (name k) (readable o) (projections name (suc k) os)

-- ---- of the values alone

abbrev pub fault_else : Outcome → Option ValueFault → Option ValueFault
fault_else (Ok v) later = later
fault_else (Err fault) later = Some fault

-- the first fault
unfoldable pub first_fault : List Outcome → Option ValueFault
first_fault [] = None
first_fault (o ∷ os) = fault_else (readable o) (first_fault os)
