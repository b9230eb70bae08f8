-- What an operator answers: a value, or the fault that it meets.
use Rattle.std.specs.Prelude.{◌≡◌, ℤ, Option, None, Some, Result, Ok, Err}
use Rattle.sql_decimal.specs.Decimal.{Decimal}
use Rattle.sql_decimal.specs.declared.decimal.NumFault.{NumFault}
use Rattle.sql_decimal.specs.declared.decimal.NumFault.TheVariants as decimal
use Rattle.sql_value.specs.declared.value.Value.{Value}
use Rattle.sql_value.specs.declared.value.Value.TheVariants.{Null, Int, Dec}
use Rattle.sql_timestamp.specs.declared.fault.ValueFault.{ValueFault}
use Rattle.sql_timestamp.specs.declared.fault.ValueFault.TheVariants.{NumberOverflow, DivideByZero}

-- a value or a fault
abbrev pub Outcome : Type 0
Outcome = Result Value ValueFault

-- a whole number or its fault
abbrev pub int_outcome : Result ℤ ValueFault → Outcome
int_outcome (Ok n) = Ok (Int n)
int_outcome (Err fault) = Err fault

-- the fault of an operation on decimals, as a value's
abbrev pub value_fault : NumFault → ValueFault
value_fault decimal.Overflow = NumberOverflow
value_fault decimal.DivideByZero = DivideByZero

-- a decimal or its fault
abbrev pub decimal_outcome : Result Decimal NumFault → Outcome
decimal_outcome (Ok d) = Ok (Dec d)
decimal_outcome (Err fault) = Err (value_fault fault)

-- what a call that writes its value answers: no fault and the value written, or the fault and nothing written
abbrev pub Wrote : Outcome → Option ValueFault → Value → Value → Type 0
Wrote outcome None old new = outcome ≡ Ok new
Wrote outcome (Some fault) old new = (outcome ≡ Err fault) × (new ≡ old)

-- Two operands are judged from the left, and the first fault counts; without one, an operand that is NULL
-- or MISSING gives NULL.
abbrev pub both : {A B : Type 0} → Result (Option A) ValueFault → Result (Option B) ValueFault → (A → B → Outcome) → Outcome
both (Err fault) right of = Err fault
both (Ok left) (Err fault) of = Err fault
both (Ok None) (Ok right) of = Ok Null
both (Ok (Some a)) (Ok None) of = Ok Null
both (Ok (Some a)) (Ok (Some b)) of = of a b
