-- SUM and AVG (S3 Select reference, aggregate functions; SQL-92, section 6.5): `+` from the first value on, and that sum divided by the
-- count.
use Rattle.std.specs.Prelude.{ℤ, Option, None, Some, Result, Ok, Err}
use Rattle.sql_decimal.specs.declared.number.Num.{Num}
use Rattle.sql_timestamp.specs.declared.fault.ValueFault.{ValueFault}
use Rattle.sql_value.specs.declared.value.Value.{Value}
use Rattle.sql_value.specs.declared.value.Value.TheVariants.{Missing, Null, Bool as Truth, Int, Dec, Text, Stamp, Node, Bad}
use Rattle.sql_value.specs.declared.operation.Arith.TheVariants.{Add, Div}
use Rattle.sql_value.specs.Outcomes.{Outcome}
use Rattle.sql_value.specs.Numbers.{whole}
use Rattle.sql_value.specs.Arithmetic.{number_operand, calculated}
use Rattle.sql_eval.specs.Operations.{number_value}

-- what an operand of `+` is judged to be, as a value
abbrev pub operand_value : Result (Option Num) ValueFault → Outcome
operand_value (Err fault) = Err fault
operand_value (Ok None) = Ok Null
operand_value (Ok (Some n)) = Ok (number_value n)

-- the first value of a sum is judged as an operand of `+` is
abbrev pub first_of_sum : Value → Outcome
first_of_sum v = operand_value (number_operand v)

-- a sum with one more value; NULL is the sum of none
abbrev pub sum_with : Value → Value → Outcome
sum_with Null v = first_of_sum v
sum_with Missing v = calculated Add Missing v
sum_with (Truth b) v = calculated Add (Truth b) v
sum_with (Int n) v = calculated Add (Int n) v
sum_with (Dec d) v = calculated Add (Dec d) v
sum_with (Text t) v = calculated Add (Text t) v
sum_with (Stamp s) v = calculated Add (Stamp s) v
sum_with (Node bytes) v = calculated Add (Node bytes) v
sum_with (Bad fault) v = calculated Add (Bad fault) v

-- a whole number as a decimal
abbrev pub as_decimal : Value → Value
as_decimal (Int n) = Dec (whole n)
as_decimal v = v

-- the sum as a decimal, divided by the count: of no value it is NULL
abbrev pub average : Value → ℤ → Outcome
average sum count = calculated Div (as_decimal sum) (Int count)
