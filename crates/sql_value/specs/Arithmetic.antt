-- Arithmetic on values.
use Rattle.std.specs.Prelude.{ℤ, ◌+ℤ◌, ◌-ℤ◌, ◌*ℤ◌, int_div, int_rem, unsigned_abs, ◌==◌, Option, None, Some, Result, Ok, Err, if◌then◌else◌}
use Rattle.sql_decimal.specs.Decimal.{Decimal, is_64_bit}
use Rattle.sql_decimal.specs.Arithmetic.{sum, difference, product, quotient, remainder}
use Rattle.sql_decimal.specs.Reading.{number_of}
use Rattle.sql_decimal.specs.declared.decimal.NumFault.{NumFault}
use Rattle.sql_decimal.specs.declared.number.Num.{Num}
use Rattle.sql_decimal.specs.declared.number.Num.TheVariants as number
use Rattle.sql_value.specs.declared.value.Value.{Value}
use Rattle.sql_value.specs.declared.value.Value.TheVariants.{Missing, Null, Bool as Truth, Int, Dec, Text, Stamp, Node, Bad}
use Rattle.sql_timestamp.specs.declared.fault.ValueFault.{ValueFault}
use Rattle.sql_timestamp.specs.declared.fault.ValueFault.TheVariants.{CastFailed, IntegerOverflow, DivideByZero, InvalidOperands}
use Rattle.sql_value.specs.declared.operation.Arith.{Arith}
use Rattle.sql_value.specs.declared.operation.Arith.TheVariants.{Add, Sub, Mul, Div, Rem}
use Rattle.sql_value.specs.Outcomes.{Outcome, both, int_outcome, decimal_outcome}
use Rattle.sql_value.specs.Numbers.{whole}

-- a text is read as a number, and an unreadable one is CastFailed
abbrev pub read_operand : Option Num → Result (Option Num) ValueFault
read_operand None = Err CastFailed
read_operand (Some n) = Ok (Some n)

-- what an operand is judged to be: a number, or nothing where it is NULL or MISSING
unfoldable pub number_operand : Value → Result (Option Num) ValueFault
number_operand Missing = Ok None
number_operand Null = Ok None
number_operand (Truth b) = Err InvalidOperands
number_operand (Int n) = Ok (Some (number.Int n))
number_operand (Dec d) = Ok (Some (number.Dec d))
number_operand (Text t) = read_operand (number_of t)
number_operand (Stamp s) = Err InvalidOperands
number_operand (Node n) = Err InvalidOperands
number_operand (Bad fault) = Err fault

-- a whole number, or IntegerOverflow out of 64 bits
abbrev pub int_or_overflow : ℤ → Result ℤ ValueFault
int_or_overflow n = if is_64_bit n then Ok n else Err IntegerOverflow

-- by a divisor of zero there is no answer
abbrev pub unless_zero : ℤ → Result ℤ ValueFault → Result ℤ ValueFault
unless_zero divisor answer = if unsigned_abs divisor == 0 then Err DivideByZero else answer

-- Int with Int: `/` cuts toward zero, and `%` has the sign of the dividend
unfoldable pub int_result : Arith → ℤ → ℤ → Result ℤ ValueFault
int_result Add a b = int_or_overflow (a +ℤ b)
int_result Sub a b = int_or_overflow (a -ℤ b)
int_result Mul a b = int_or_overflow (a *ℤ b)
int_result Div a b = unless_zero b (int_or_overflow (int_div a b))
int_result Rem a b = unless_zero b (int_or_overflow (int_rem a b))

-- with a decimal, by the rules of decimals
unfoldable pub decimal_result : Arith → Decimal → Decimal → Result Decimal NumFault
decimal_result Add a b = sum a b
decimal_result Sub a b = difference a b
decimal_result Mul a b = product a b
decimal_result Div a b = quotient a b
decimal_result Rem a b = remainder a b

-- two numbers: with a decimal, an Int has the scale 0
unfoldable pub number_result : Arith → Num → Num → Outcome
number_result op (number.Int a) (number.Int b) = int_outcome (int_result op a b)
number_result op (number.Int a) (number.Dec b) = decimal_outcome (decimal_result op (whole a) b)
number_result op (number.Dec a) (number.Int b) = decimal_outcome (decimal_result op a (whole b))
number_result op (number.Dec a) (number.Dec b) = decimal_outcome (decimal_result op a b)

-- two settled values
unfoldable pub calculated : Arith → Value → Value → Outcome
calculated op a b = both (number_operand a) (number_operand b) (number_result op)
