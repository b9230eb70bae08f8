-- What the operands of a function are judged to be. They are judged from the left, and the first fault
-- counts; without one, an operand that is NULL or MISSING gives NULL.
use Rattle.std.specs.Prelude.{◌≡◌, ℕ, ℤ, pos, int_lt, List, Option, None, Some, Ok, Err, if◌then◌else◌}
use Rattle.std.specs.Borrow.{Bor}
use Rattle.sql_decimal.specs.Reading.{number_of, int_of}
use Rattle.sql_timestamp.specs.Instants.{Timestamp}
use Rattle.sql_timestamp.specs.Reading.{spelled_timestamp}
use Rattle.sql_timestamp.specs.declared.fault.ValueFault.TheVariants.{CastFailed, InvalidOperands}
use Rattle.sql_value.specs.declared.value.Value.{Value}
use Rattle.sql_value.specs.declared.value.Value.TheVariants as value
use Rattle.sql_value.specs.Outcomes.{Outcome}
use Rattle.sql_functions.specs.declared.operands.Operand.{Operand}
use Rattle.sql_functions.specs.declared.operands.Operand.TheVariants.{Null, There, Fault}

-- a text
unfoldable pub text_operand : Value → Operand (List ℕ)
text_operand value.Missing = Null
text_operand value.Null = Null
text_operand (value.Text t) = There t
text_operand (value.Bad fault) = Fault fault
text_operand _ = Fault InvalidOperands

-- what a text reads as; an unreadable one is CastFailed
abbrev pub if_read : {A : Type 0} → Option A → Operand A
if_read None = Fault CastFailed
if_read (Some a) = There a

-- an Int, or a text that reads as one
unfoldable pub int_operand : Value → Operand ℤ
int_operand value.Missing = Null
int_operand value.Null = Null
int_operand (value.Int n) = There n
int_operand (value.Text t) = if_read (int_of (number_of t))
int_operand (value.Bad fault) = Fault fault
int_operand _ = Fault InvalidOperands

-- a number of characters, which isn't below 0
abbrev pub unless_negative : Operand ℤ → Operand ℤ
unless_negative Null = Null
unless_negative (There n) = if int_lt n (pos 0) then Fault InvalidOperands else There n
unless_negative (Fault fault) = Fault fault

unfoldable pub count_operand : Value → Operand ℤ
count_operand v = unless_negative (int_operand v)

-- a timestamp, or a text that reads as one
unfoldable pub stamp_operand : Value → Operand Timestamp
stamp_operand value.Missing = Null
stamp_operand value.Null = Null
stamp_operand (value.Stamp s) = There s
stamp_operand (value.Text t) = if_read (spelled_timestamp t)
stamp_operand (value.Bad fault) = Fault fault
stamp_operand _ = Fault InvalidOperands

-- a text that reads as a timestamp
unfoldable pub stamp_text_operand : Value → Operand Timestamp
stamp_text_operand value.Missing = Null
stamp_text_operand value.Null = Null
stamp_text_operand (value.Text t) = if_read (spelled_timestamp t)
stamp_text_operand (value.Bad fault) = Fault fault
stamp_text_operand _ = Fault InvalidOperands

-- two operands
abbrev pub joined : {A B : Type 0} → Operand A → Operand B → Operand (A × B)
joined (Fault fault) b = Fault fault
joined Null (Fault fault) = Fault fault
joined Null Null = Null
joined Null (There b) = Null
joined (There a) (Fault fault) = Fault fault
joined (There a) Null = Null
joined (There a) (There b) = There (a, b)

-- what a function gives
abbrev pub given : {A : Type 0} → Operand A → (A → Outcome) → Outcome
given Null function = Ok value.Null
given (There a) function = function a
given (Fault fault) function = Err fault

-- a lent text is judged so
abbrev pub IsJudged : Operand (Bor (List ℕ)) → Operand (List ℕ) → Type 0
IsJudged Null operand = operand ≡ Null
IsJudged (There t) operand = operand ≡ There t.now
IsJudged (Fault fault) operand = operand ≡ Fault fault
