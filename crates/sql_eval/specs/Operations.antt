-- Arithmetic, CAST and the functions over what their operands mean: all operands are evaluated, from the left, before any is judged.
use Rattle.std.specs.Prelude.{◌≡◌, Bool, true, false, List, [], ◌∷◌, Option, None, Some, Result, Ok, Err, if◌then◌else◌}
use Rattle.sql_decimal.specs.declared.number.Num.{Num}
use Rattle.sql_decimal.specs.declared.number.Num.TheVariants as number
use Rattle.sql_timestamp.specs.declared.fault.ValueFault.{ValueFault}
use Rattle.sql_timestamp.specs.declared.fault.ValueFault.TheVariants.{CastFailed, InvalidOperands}
use Rattle.sql_timestamp.specs.declared.part.Part.{Part}
use Rattle.sql_timestamp.specs.declared.part.Part.TheVariants as timestamp
use Rattle.text_view.specs.declared.view.Side.{Side}
use Rattle.sql_grammar.specs.declared.tree.SumOp.{SumOp}
use Rattle.sql_grammar.specs.declared.tree.SumOp.TheVariants as sum
use Rattle.sql_grammar.specs.declared.tree.ProdOp.{ProdOp}
use Rattle.sql_grammar.specs.declared.tree.ProdOp.TheVariants as product
use Rattle.sql_grammar.specs.declared.tree.CastTarget.{CastTarget}
use Rattle.sql_grammar.specs.declared.tree.CastTarget.TheVariants as named
use Rattle.sql_grammar.specs.declared.tree.DatePart.{DatePart}
use Rattle.sql_grammar.specs.declared.tree.DatePart.TheVariants as part
use Rattle.sql_bound.specs.Lawful.{is_lawful_target, can_be_moved}
use Rattle.sql_value.specs.declared.value.Value.{Value}
use Rattle.sql_value.specs.declared.value.Value.TheVariants as value
use Rattle.sql_value.specs.declared.operation.Arith.{Arith}
use Rattle.sql_value.specs.declared.operation.Arith.TheVariants.{Add, Sub, Mul, Div, Rem}
use Rattle.sql_value.specs.declared.target.Target.{Target}
use Rattle.sql_value.specs.declared.target.Target.TheVariants as to
use Rattle.sql_value.specs.Outcomes.{Outcome}
use Rattle.sql_value.specs.Arithmetic.{calculated}
use Rattle.sql_value.specs.Casts.{cast_of, IsTarget}
use Rattle.sql_functions.specs.Texts.{substring_from_of, substring_of, trim_of, trim_set_of}
use Rattle.sql_functions.specs.Times.{date_add_of}
use Rattle.sql_eval.specs.Evaluated.{and_then, settling}

-- ---- literals

abbrev pub number_value : Num → Value
number_value (number.Int n) = value.Int n
number_value (number.Dec d) = value.Dec d

-- ---- sums and products

abbrev pub sum_operation : SumOp → Arith
sum_operation sum.Add = Add
sum_operation sum.Sub = Sub

abbrev pub product_operation : ProdOp → Arith
product_operation product.Mul = Mul
product_operation product.Div = Div
product_operation product.Rem = Rem

-- an operator, and what the operand behind it means
pub record Operated : Type 0 where
  pub op : Arith
  pub operand : Outcome

-- Operators are taken one by one from the left.
abbrev pub operated : Value → List Operated → Outcome
operated a [] = Ok a
operated a (p ∷ ps) = and_then (settling p.operand) (λ b. and_then (calculated p.op a b) (λ c. operated c ps))

abbrev pub arithmetic : Outcome → List Operated → Outcome
arithmetic first rest = and_then (settling first) (λ a. operated a rest)

-- ---- CAST

abbrev pub target_of : CastTarget → Target
target_of named.Bool = to.Bool
target_of named.Int = to.Int
target_of named.Decimal = to.Decimal
target_of (named.DecimalOf digits scale) = to.DecimalOf digits scale
target_of named.Text = to.Text
target_of named.Timestamp = to.Timestamp

-- no value is cast to a DECIMAL whose digits or scale are out of range; a lawful expression has none
abbrev pub cast_to : CastTarget → Value → Outcome
cast_to target v = if is_lawful_target target then cast_of (target_of target) v else Err CastFailed

-- the target, where its digits and its scale are in range
abbrev pub IsTargetOf : CastTarget → Option Target → Type 0
IsTargetOf target None = is_lawful_target target ≡ false
IsTargetOf target (Some t) = (is_lawful_target target ≡ true) × (t ≡ target_of target) × IsTarget t

-- ---- functions

abbrev pub part_of : DatePart → Part
part_of part.Year = timestamp.Year
part_of part.Month = timestamp.Month
part_of part.Day = timestamp.Day
part_of part.Hour = timestamp.Hour
part_of part.Minute = timestamp.Minute
part_of part.Second = timestamp.Second
part_of part.TimezoneHour = timestamp.TimezoneHour
part_of part.TimezoneMinute = timestamp.TimezoneMinute

-- one operand
abbrev pub of_one : (Value → Outcome) → Outcome → Outcome
of_one function a = and_then (settling a) function

-- two operands
abbrev pub of_two : (Value → Value → Outcome) → Outcome → Outcome → Outcome
of_two function a b = and_then (settling a) (λ x. and_then (settling b) (function x))

-- three operands
abbrev pub of_three : (Value → Value → Value → Outcome) → Outcome → Outcome → Outcome → Outcome
of_three function a b c = and_then (settling a) (λ x. and_then (settling b) (λ y. and_then (settling c) (function x y)))

-- SUBSTRING, with and without a count
abbrev pub substring : Outcome → Outcome → Option Outcome → Outcome
substring text start None = of_two substring_from_of text start
substring text start (Some count) = of_three substring_of text start count

-- TRIM of a set, and of spaces without one
abbrev pub trim : Side → Option Outcome → Outcome → Outcome
trim side None text = of_one (trim_of side) text
trim side (Some set) text = of_two (trim_set_of side) set text

-- the parts of an offset aren't moved; a lawful expression moves none
abbrev pub moved : DatePart → Value → Value → Outcome
moved part count v = if can_be_moved part then date_add_of (part_of part) count v else Err InvalidOperands
