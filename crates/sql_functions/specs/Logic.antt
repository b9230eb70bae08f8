-- Truth values: conditions, NOT, equality, and the sign of a number.
use Rattle.std.specs.Prelude.{pos, Bool, true, false, not, Option, None, Some, Result, Ok, Err}
use Rattle.sql_timestamp.specs.declared.fault.ValueFault.{ValueFault}
use Rattle.sql_timestamp.specs.declared.fault.ValueFault.TheVariants.{InvalidOperands}
use Rattle.sql_value.specs.declared.value.Value.{Value}
use Rattle.sql_value.specs.declared.value.Value.TheVariants as value
use Rattle.sql_value.specs.declared.comparing.Order.{Order}
use Rattle.sql_value.specs.declared.comparing.Order.TheVariants as order
use Rattle.sql_value.specs.declared.operation.Arith.TheVariants.{Sub}
use Rattle.sql_value.specs.Outcomes.{Outcome}
use Rattle.sql_value.specs.Arithmetic.{calculated}

-- the truth of a condition; NULL and MISSING are unknown
unfoldable pub truth_of : Value → Result (Option Bool) ValueFault
truth_of value.Missing = Ok None
truth_of value.Null = Ok None
truth_of (value.Bool b) = Ok (Some b)
truth_of (value.Bad fault) = Err fault
truth_of _ = Err InvalidOperands

-- as a value, where unknown is NULL
abbrev pub truth_value : Option Bool → Value
truth_value None = value.Null
truth_value (Some b) = value.Bool b

-- NOT negates, and unknown stays
abbrev pub negated : Option Bool → Option Bool
negated None = None
negated (Some b) = Some (not b)

-- the truth of `=`
abbrev pub is_equal : Order → Option Bool
is_equal order.Equal = Some true
is_equal order.Less = Some false
is_equal order.Greater = Some false
is_equal order.Unknown = None

-- the minus of x is 0 - x
unfoldable pub minus : Value → Outcome
minus v = calculated Sub (value.Int (pos 0)) v
