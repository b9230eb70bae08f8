-- Comparison: less, equal, greater or unknown.
use Rattle.std.specs.Prelude.{Option, None, Some}
use Rattle.std.specs.Ordering.{nat_cmp, int_cmp, bool_cmp}
use Rattle.std.specs.Cmp.Lexicographic.{slice_cmp}
use Rattle.std.specs.declared.cmp.Ordering.{Ordering}
use Rattle.std.specs.declared.cmp.Ordering.TheVariants as ordering
use Rattle.sql_decimal.specs.Decimal.{Decimal, compared}
use Rattle.sql_decimal.specs.Reading.{number_of}
use Rattle.sql_timestamp.specs.Instants.{Timestamp}
use Rattle.sql_timestamp.specs.Reading.{spelled_timestamp}
use Rattle.sql_value.specs.declared.value.Value.{Value}
use Rattle.sql_value.specs.declared.value.Value.TheVariants.{Bool as Truth, Int, Dec, Text, Stamp}
use Rattle.sql_value.specs.Numbers.{whole, fraction_of}
use Rattle.sql_value.specs.declared.comparing.Order.{Order}
use Rattle.sql_value.specs.declared.comparing.Order.TheVariants.{Less, Equal, Greater, Unknown}

-- a known order
abbrev pub known : Ordering → Order
known ordering.Less = Less
known ordering.Equal = Equal
known ordering.Greater = Greater

-- numbers are compared as fractions
abbrev pub fractions : Decimal → Decimal → Order
fractions a b = known (compared a b)

-- timestamps are compared by instant
abbrev pub instants : Timestamp → Timestamp → Order
instants a b = known (int_cmp a.instant b.instant)

-- a text beside a number or a timestamp is read as one; an unreadable one is unknown
abbrev pub as_read : {A : Type 0} → Option A → (A → Order) → Order
as_read None order = Unknown
as_read (Some a) order = order a

-- The order of two settled values. Those that don't stand here, NULL and MISSING among them, are unknown.
unfoldable pub order_of : Value → Value → Order
order_of (Truth a) (Truth b) = known (bool_cmp a b)
order_of (Int a) (Int b) = fractions (whole a) (whole b)
order_of (Int a) (Dec b) = fractions (whole a) b
order_of (Dec a) (Int b) = fractions a (whole b)
order_of (Dec a) (Dec b) = fractions a b
order_of (Int a) (Text b) = as_read (number_of b) (λ n. fractions (whole a) (fraction_of n))
order_of (Dec a) (Text b) = as_read (number_of b) (λ n. fractions a (fraction_of n))
order_of (Text a) (Int b) = as_read (number_of a) (λ n. fractions (fraction_of n) (whole b))
order_of (Text a) (Dec b) = as_read (number_of a) (λ n. fractions (fraction_of n) b)
order_of (Text a) (Text b) = known (slice_cmp nat_cmp a b)
order_of (Stamp a) (Stamp b) = instants a b
order_of (Stamp a) (Text b) = as_read (spelled_timestamp b) (λ t. instants a t)
order_of (Text a) (Stamp b) = as_read (spelled_timestamp a) (λ t. instants t b)
order_of _ _ = Unknown
