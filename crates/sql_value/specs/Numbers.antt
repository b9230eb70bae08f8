-- Numbers as values and as fractions.
use Rattle.std.specs.Prelude.{ℤ}
use Rattle.sql_decimal.specs.Decimal.{Decimal, decimal_of}
use Rattle.sql_decimal.specs.declared.number.Num.{Num}
use Rattle.sql_decimal.specs.declared.number.Num.TheVariants as number

-- a whole number as a fraction has the scale 0
abbrev pub whole : ℤ → Decimal
whole n = decimal_of n 0

-- a number as a fraction
abbrev pub fraction_of : Num → Decimal
fraction_of (number.Int n) = whole n
fraction_of (number.Dec d) = d
