-- Two numbers of few digits at one scale.
use Rattle.std.specs.Prelude.{◌≡◌, ◌^◌, ◌<◌, ◌≤◌, unsigned_abs}
use Rattle.sql_decimal.specs.declared.pair.ShortPair.{ShortPair}
use Rattle.sql_decimal.specs.Decimal.{Decimal}
use Rattle.sql_decimal.specs.Arithmetic.{aligned, common_scale}

-- p has the coefficients of a and b at the larger scale, each of at most 18 digits
pub record IsPairOf (a b : Decimal) (p : ShortPair) : Type 0 where
  pub scale : p.scale ≡ common_scale a b
  pub scale_bound : p.scale ≤ 38
  pub left : p.left ≡ aligned a p.scale
  pub right : p.right ≡ aligned b p.scale
  pub left_digits : unsigned_abs p.left < 10 ^ 18
  pub right_digits : unsigned_abs p.right < 10 ^ 18
