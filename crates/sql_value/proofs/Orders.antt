-- The order of whole numbers as fractions.
use Rattle.std.proofs.Common.{◌≡◌, ℤ, pos, ◌*ℤ◌, refl, arith}
use Rattle.std.specs.Ordering.{int_cmp}
use Rattle.std.proofs.lemmas.Int.{ints}
use Rattle.sql_decimal.specs.Decimal.{compared}
use Rattle.sql_value.specs.Numbers.{whole}

times_one : (a : ℤ) → a *ℤ pos 1 ≡ a
times_one a = omega (arith, ints)

pub whole_order : (a b : ℤ) → compared (whole a) (whole b) ≡ int_cmp a b
unfolding compared
whole_order a b = rw (times_one a, times_one b) refl
