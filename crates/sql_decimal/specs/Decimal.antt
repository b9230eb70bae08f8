-- Decimal numbers: a whole number of at most 38 digits, divided by a power of ten.
use Rattle.std.specs.Prelude.{ℕ, ◌^◌, ◌<◌, ◌≤◌, ℤ, nat_lt, nat_le, Bool, true, false, ◌&&◌, unsigned_abs, pos, negsuc, neg_ℤ, ◌*ℤ◌, int_div}
use Rattle.std.specs.Ordering.{int_cmp}
use Rattle.std.specs.declared.cmp.Ordering.{Ordering}

-- the fraction coefficient / 10 ^ scale
pub record Decimal : Type 0 where
  pub coefficient : ℤ
  pub scale : ℕ

-- the fraction c / 10 ^ s
abbrev pub decimal_of : ℤ → ℕ → Decimal
decimal_of c s = record { coefficient = c; scale = s }

-- n, or the negation of n
abbrev pub signed : Bool → ℕ → ℤ
signed true n = neg_ℤ (pos n)
signed false n = pos n

-- whether a number is below zero
abbrev pub is_negative : ℤ → Bool
is_negative (pos n) = false
is_negative (negsuc n) = true

-- c has at most p digits
abbrev pub is_within : ℕ → ℤ → Bool
is_within p c = nat_lt (unsigned_abs c) (10 ^ p)

-- a whole number within 64 bits
abbrev pub is_64_bit : ℤ → Bool
is_64_bit (pos n) = nat_lt n (2 ^ 63)
is_64_bit (negsuc n) = nat_lt n (2 ^ 63)

-- the coefficient has at most 38 digits, and the scale is at most 38
pub record IsDecimal (d : Decimal) : Type 0 where
  pub digits : unsigned_abs d.coefficient < 10 ^ 38
  pub scale : d.scale ≤ 38

-- the same of c / 10 ^ s as a test
abbrev pub is_decimal : ℤ → ℕ → Bool
is_decimal c s = is_within 38 c && nat_le s 38

-- the whole number that d is cut to, toward zero
abbrev pub whole_of : Decimal → ℤ
whole_of d = int_div d.coefficient (pos (10 ^ d.scale))

-- the order of a and b: that of the numerators over the common denominator 10 ^ (a.scale + b.scale)
unfoldable pub compared : Decimal → Decimal → Ordering
compared a b = int_cmp (a.coefficient *ℤ pos (10 ^ b.scale)) (b.coefficient *ℤ pos (10 ^ a.scale))
