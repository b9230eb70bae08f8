-- What the results of arithmetic are as fractions, over common denominators.
use Rattle.std.specs.Prelude.{◌≡◌, ℕ, ◌+◌, ◌^◌, ℤ, pos, ◌+ℤ◌, ◌-ℤ◌, ◌*ℤ◌, int_div}
use Rattle.sql_decimal.specs.Decimal.{Decimal}

-- the numerator of d over the denominator 10 ^ (d.scale + k)
abbrev pub numerator : Decimal → ℕ → ℤ
numerator d k = d.coefficient *ℤ pos (10 ^ k)

-- r = a + b
abbrev pub IsSum : Decimal → Decimal → Decimal → Type 0
IsSum a b r = numerator r (a.scale + b.scale) ≡ (numerator a b.scale +ℤ numerator b a.scale) *ℤ pos (10 ^ r.scale)

-- r = a - b
abbrev pub IsDifference : Decimal → Decimal → Decimal → Type 0
IsDifference a b r = numerator r (a.scale + b.scale) ≡ (numerator a b.scale -ℤ numerator b a.scale) *ℤ pos (10 ^ r.scale)

-- r = a * b
abbrev pub IsProduct : Decimal → Decimal → Decimal → Type 0
IsProduct a b r = numerator r (a.scale + b.scale) ≡ (a.coefficient *ℤ b.coefficient) *ℤ pos (10 ^ r.scale)

-- r is a / b cut toward zero to the scale of r
abbrev pub IsQuotient : Decimal → Decimal → Decimal → Type 0
IsQuotient a b r = r.coefficient ≡ int_div (numerator a (b.scale + r.scale)) (numerator b a.scale)

-- how many whole times b goes into a: a / b cut toward zero to a whole number
abbrev pub whole_quotient : Decimal → Decimal → ℤ
whole_quotient a b = int_div (numerator a b.scale) (numerator b a.scale)

-- r = a - q * b, where q is that whole number
abbrev pub IsRemainder : Decimal → Decimal → Decimal → Type 0
IsRemainder a b r =
    numerator r (a.scale + b.scale) ≡ (numerator a b.scale -ℤ whole_quotient a b *ℤ numerator b a.scale) *ℤ pos (10 ^ r.scale)

-- r is d cut toward zero to the scale of r
abbrev pub IsCut : Decimal → Decimal → Type 0
IsCut d r = r.coefficient ≡ int_div (numerator d r.scale) (pos (10 ^ d.scale))
