-- Arithmetic on decimals, over whole numbers without bound, and its two faults.
use Rattle.std.specs.Prelude.{ℕ, ◌+◌, ◌-◌, ◌^◌, max, ℤ, pos, ◌+ℤ◌, ◌-ℤ◌, ◌*ℤ◌, int_div, int_rem, Bool, ◌&&◌, ◌==◌, if◌then◌else◌, Result, Ok, Err, unsigned_abs}
use Rattle.sql_decimal.specs.declared.decimal.NumFault.{NumFault}
use Rattle.sql_decimal.specs.declared.decimal.NumFault.TheVariants.{Overflow, DivideByZero}
use Rattle.sql_decimal.specs.Decimal.{Decimal, decimal_of, is_within, is_decimal}

-- the coefficient of d at the scale s, which is no smaller than its own
abbrev pub aligned : Decimal → ℕ → ℤ
aligned d s = d.coefficient *ℤ pos (10 ^ (s - d.scale))

-- the larger of the two scales
abbrev pub common_scale : Decimal → Decimal → ℕ
common_scale a b = max a.scale b.scale

-- both coefficients at the larger scale have at most 38 digits
abbrev pub are_aligned : Decimal → Decimal → Bool
are_aligned a b = is_within 38 (aligned a (common_scale a b)) && is_within 38 (aligned b (common_scale a b))

-- c / 10 ^ s, or Overflow where it is no decimal
abbrev pub decimal_or_overflow : ℤ → ℕ → Result Decimal NumFault
decimal_or_overflow c s = if is_decimal c s then Ok (decimal_of c s) else Err Overflow

-- a + b at the larger scale
unfoldable pub sum : Decimal → Decimal → Result Decimal NumFault
sum a b =
    let s = common_scale a b in
    if are_aligned a b then decimal_or_overflow (aligned a s +ℤ aligned b s) s else Err Overflow

-- a - b at the larger scale
unfoldable pub difference : Decimal → Decimal → Result Decimal NumFault
difference a b =
    let s = common_scale a b in
    if are_aligned a b then decimal_or_overflow (aligned a s -ℤ aligned b s) s else Err Overflow

-- a * b at the sum of the scales
unfoldable pub product : Decimal → Decimal → Result Decimal NumFault
product a b = decimal_or_overflow (a.coefficient *ℤ b.coefficient) (a.scale + b.scale)

-- a / b at the larger scale, which is 6 at least, cut toward zero
unfoldable pub quotient : Decimal → Decimal → Result Decimal NumFault
quotient a b =
    let s = max (common_scale a b) 6 in
    let numerator = a.coefficient *ℤ pos (10 ^ (s - a.scale + b.scale)) in
    if unsigned_abs b.coefficient == 0 then Err DivideByZero
    else (if is_within 38 numerator then decimal_or_overflow (int_div numerator b.coefficient) s else Err Overflow)

-- what is left of a after division by b at the larger scale, with the sign of a
unfoldable pub remainder : Decimal → Decimal → Result Decimal NumFault
remainder a b =
    let s = common_scale a b in
    if unsigned_abs b.coefficient == 0 then Err DivideByZero
    else (if are_aligned a b then decimal_or_overflow (int_rem (aligned a s) (aligned b s)) s else Err Overflow)

-- the coefficient of d cut toward zero to the scale s
abbrev pub cut_coefficient : Decimal → ℕ → ℤ
cut_coefficient d s = int_div (d.coefficient *ℤ pos (10 ^ s)) (pos (10 ^ d.scale))

-- d cut toward zero to the scale s, or Overflow where that needs more than p digits
unfoldable pub cut : Decimal → ℕ → ℕ → Result Decimal NumFault
cut d p s = if is_within p (cut_coefficient d s) then Ok (decimal_of (cut_coefficient d s) s) else Err Overflow
