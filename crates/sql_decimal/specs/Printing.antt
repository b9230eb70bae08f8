-- The text of a decimal.
use Rattle.std.specs.Prelude.{ℕ, ◌-◌, ◌/◌, ◌%◌, ◌^◌, ◌==◌, ◌&&◌, ℤ, pos, negsuc, unsigned_abs, List, [], ◌∷◌, ◌++◌, length, replicate, if◌then◌else◌, decimal}
use Rattle.sql_decimal.specs.declared.number.Num.{Num}
use Rattle.sql_decimal.specs.declared.number.Num.TheVariants.{Int, Dec}
use Rattle.sql_decimal.specs.Decimal.{Decimal, is_64_bit}
use Rattle.sql_decimal.specs.NumberText.{minus_sign, decimal_point}

-- the character 0
abbrev pub digit_zero : ℕ
digit_zero = 48

-- the digits of n, with zeros in front where there are fewer than width
unfoldable pub padded : ℕ → ℕ → List ℕ
padded width n = replicate (width - length (decimal n)) digit_zero ++ decimal n

-- the sign of a number below zero
abbrev pub sign_of : ℤ → List ℕ
sign_of (pos n) = []
sign_of (negsuc n) = minus_sign ∷ []

-- the whole part, in one digit at least
abbrev pub whole_part : Decimal → List ℕ
whole_part d = decimal (unsigned_abs d.coefficient / 10 ^ d.scale)

-- the point and the digits after it, as many as the scale says
abbrev pub fraction_part : Decimal → List ℕ
fraction_part d =
    if d.scale == 0 then [] else decimal_point ∷ padded d.scale (unsigned_abs d.coefficient % 10 ^ d.scale)

-- the text of d
unfoldable pub printed : Decimal → List ℕ
printed d = sign_of d.coefficient ++ whole_part d ++ fraction_part d

-- the number that this text spells: an Int where it has no point and is within 64 bits
abbrev pub read_back : Decimal → Num
read_back d = if (d.scale == 0) && is_64_bit d.coefficient then Int d.coefficient else Dec d
