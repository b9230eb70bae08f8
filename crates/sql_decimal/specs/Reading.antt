-- The number that a list of characters spells, as a function that goes through the list once.
use Rattle.std.specs.Prelude.{ℕ, ◌+◌, ◌*◌, Bool, true, false, ◌||◌, ◌==◌, List, [], ◌∷◌, Option, Some, None, ℤ, if◌then◌else◌}
use Rattle.std.specs.Char.{is_ascii_digit, digit_value}
use Rattle.sql_decimal.specs.declared.number.Num.{Num}
use Rattle.sql_decimal.specs.declared.number.Num.TheVariants.{Int, Dec}
use Rattle.sql_decimal.specs.Decimal.{signed}
use Rattle.sql_decimal.specs.NumberText.{space, plus_sign, minus_sign, decimal_point, capital_e, small_e, decimal_number, whole_number, scaled_number}

-- the mark of an exponent
abbrev pub is_mark : ℕ → Bool
is_mark c = (c == small_e) || (c == capital_e)

-- the value of a digit more
abbrev pub with_digit : ℕ → ℕ → ℕ
with_digit n c = n * 10 + digit_value c

-- the number n, if spaces alone are left
abbrev pub after_number : Option Num → List ℕ → Option Num
after_number n [] = n
after_number n (c ∷ cs) = if c == space then after_number n cs else None

-- within the exponent, whose digits so far have the value e
abbrev pub in_exponent : Bool → ℕ → ℕ → Bool → ℕ → List ℕ → Option Num
in_exponent negative m f below e [] = scaled_number negative m f (signed below e)
in_exponent negative m f below e (c ∷ cs) =
    if is_ascii_digit c then in_exponent negative m f below (with_digit e c) cs
    else after_number (scaled_number negative m f (signed below e)) (c ∷ cs)

-- where the first digit of an exponent must stand
abbrev pub exponent_digits : Bool → ℕ → ℕ → Bool → List ℕ → Option Num
exponent_digits negative m f below [] = None
exponent_digits negative m f below (c ∷ cs) =
    if is_ascii_digit c then in_exponent negative m f below (digit_value c) cs else None

-- after the mark of an exponent
abbrev pub after_mark : Bool → ℕ → ℕ → List ℕ → Option Num
after_mark negative m f [] = None
after_mark negative m f (c ∷ cs) =
    if c == minus_sign then exponent_digits negative m f true cs
    else (if c == plus_sign then exponent_digits negative m f false cs else exponent_digits negative m f false (c ∷ cs))

-- within the digits after the point, f so far, where all digits so far have the value m
abbrev pub in_fraction : Bool → ℕ → ℕ → List ℕ → Option Num
in_fraction negative m f [] = decimal_number (signed negative m) f
in_fraction negative m f (c ∷ cs) =
    if is_ascii_digit c then in_fraction negative (with_digit m c) (f + 1) cs
    else (if is_mark c then after_mark negative m f cs else after_number (decimal_number (signed negative m) f) (c ∷ cs))

-- where the first digit after the point must stand
abbrev pub fraction_digits : Bool → ℕ → List ℕ → Option Num
fraction_digits negative m [] = None
fraction_digits negative m (c ∷ cs) = if is_ascii_digit c then in_fraction negative (with_digit m c) 1 cs else None

-- within the digits before the point, which so far have the value m
abbrev pub in_whole : Bool → ℕ → List ℕ → Option Num
in_whole negative m [] = whole_number negative m
in_whole negative m (c ∷ cs) =
    if is_ascii_digit c then in_whole negative (with_digit m c) cs
    else (if c == decimal_point then fraction_digits negative m cs
    else (if is_mark c then after_mark negative m 0 cs else after_number (whole_number negative m) (c ∷ cs)))

-- where the first digit must stand
abbrev pub whole_digits : Bool → List ℕ → Option Num
whole_digits negative [] = None
whole_digits negative (c ∷ cs) = if is_ascii_digit c then in_whole negative (digit_value c) cs else None

-- the number that the characters spell
unfoldable pub number_of : List ℕ → Option Num
number_of [] = None
number_of (c ∷ cs) =
    if c == space then number_of cs
    else (if c == minus_sign then whole_digits true cs
    else (if c == plus_sign then whole_digits false cs else whole_digits false (c ∷ cs)))

-- the Int that it is, if it is one
abbrev pub int_of : Option Num → Option ℤ
int_of None = None
int_of (Some (Int z)) = Some z
int_of (Some (Dec d)) = None
