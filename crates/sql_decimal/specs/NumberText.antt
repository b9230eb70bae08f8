-- Number texts: spaces, an optional sign, digits with an optional point and digits, an optional
-- exponent, spaces. A text is a tree, a printer from the tree to its characters, and a fact that
-- says which trees are valid. The number that a text means stands below.
use Rattle.std.specs.Prelude.{◌≡◌, ℕ, ◌^◌, ◌<◌, suc, Bool, true, false, ◌==◌, ℤ, pos, negsuc, ◌-ℤ◌, ◌*ℤ◌, List, [], ◌∷◌, ◌++◌, length, replicate, Option, Some, None, IfSome, IsTrue, if◌then◌else◌}
use Rattle.std.specs.Str.{all_ascii_digits}
use Rattle.std.specs.Str.Parse.{digits_value}
use Rattle.sql_decimal.specs.declared.number.Num.{Num}
use Rattle.sql_decimal.specs.declared.number.Num.TheVariants.{Int, Dec}
use Rattle.sql_decimal.specs.Decimal.{decimal_of, is_decimal, is_64_bit, signed}

-- the characters
abbrev pub space : ℕ
space = 32

abbrev pub plus_sign : ℕ
plus_sign = 43

abbrev pub minus_sign : ℕ
minus_sign = 45

abbrev pub decimal_point : ℕ
decimal_point = 46

abbrev pub capital_e : ℕ
capital_e = 69

abbrev pub small_e : ℕ
small_e = 101

-- sign = "+" / "-"
pub data Sign : Type 0 where
  plus minus : Sign

abbrev pub print_sign : Option Sign → List ℕ
print_sign None = []
print_sign (Some plus) = plus_sign ∷ []
print_sign (Some minus) = minus_sign ∷ []

-- exponent = ("e" / "E") [sign] digits
pub record Exponent : Type 0 where
  pub capital : Bool
  pub sign : Option Sign
  pub digits : List ℕ

abbrev pub print_exponent : Option Exponent → List ℕ
print_exponent None = []
print_exponent (Some x) = (if x.capital then capital_e else small_e) ∷ print_sign x.sign ++ x.digits

-- number = *space [sign] digits ["." digits] [exponent] *space
pub record NumberText : Type 0 where
  pub before : ℕ
  pub sign : Option Sign
  pub whole : List ℕ
  pub fraction : Option (List ℕ)
  pub exponent : Option Exponent
  pub after : ℕ

abbrev pub print_fraction : Option (List ℕ) → List ℕ
print_fraction None = []
print_fraction (Some ds) = decimal_point ∷ ds

-- the characters of a number text
abbrev pub print_number : NumberText → List ℕ
print_number t =
    replicate t.before space ++ (print_sign t.sign ++ (t.whole ++ (print_fraction t.fraction ++ (print_exponent t.exponent ++ replicate t.after space))))

-- digits: one or more of "0" to "9"
pub record IsDigits (ds : List ℕ) : Type 0 where
  pub some : 0 < length ds
  pub all : IsTrue (all_ascii_digits ds)

-- every list of digits in the text is one
pub record IsNumberText (t : NumberText) : Type 0 where
  pub whole : IsDigits t.whole
  pub fraction : IfSome t.fraction IsDigits
  pub exponent : IfSome t.exponent (λ x. IsDigits x.digits)

-- ---- the number that a text means

-- a minus makes the number negative
abbrev pub is_minus : Option Sign → Bool
is_minus None = false
is_minus (Some plus) = false
is_minus (Some minus) = true

-- c / 10 ^ s, where that is a decimal
abbrev pub decimal_number : ℤ → ℕ → Option Num
decimal_number c s = if is_decimal c s then Some (Dec (decimal_of c s)) else None

-- digits of the value m, without a point and an exponent: an Int within 64 bits, else a decimal
abbrev pub whole_number : Bool → ℕ → Option Num
whole_number negative m =
    if is_64_bit (signed negative m) then Some (Int (signed negative m)) else decimal_number (signed negative m) 0

-- c / 10 ^ s, where s below 0 stands for a product
abbrev pub shifted_number : ℤ → ℤ → Option Num
shifted_number c (pos s) = decimal_number c s
shifted_number c (negsuc k) = decimal_number (c *ℤ pos (10 ^ suc k)) 0

-- digits of the value m, f of them after the point, times 10 ^ e: zero has the scale 0
abbrev pub scaled_number : Bool → ℕ → ℕ → ℤ → Option Num
scaled_number negative m f e =
    if m == 0 then Some (Dec (decimal_of (pos 0) 0)) else shifted_number (signed negative m) (pos f -ℤ e)

-- the digits without the point
abbrev pub all_digits : List ℕ → Option (List ℕ) → List ℕ
all_digits whole None = whole
all_digits whole (Some fraction) = whole ++ fraction

-- the number of digits after the point
abbrev pub places : Option (List ℕ) → ℕ
places None = 0
places (Some fraction) = length fraction

-- the number of a sign, digits of the value m, a fraction and an exponent
abbrev pub number_from : Bool → ℕ → Option (List ℕ) → Option Exponent → Option Num
number_from negative m None None = whole_number negative m
number_from negative m (Some fraction) None = decimal_number (signed negative m) (length fraction)
number_from negative m fraction (Some x) =
    scaled_number negative m (places fraction) (signed (is_minus x.sign) (digits_value 10 x.digits))

-- the number of a text, where it is an Int or a decimal
unfoldable pub number_of_text : NumberText → Option Num
number_of_text t =
    number_from (is_minus t.sign) (digits_value 10 (all_digits t.whole t.fraction)) t.fraction t.exponent

-- the characters cs spell the number n
pub record Spells (cs : List ℕ) (n : Num) : Type 0 where
  pub text : NumberText
  pub valid : IsNumberText text
  pub characters : print_number text ≡ cs
  pub number : number_of_text text ≡ Some n
