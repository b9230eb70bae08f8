-- What reading the bytes of a text from some place on says of reading its characters.
use Rattle.std.specs.Prelude.{◌≡◌, ℕ, ◌+◌, ◌-◌, ◌<◌, Bool, true, List, Option, get_or, drop}
use Rattle.std.specs.Char.{is_ascii_digit}
use Rattle.std.specs.Str.{chars}
use Rattle.sql_decimal.specs.declared.number.Num.{Num}
use Rattle.sql_decimal.specs.Decimal.{signed}
use Rattle.sql_decimal.specs.NumberText.{decimal_number, whole_number}
use Rattle.sql_decimal.specs.Reading.{number_of, in_whole, in_fraction, after_number}

-- the characters from the place i on
abbrev pub chars_from : List ℕ → ℕ → List ℕ
chars_from bs i = chars (drop i bs)

-- the bytes from the place i up to j are spaces
pub record ReadsSpaces (bs : List ℕ) (i j : ℕ) : Type 0 where
  pub before : number_of (chars_from bs i) ≡ number_of (chars_from bs j)
  pub behind : (n : Option Num) → after_number n (chars_from bs i) ≡ after_number n (chars_from bs j)

-- the bytes from the place i up to j are digits, which make the value m the value n
pub record ReadsDigits (bs : List ℕ) (i m j n : ℕ) : Type 0 where
  pub first : i < j → is_ascii_digit (get_or bs i 0) ≡ true
  pub whole : (negative : Bool) → in_whole negative m (chars_from bs i) ≡ in_whole negative n (chars_from bs j)
  pub fraction : (negative : Bool) (f : ℕ) → in_fraction negative m f (chars_from bs i) ≡ in_fraction negative n (f + (j - i)) (chars_from bs j)

-- a number may end before these characters
pub record EndsBefore (cs : List ℕ) : Type 0 where
  pub whole : (negative : Bool) (m : ℕ) → in_whole negative m cs ≡ whole_number negative m
  pub fraction : (negative : Bool) (m f : ℕ) → in_fraction negative m f cs ≡ decimal_number (signed negative m) f
