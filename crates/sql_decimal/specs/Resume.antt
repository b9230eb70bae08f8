-- What a reader that stopped at some place makes of the characters that are left.
use Rattle.std.specs.Prelude.{◌≡◌, ℕ, ◌∷◌, Bool, List, Option, None}
use Rattle.std.specs.Bool.{MatchBool}
use Rattle.sql_decimal.specs.declared.number.Num.{Num}
use Rattle.sql_decimal.specs.declared.reader.Place.{Place}
use Rattle.sql_decimal.specs.declared.reader.Place.TheVariants.{Before, Sign, Whole, Point, Fraction, Mark, ExponentSign, Exponent, AfterWhole, AfterFraction, AfterExponent}
use Rattle.sql_decimal.specs.declared.reader.Reader.{Reader}
use Rattle.sql_decimal.specs.Decimal.{signed}
use Rattle.sql_decimal.specs.NumberText.{decimal_number, whole_number, scaled_number}
use Rattle.sql_decimal.specs.Reading.{number_of, whole_digits, in_whole, fraction_digits, in_fraction, after_mark, exponent_digits, in_exponent, after_number}

-- at each place
abbrev pub resume_at : Place → Reader → List ℕ → Option Num
resume_at Before r cs = number_of cs
resume_at Sign r cs = whole_digits r.negative cs
resume_at Whole r cs = in_whole r.negative r.mantissa cs
resume_at Point r cs = fraction_digits r.negative r.mantissa cs
resume_at Fraction r cs = in_fraction r.negative r.mantissa r.places cs
resume_at Mark r cs = after_mark r.negative r.mantissa r.places cs
resume_at ExponentSign r cs = exponent_digits r.negative r.mantissa r.places r.exponent_negative cs
resume_at Exponent r cs = in_exponent r.negative r.mantissa r.places r.exponent_negative r.exponent cs
resume_at AfterWhole r cs = after_number (whole_number r.negative r.mantissa) cs
resume_at AfterFraction r cs = after_number (decimal_number (signed r.negative r.mantissa) r.places) cs
resume_at AfterExponent r cs = after_number (scaled_number r.negative r.mantissa r.places (signed r.exponent_negative r.exponent)) cs

-- the number that the reader comes to when these characters follow
unfoldable pub resume : Reader → List ℕ → Option Num
resume r cs = resume_at r.place r cs

-- the reader took c: what follows means the same to the new reader as c and it did to the old one.
-- Where it did not take c, no characters after c make a number.
unfoldable pub Takes : Reader → ℕ → Bool → Reader → Type 0
Takes old c taken new =
    (rest : List ℕ) → MatchBool taken (resume old (c ∷ rest) ≡ resume new rest) (resume old (c ∷ rest) ≡ None)
