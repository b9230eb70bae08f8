-- What a token spells, beyond its class.
use Rattle.std.specs.Prelude.{ℕ, Bool, false, ◌&&◌, ◌==◌, List, [], ◌∷◌, Option, None, Some, if◌then◌else◌}
use Rattle.sql_decimal.specs.declared.number.Num.{Num}
use Rattle.sql_decimal.specs.Reading.{number_of}
use Rattle.sql_tokens.specs.TokenForms.{Token, word, quoted_name, text_literal, whole_number, point_number, exponent_number, punctuation, unfit}
use Rattle.sql_tokens.specs.Cutting.{Symbol}

-- the letters of a word
abbrev pub word_of : Token → Option (List ℕ)
word_of (word called w) = Some w
word_of (quoted_name called raw) = None
word_of (text_literal raw) = None
word_of (whole_number raw) = None
word_of (point_number raw) = None
word_of (exponent_number raw) = None
word_of (punctuation c) = None
word_of (unfit raw) = None

-- the bytes of a quoted name, as they stand between its quotes
abbrev pub quoted_of : Token → Option (List ℕ)
quoted_of (word called w) = None
quoted_of (quoted_name called raw) = Some raw
quoted_of (text_literal raw) = None
quoted_of (whole_number raw) = None
quoted_of (point_number raw) = None
quoted_of (exponent_number raw) = None
quoted_of (punctuation c) = None
quoted_of (unfit raw) = None

-- the bytes of a text, as they stand between its quotes
abbrev pub text_of : Token → Option (List ℕ)
text_of (word called w) = None
text_of (quoted_name called raw) = None
text_of (text_literal raw) = Some raw
text_of (whole_number raw) = None
text_of (point_number raw) = None
text_of (exponent_number raw) = None
text_of (punctuation c) = None
text_of (unfit raw) = None

-- the digits of a number, with its point
abbrev pub digits_of : Token → Option (List ℕ)
digits_of (word called w) = None
digits_of (quoted_name called raw) = None
digits_of (text_literal raw) = None
digits_of (whole_number raw) = Some raw
digits_of (point_number raw) = Some raw
digits_of (exponent_number raw) = None
digits_of (punctuation c) = None
digits_of (unfit raw) = None

-- what the first token that is left spells
abbrev pub first_of : (Token → Option (List ℕ)) → List Symbol → Option (List ℕ)
first_of spelled [] = None
first_of spelled (s ∷ ss) = spelled s.token

-- the number of such digits: that of the number text with a zero in front, since no number text begins with its point
abbrev pub number_from : Option (List ℕ) → Option Num
number_from None = None
number_from (Some raw) = number_of (48 ∷ raw)

-- the number in front
abbrev pub first_number : List Symbol → Option Num
first_number ss = number_from (first_of digits_of ss)

-- ---- doubled quotes

-- the bytes with each doubled quote once, behind a quote that was kept or not
abbrev pub once_behind : ℕ → Bool → List ℕ → List ℕ
once_behind quote kept [] = []
once_behind quote kept (b ∷ bs) =
    if kept && (b == quote) then once_behind quote false bs else b ∷ once_behind quote (b == quote) bs

-- the characters that stand between such quotes, in UTF-8
unfoldable pub undoubled : ℕ → List ℕ → List ℕ
undoubled quote raw = once_behind quote false raw
