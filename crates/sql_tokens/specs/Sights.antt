-- What a contract sees of the cursor over a text's tokens.
use Rattle.std.specs.Prelude.{◌≡◌, ℕ, List, [], ◌∷◌, ◌+◌, length, drop, ◌<◌, ◌≤◌, Option, Some, None, IfSome}
use Rattle.sql_tokens.specs.declared.sight.Sight.{Sight}
use Rattle.sql_tokens.specs.declared.sight.Sight.TheVariants.{Word, QuotedName, Text, WholeNumber, PointNumber, ExponentNumber, Punctuation, Unfit}
use Rattle.sql_tokens.specs.TokenForms.{Token, word, quoted_name, text_literal, whole_number, point_number, exponent_number, punctuation, unfit, length_of}
use Rattle.sql_tokens.specs.Cutting.{Symbol, Remaining, cut}

-- the token in sight
abbrev pub shown : Sight → Token
shown (Word called raw) = word called raw.now
shown (QuotedName called raw) = quoted_name called raw.now
shown (Text raw) = text_literal raw.now
shown (WholeNumber raw) = whole_number raw.now
shown (PointNumber raw) = point_number raw.now
shown (ExponentNumber raw) = exponent_number raw.now
shown (Punctuation class) = punctuation class
shown (Unfit raw) = unfit raw.now

-- the tokens that are left: the one in sight, and those of the bytes behind it
abbrev pub seen : Option Sight → ℕ → ℕ → List ℕ → List Symbol
seen None at next behind = []
seen (Some sight) at next behind = record { at = at; token = shown sight } ∷ cut next behind

abbrev pub remaining : Option Sight → ℕ → ℕ → List ℕ → Remaining
remaining sight at next behind = record { symbols = seen sight at next behind; size = next + length behind }

-- the token is in sight, and what is behind it is left
pub record Cuts (t : Token) (text : List ℕ) (sight : Sight) (rest : List ℕ) : Type 0 where
  pub token : shown sight ≡ t
  pub behind : rest ≡ drop (length_of t) text

-- where the token is a number without an exponent, it has at most n bytes
abbrev pub HasShortDigits : ℕ → Token → Type 0
HasShortDigits n (word called w) = Unit {0}
HasShortDigits n (quoted_name called raw) = Unit {0}
HasShortDigits n (text_literal raw) = Unit {0}
HasShortDigits n (whole_number raw) = length raw ≤ n
HasShortDigits n (point_number raw) = length raw ≤ n
HasShortDigits n (exponent_number raw) = Unit {0}
HasShortDigits n (punctuation c) = Unit {0}
HasShortDigits n (unfit raw) = Unit {0}

-- what the cursor holds: a text of fewer than 2^63 - 1 bytes, and a number's digits among them
pub record IsCursor (sight : Option Sight) (next : ℕ) (behind : List ℕ) : Type 0 where
  pub room : next + length behind < 9223372036854775807
  pub digits : IfSome sight (λ s. HasShortDigits 9223372036854775806 (shown s))
