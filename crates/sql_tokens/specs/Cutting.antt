-- A query cut into tokens, from the left. Blanks stand between tokens, or nothing does.
use Rattle.std.specs.Prelude.{ℕ, zero, suc, ◌+◌, ◌-◌, Bool, true, false, List, [], ◌∷◌, length, drop, Option, Some, None, if◌then◌else◌}
use Rattle.sql_tokens.specs.declared.class.Class.{Class}
use Rattle.sql_tokens.specs.declared.class.Class.TheVariants.{NoToken}
use Rattle.sql_tokens.specs.TokenForms.{Token, word, quoted_name, text_literal, whole_number, point_number, exponent_number, punctuation, unfit, class_of, length_of, is_blank, token_from}

-- a token and its place in bytes
pub record Symbol : Type 0 where
  pub at : ℕ
  pub token : Token

-- the tokens of these bytes, of which the first stands at this place, but for the first `skip` bytes, which belong to a
-- token that began before
abbrev pub cut_behind : ℕ → ℕ → List ℕ → List Symbol
cut_behind skip at [] = []
cut_behind (suc skip) at (b ∷ bs) = cut_behind skip (at + 1) bs
cut_behind zero at (b ∷ bs) =
    if is_blank b then cut_behind 0 (at + 1) bs
    else record { at = at; token = token_from b bs } ∷ cut_behind (length_of (token_from b bs) - 1) (at + 1) bs

-- the tokens of bytes that begin at this place
unfoldable pub cut : ℕ → List ℕ → List Symbol
cut at bs = cut_behind 0 at bs

-- the tokens of a text
abbrev pub symbols_of : List ℕ → List Symbol
symbols_of text = cut 0 text

abbrev pub is_unfit : Token → Bool
is_unfit (unfit raw) = true
is_unfit (word called w) = false
is_unfit (quoted_name called raw) = false
is_unfit (text_literal raw) = false
is_unfit (whole_number raw) = false
is_unfit (point_number raw) = false
is_unfit (exponent_number raw) = false
is_unfit (punctuation c) = false

-- whether no token stands in front
abbrev pub starts_unfit : List Symbol → Bool
starts_unfit [] = false
starts_unfit (s ∷ ss) = is_unfit s.token

-- the first place at which no token stands
abbrev pub first_unfit : List Symbol → Option ℕ
first_unfit [] = None
first_unfit (s ∷ ss) = if is_unfit s.token then Some s.at else first_unfit ss

-- the place of a text's lexer fault, where it has one; else the text is cut into tokens
abbrev pub lexer_fault : List ℕ → Option ℕ
lexer_fault text = first_unfit (symbols_of text)

-- what is left of a text: its tokens, and the length of the whole text
pub record Remaining : Type 0 where
  pub symbols : List Symbol
  pub size : ℕ

-- a whole text
abbrev pub whole : List ℕ → Remaining
whole text = record { symbols = symbols_of text; size = length text }

-- what is left behind the first token
abbrev pub behind_first : Remaining → Remaining
behind_first r = record { symbols = drop 1 r.symbols; size = r.size }

abbrev pub place_or : ℕ → List Symbol → ℕ
place_or size [] = size
place_or size (s ∷ ss) = s.at

-- the place of the first token that is left, or the text's length
abbrev pub first_place : Remaining → ℕ
first_place r = place_or r.size r.symbols

-- the class of the first token that is left
abbrev pub first_class : List Symbol → Class
first_class [] = NoToken
first_class (s ∷ ss) = class_of s.token
