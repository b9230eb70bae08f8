-- Symbols that stand at places of a text, and what turns the number of a symbol into its place.
use Rattle.std.specs.Prelude.{ℕ, List, [], ◌∷◌, drop}

-- a piece of a text, and the place at which it begins
pub record Placed (P : Type 0) : Type 0 where
  pub at : ℕ
  pub piece : P

-- the place of the first symbol; where none is left, the text's size
abbrev pub first_place : {P : Type 0} → ℕ → List (Placed P) → ℕ
first_place size [] = size
first_place size (s ∷ symbols) = s.at

-- the place of the k-th symbol, counted from 0; behind the last, the text's size
unfoldable pub place_at : {P : Type 0} → ℕ → List (Placed P) → ℕ → ℕ
place_at size symbols k = first_place size (drop k symbols)
