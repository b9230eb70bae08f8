-- Which bytes may be a delimiter, and where one stands among others.
use Rattle.std.specs.Prelude.{◌≡◌, ◌≢◌, ℕ, ◌<◌, Bool, true, false, not, ◌==◌, List, [], ◌∷◌, length, take, drop, slice_index}

-- one byte, or two different ones: such a delimiter never overlaps itself
abbrev pub is_delimiter : List ℕ → Bool
is_delimiter [] = false
is_delimiter (one ∷ []) = true
is_delimiter (first ∷ second ∷ []) = not (first == second)
is_delimiter (first ∷ second ∷ third ∷ more) = false

-- the delimiter stands at this index
abbrev pub StandsAt : List ℕ → List ℕ → ℕ → Type 0
StandsAt delimiter bytes i = take (length delimiter) (drop i bytes) ≡ delimiter

-- the delimiter stands at none of the first n indices
abbrev pub HasNone : List ℕ → List ℕ → ℕ → Type 0
HasNone delimiter bytes n = (k : ℕ) → k < n → StandsAt delimiter bytes k → ⊥

-- the delimiter stands at this index first
pub record IsFirstAt (delimiter bytes : List ℕ) (i : ℕ) : Type 0 where
  pub here : StandsAt delimiter bytes i
  pub before : HasNone delimiter bytes i

-- none of the first n bytes is this one
abbrev pub LacksByte : ℕ → List ℕ → ℕ → Type 0
LacksByte byte bytes n = (k : ℕ) → k < n → slice_index bytes k ≢ byte

-- the byte stands at this index first
pub record IsFirstByteAt (byte : ℕ) (bytes : List ℕ) (at : ℕ) : Type 0 where
  pub within : at < length bytes
  pub here : slice_index bytes at ≡ byte
  pub before : LacksByte byte bytes at
