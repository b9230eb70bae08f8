-- The output is cut at each multiple of 65,536 bytes. Every piece but the last is whole.
use Rattle.std.specs.Prelude.{ℕ, zero, suc, ◌*◌, ◌/◌, List, [], ◌∷◌, ◌++◌, length, take, drop}

-- the bytes of a whole piece
abbrev pub piece : ℕ
piece = 65536

-- the first n pieces of so many bytes
abbrev pub cut : ℕ → ℕ → List ℕ → List (List ℕ)
cut size zero bytes = []
cut size (suc n) bytes = take size bytes ∷ cut size n (drop size bytes)

-- the whole pieces
unfoldable pub whole_pieces : List ℕ → List (List ℕ)
whole_pieces bytes = cut piece (length bytes / piece) bytes

-- what the whole pieces leave
unfoldable pub remainder : List ℕ → List ℕ
remainder bytes = drop (length bytes / piece * piece) bytes

-- a piece of its own, unless it is empty
abbrev pub unless_empty : List ℕ → List (List ℕ)
unless_empty [] = []
unless_empty (byte ∷ bytes) = (byte ∷ bytes) ∷ []

-- each piece, in order; an empty output has none
abbrev pub pieces : List ℕ → List (List ℕ)
pieces bytes = whole_pieces bytes ++ unless_empty (remainder bytes)
