-- Which bytes pass a test: as a mask of up to 64 bits, and as the list of their places.
use Rattle.std.specs.Prelude.{◌≡◌, ◌↔◌, ℕ, zero, suc, ◌+◌, ◌<◌, ◌≤◌, ◌==◌, ◌||◌, nat_le, Bool, true, if◌then◌else◌, List, [], ◌∷◌, ◌++◌, length, slice_index}
use Rattle.std.specs.Int.{bit_at}

-- the test that a byte is a
abbrev pub is_byte : ℕ → ℕ → Bool
is_byte a x = x == a

-- the test that a byte is a or b
abbrev pub is_either : ℕ → ℕ → ℕ → Bool
is_either a b x = x == a || x == b

-- the test that a byte is no ASCII character
abbrev pub is_high : ℕ → Bool
is_high x = nat_le 128 x

-- the byte at place k passes the test
abbrev pub Passes : (ℕ → Bool) → List ℕ → ℕ → Type 0
Passes test bytes k = test (slice_index bytes k) ≡ true

-- bit k of m is set exactly where there is a byte at place k, and it passes
pub record Marks (test : ℕ → Bool) (bytes : List ℕ) (m : ℕ) : Type 0 where
  pub each : (k : ℕ) → (bit_at m k ≡ 1) ↔ ((k < length bytes) × Passes test bytes k)

-- the places of the bytes that pass, where the first byte stands at place i
unfoldable pub places_of : (ℕ → Bool) → ℕ → List ℕ → List ℕ
places_of test i [] = []
places_of test i (b ∷ bs) = if test b then i ∷ places_of test (i + 1) bs else places_of test (i + 1) bs

-- of the n bits of m from bit k on, the places of those that are set, where bit 0 stands for place s
unfoldable pub set_places : ℕ → ℕ → ℕ → ℕ → List ℕ
set_places s m k zero = []
set_places s m k (suc n) = if bit_at m k == 1 then (s + k) ∷ set_places s m (k + 1) n else set_places s m (k + 1) n

-- the places of all bits that are set in a mask of 64
abbrev pub marked : ℕ → ℕ → List ℕ
marked s m = set_places s m 0 64

-- the set bits of a mask of up to 64 bytes are the places of the bytes that pass
abbrev pub MarksArePlaces : Type 0
MarksArePlaces = (test : ℕ → Bool) (s m : ℕ) (bytes : List ℕ) → length bytes ≤ 64 → Marks test bytes m → marked s m ≡ places_of test s bytes

-- the places of two lists of bytes, one behind the other
abbrev pub PlacesAppend : Type 0
PlacesAppend = (test : ℕ → Bool) (i : ℕ) (xs ys : List ℕ) → places_of test i (xs ++ ys) ≡ places_of test i xs ++ places_of test (i + length xs) ys
