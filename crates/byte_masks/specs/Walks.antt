-- A walk over the places of one byte in a slice, from some place on.
use Rattle.std.specs.Prelude.{◌≡◌, ◌≢◌, ℕ, ◌+◌, ◌<◌, ◌≤◌, List, ◌++◌, Option, MatchOption, length, drop, slice_index}
use Rattle.byte_masks.specs.Masks.{is_byte, places_of}

-- the byte that is walked, the places that were found and not yet given, and the place of the first byte that was not looked at
pub record Walk : Type 0 where
  pub byte : ℕ
  pub ahead : List ℕ
  pub from : ℕ

-- the places of the byte from place `at` on
abbrev pub places_from : ℕ → List ℕ → ℕ → List ℕ
places_from byte bytes at = places_of (is_byte byte) at (drop at bytes)

-- the places that are still to come
abbrev pub left : Walk → List ℕ → List ℕ
left walk bytes = walk.ahead ++ places_from walk.byte bytes walk.from

-- what is still to come is each place of the byte from place `at` on
pub record StandsAt (walk : Walk) (bytes : List ℕ) (at : ℕ) : Type 0 where
  pub within : at ≤ length bytes
  pub looked : walk.from ≤ length bytes
  pub all : left walk bytes ≡ places_from walk.byte bytes at

-- no place from `at` up to `end` has the byte
abbrev pub HasNone : ℕ → List ℕ → ℕ → ℕ → Type 0
HasNone byte bytes at end = (k : ℕ) → at ≤ k → k < end → slice_index bytes k ≢ byte

-- p is the first place of the byte from place `at` on
pub record IsFirst (byte : ℕ) (bytes : List ℕ) (at p : ℕ) : Type 0 where
  pub low : at ≤ p
  pub high : p < length bytes
  pub here : slice_index bytes p ≡ byte
  pub before : HasNone byte bytes at p

-- a walk that stood at place `at` gave the first place from there on and stands behind it, or there is none
abbrev pub GaveFirst : Walk → List ℕ → ℕ → Option ℕ → Walk → Type 0
GaveFirst walk bytes at r next =
    MatchOption r (HasNone walk.byte bytes at (length bytes) × StandsAt next bytes at) (λ p. IsFirst walk.byte bytes at p × StandsAt next bytes (p + 1))

-- bytes that are added at the end leave a walk where it stands
abbrev pub AddedBytesKeep : Type 0
AddedBytesKeep = (walk : Walk) (bytes more : List ℕ) (at : ℕ) → StandsAt walk bytes at → StandsAt walk (bytes ++ more) at
