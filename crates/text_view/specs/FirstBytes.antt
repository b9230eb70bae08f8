-- Characters told by their first bytes: the others are from 128 to 191 (RFC 3629, section 3).
use Rattle.std.specs.Prelude.{◌≡◌, ℕ, Bool, ◌||◌, nat_lt, nat_le, List, take, drop}
use Rattle.std.specs.Str.{chars, IsCharBoundary}

-- the byte begins a character
abbrev pub begins_char : ℕ → Bool
begins_char byte = nat_lt byte 128 || nat_le 192 byte

-- the place behind the first n characters
pub record IsBehind (bytes : List ℕ) (n place : ℕ) : Type 0 where
  pub boundary : IsCharBoundary bytes place
  pub front : chars (take place bytes) ≡ take n (chars bytes)
  pub back : chars (drop place bytes) ≡ drop n (chars bytes)
