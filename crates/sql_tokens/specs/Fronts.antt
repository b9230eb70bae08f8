-- Where a text may be cut.
use Rattle.std.specs.Prelude.{ℕ, ◌-◌, ◌<◌, ◌≤◌, List, length, slice_index}

-- the first n bytes are none, or the last of them is ASCII
pub record IsAsciiFront (bs : List ℕ) (n : ℕ) : Type 0 where
  pub within : n ≤ length bs
  pub last : 0 < n → slice_index bs (n - 1) < 128
