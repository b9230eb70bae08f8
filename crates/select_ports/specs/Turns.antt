-- How a form in memory answers its calls: which of them fail, and how many bytes each of the others hands out or takes.
use Rattle.std.specs.Prelude.{ℕ, ◌+◌, ◌-◌, ◌^◌, min, List, [], ◌∷◌, length, slice_index, Contains}

-- what was handed in, and how far it has been used
pub record Script : Type 0 where
  -- the lengths to hand out or take, in turn
  pub lengths : List ℕ
  -- the numbers of the calls that fail
  pub fails : List ℕ
  -- how many calls there were
  pub calls : ℕ
  -- how many of them handed out or took bytes
  pub turns : ℕ

-- a script that no call has used yet
abbrev pub fresh : List ℕ → List ℕ → Script
fresh lengths fails = record { lengths = lengths; fails = fails; calls = 0; turns = 0 }

-- one more than a count, up to the largest value of 64 bits
abbrev pub next_count : ℕ → ℕ
next_count n = min (n + 1) (2 ^ 64 - 1)

-- the next call is one of those that fail; calls are numbered from 1 on
abbrev pub IsToFail : Script → Type 0
IsToFail s = Contains s.fails (next_count s.calls)

-- the script after one more call
abbrev pub called : Script → Script
called s = record { lengths = s.lengths; fails = s.fails; calls = next_count s.calls; turns = s.turns }

-- the script after one more call, which handed out or took bytes
abbrev pub moved : Script → Script
moved s = record { lengths = s.lengths; fails = s.fails; calls = next_count s.calls; turns = next_count s.turns }

-- of so many bytes as many as the length of this turn allows: the lengths come one after another, the last again and again,
-- and without any all of them
abbrev pub portion_of : List ℕ → ℕ → ℕ → ℕ
portion_of [] turn fits = fits
portion_of (n ∷ ns) turn fits = min (slice_index (n ∷ ns) (min turn (length ns))) fits

-- how many of so many bytes the next call hands out or takes
abbrev pub portion : Script → ℕ → ℕ
portion s fits = portion_of s.lengths s.turns fits
