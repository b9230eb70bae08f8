-- Positions as natural numbers.
use Rattle.std.specs.Prelude.{ℕ, ℤ, pos, negsuc}

-- the least natural number from z on
abbrev pub least : ℤ → ℕ
least (pos n) = n
least (negsuc n) = 0
