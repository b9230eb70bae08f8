-- Numbers of a file, which are signed there.
use Rattle.std.specs.Prelude.{ℕ, ℤ, pos, negsuc, int_lt, Bool}

abbrev pub is_negative : ℤ → Bool
is_negative z = int_lt z (pos 0)

-- the number, unless it is negative
abbrev pub natural : ℤ → ℕ
natural (pos n) = n
natural (negsuc n) = 0
