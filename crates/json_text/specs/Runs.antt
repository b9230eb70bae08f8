-- The bytes of a string that stand for themselves.
use Rattle.std.specs.Prelude.{ℕ, Bool, not, ◌||◌, ◌==◌, nat_lt}

-- a quotation mark, a reverse solidus or a control character
abbrev pub is_special : ℕ → Bool
is_special c = c == 34 || c == 92 || nat_lt c 32

abbrev pub is_plain : ℕ → Bool
is_plain c = not (is_special c)
