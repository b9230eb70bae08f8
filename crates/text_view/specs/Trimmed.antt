-- A text without the characters of a set at its sides.
use Rattle.std.specs.Prelude.{ℕ, ◌/◌, ◌%◌, Bool, ◌==◌, List, [], ◌∷◌, reverse, slice_index, if◌then◌else◌}
use Rattle.std.specs.Int.{bit_at}
use Rattle.std.specs.List.{list_any}
use Rattle.text_view.specs.declared.view.Side.{Side}
use Rattle.text_view.specs.declared.view.Side.TheVariants.{Leading, Trailing, Both}

-- the character is in the set
abbrev pub contains : List ℕ → ℕ → Bool
contains set c = list_any (λ d. d == c) set

-- the characters from the first that isn't in the set
abbrev pub without_leading : List ℕ → List ℕ → List ℕ
without_leading set [] = []
without_leading set (c ∷ cs) = if contains set c then without_leading set cs else c ∷ cs

-- the characters up to the last that isn't in the set
unfoldable pub without_trailing : List ℕ → List ℕ → List ℕ
without_trailing set cs = reverse (without_leading set (reverse cs))

-- the text without the characters of the set at that side
abbrev pub trimmed : Side → List ℕ → List ℕ → List ℕ
trimmed Leading set cs = without_leading set cs
trimmed Trailing set cs = without_trailing set cs
trimmed Both set cs = without_trailing set (without_leading set cs)

-- ---- the same by a test of characters

-- the characters from the first that fails the test
abbrev pub leading_by : (ℕ → Bool) → List ℕ → List ℕ
leading_by test [] = []
leading_by test (c ∷ cs) = if test c then leading_by test cs else c ∷ cs

-- the characters up to the last that fails the test
unfoldable pub trailing_by : (ℕ → Bool) → List ℕ → List ℕ
trailing_by test cs = reverse (leading_by test (reverse cs))

abbrev pub trimmed_by : Side → (ℕ → Bool) → List ℕ → List ℕ
trimmed_by Leading test cs = leading_by test cs
trimmed_by Trailing test cs = trailing_by test cs
trimmed_by Both test cs = trailing_by test (leading_by test cs)

-- the number's bit is set, 64 bits a word
abbrev pub is_marked : List ℕ → ℕ → Bool
is_marked words d = bit_at (slice_index words (d / 64)) (d % 64) == 1
