-- A cut of a printed text: the characters from a place on, at most a number of them, in a letter case.
use Rattle.std.specs.Prelude.{ℕ, ◌-◌, length, List, Option, Some, None, map, take, drop}
use Rattle.std.specs.Char.{to_ascii_uppercase, to_ascii_lowercase}
use Rattle.value_text.specs.declared.cut.Case.{Case}
use Rattle.value_text.specs.declared.cut.Case.TheVariants.{Kept, Upper, Lower}
use Rattle.value_text.specs.declared.cut.Cut.{Cut}
use Rattle.text_view.specs.Trimmed.{without_leading}
use Rattle.text_view.specs.declared.view.Side.{Side}
use Rattle.text_view.specs.declared.view.Side.TheVariants.{Leading, Trailing, Both}

-- the character in a letter case
abbrev pub cased : Case → ℕ → ℕ
cased Kept c = c
cased Upper c = to_ascii_uppercase c
cased Lower c = to_ascii_lowercase c

-- at most so many of the characters, where there is a limit
abbrev pub at_most : Option ℕ → List ℕ → List ℕ
at_most None cs = cs
at_most (Some n) cs = take n cs

-- what the cut leaves of the characters
unfoldable pub cut_of : Cut → List ℕ → List ℕ
cut_of cut cs = map (cased cut.case) (at_most cut.limit (drop cut.from cs))

-- how many characters go in front of a trimmed text
abbrev pub passed : Side → List ℕ → List ℕ → ℕ
passed Leading set cs = length cs - length (without_leading set cs)
passed Trailing set cs = 0
passed Both set cs = length cs - length (without_leading set cs)
