-- Names of objects in a folder: entries of the folder and of the folders in it, joined by slashes.
use Rattle.std.specs.Prelude.{ℕ, Bool, not, ◌&&◌, ◌||◌, ◌==◌, List, [], ◌∷◌, if◌then◌else◌}
use Rattle.std.specs.List.{list_any, list_all}
use Rattle.std.specs.Str.{bytes_eq}

-- a byte before the first segment
abbrev pub with_first : ℕ → List (List ℕ) → List (List ℕ)
with_first b [] = (b ∷ []) ∷ []
with_first b (segment ∷ segments) = (b ∷ segment) ∷ segments

-- the segments of a name, which the slashes part
abbrev pub segments_of : List ℕ → List (List ℕ)
segments_of [] = [] ∷ []
segments_of (b ∷ bs) = if b == 47 then [] ∷ segments_of bs else with_first b (segments_of bs)

-- the segment may name an entry: it isn't empty, `.` or `..`
abbrev pub names_entry : List ℕ → Bool
names_entry segment = not (bytes_eq segment [] || bytes_eq segment (46 ∷ []) || bytes_eq segment (46 ∷ 46 ∷ []))

-- a byte that stands in no name: NUL and the backslash
abbrev pub is_barred : ℕ → Bool
is_barred b = (b == 0) || (b == 92)

-- no byte is barred, and each segment may name an entry
abbrev pub is_plain : List ℕ → Bool
is_plain name = not (list_any is_barred name) && list_all names_entry (segments_of name)
