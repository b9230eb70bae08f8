-- LIKE as a test, and what a search from the left finds.
use Rattle.std.specs.Prelude.{◌≡◌, ◌<◌, ◌≤◌, ℕ, Bool, true, false, ◌&&◌, ◌||◌, ◌==◌, List, [], ◌∷◌, length, if◌then◌else◌}
use Rattle.text_view.specs.declared.like.Part.{Part}
use Rattle.text_view.specs.declared.like.Part.TheVariants.{Char, One, Any}
use Rattle.text_view.specs.declared.like.Outcome.{Outcome}
use Rattle.text_view.specs.declared.like.Outcome.TheVariants.{Nothing, End, Behind}
use Rattle.text_view.specs.Spelled.{seen}

-- some end of the text passes
abbrev pub some_end : (List ℕ → Bool) → List ℕ → Bool
some_end test [] = test []
some_end test (c ∷ cs) = test (c ∷ cs) || some_end test cs

-- the character fits the part
abbrev pub fits_one : Part → ℕ → Bool
fits_one (Char wanted) c = c == wanted
fits_one One c = true
fits_one Any c = false

-- a piece in front fits the part, and the test passes what follows it
abbrev pub part_then : Part → (List ℕ → Bool) → List ℕ → Bool
part_then Any test cs = some_end test cs
part_then (Char wanted) test [] = false
part_then (Char wanted) test (c ∷ cs) = c == wanted && test cs
part_then One test [] = false
part_then One test (c ∷ cs) = test cs

-- the text matches the parts
unfoldable pub like : List Part → List ℕ → Bool
like [] [] = true
like [] (c ∷ cs) = false
like (part ∷ parts) cs = part_then part (like parts) cs

-- some end of the text matches the parts
unfoldable pub like_end : List Part → List ℕ → Bool
like_end parts cs = some_end (like parts) cs

-- what the parts up to the next "%" find in front: nothing, the text's end, or that "%" with the parts
-- behind it and the text that is left to it
pub data Found : Type 0 where
  nothing : Found
  end : Found
  any : List Part → List ℕ → Found

abbrev pub find_from : Part → (List ℕ → Found) → List Part → List ℕ → Found
find_from Any later parts cs = any parts cs
find_from (Char wanted) later parts [] = nothing
find_from (Char wanted) later parts (c ∷ cs) = if c == wanted then later cs else nothing
find_from One later parts [] = nothing
find_from One later parts (c ∷ cs) = later cs

unfoldable pub find_parts : List Part → List ℕ → Found
find_parts [] [] = end
find_parts [] (c ∷ cs) = nothing
find_parts (part ∷ parts) cs = find_from part (find_parts parts) parts cs

-- what the search answers is what it finds
abbrev pub Tells : Outcome → Found → Type 0
Tells Nothing found = found ≡ nothing
Tells End found = found ≡ end
Tells (Behind parts rest) found = found ≡ any parts.now (seen rest)

-- the search leaves fewer parts and no more bytes
abbrev pub Shortens : Outcome → List Part → ℕ → Type 0
Shortens Nothing parts bytes = Unit {0}
Shortens End parts bytes = Unit {0}
Shortens (Behind left rest) parts bytes =
    (length left.now < length parts) × (length rest.rest.now ≤ bytes)
