-- Patterns that a search of bytes decides: characters, with or without a "%" on each side.
use Rattle.std.specs.Prelude.{◌≡◌, ℕ, List, [], ◌∷◌, ◌++◌}
use Rattle.text_view.specs.declared.like.Part.{Part}
use Rattle.text_view.specs.declared.like.Part.TheVariants.{Char, One, Any}
use Rattle.text_view.specs.declared.shapes.Shape.{Shape}
use Rattle.text_view.specs.declared.shapes.Shape.TheVariants.{Whole, Front, Back, Inside, General}

-- a part for each character
abbrev pub letters : List ℕ → List Part
letters [] = []
letters (c ∷ cs) = Char c ∷ letters cs

-- the characters among the parts
abbrev pub letters_in : List Part → List ℕ
letters_in [] = []
letters_in (Char c ∷ parts) = c ∷ letters_in parts
letters_in (One ∷ parts) = letters_in parts
letters_in (Any ∷ parts) = letters_in parts

-- the parts are those characters in that shape
abbrev pub IsShaped : Shape → List Part → List ℕ → Type 0
IsShaped Whole parts cs = parts ≡ letters cs
IsShaped Front parts cs = parts ≡ letters cs ++ Any ∷ []
IsShaped Back parts cs = parts ≡ Any ∷ letters cs
IsShaped Inside parts cs = parts ≡ Any ∷ (letters cs ++ Any ∷ [])
IsShaped General parts cs = Unit {0}
