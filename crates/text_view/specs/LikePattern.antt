-- LIKE: a pattern is a list of parts, and a text matches where it splits into as many pieces as there
-- are parts, each fitting its part (SQL-92, section 8.5).
use Rattle.std.specs.Prelude.{◌≡◌, ℕ, Bool, true, false, ◌||◌, ◌==◌, List, [], ◌∷◌, ◌++◌, length, Option, Some, None, if◌then◌else◌}
use Rattle.std.specs.Option.{option_map}
use Rattle.text_view.specs.declared.like.Part.{Part}
use Rattle.text_view.specs.declared.like.Part.TheVariants.{Char, One, Any}

-- ---- from the pattern's characters to its parts

-- the character is the escape
abbrev pub is_escape : Option ℕ → ℕ → Bool
is_escape None c = false
is_escape (Some escape) c = c == escape

-- the character may follow an escape: "%", "_" or the escape
abbrev pub may_follow : Option ℕ → ℕ → Bool
may_follow escape c = c == 37 || c == 95 || is_escape escape c

-- a character that is no escape: "%" is any list of characters, "_" any one, another one itself
abbrev pub part_of : ℕ → Part
part_of c = if c == 37 then Any else (if c == 95 then One else Char c)

-- The parts of a pattern, read from the left; there are none where an escape isn't followed by "%", "_"
-- or the escape. `escaped` says that an escape was read and what follows it is to come.
abbrev pub parts_after : Option ℕ → Bool → List ℕ → Option (List Part)
parts_after escape false [] = Some []
parts_after escape true [] = None
parts_after escape false (c ∷ cs) =
    if is_escape escape c then parts_after escape true cs
    else option_map (λ parts. part_of c ∷ parts) (parts_after escape false cs)
parts_after escape true (c ∷ cs) =
    if may_follow escape c then option_map (λ parts. Char c ∷ parts) (parts_after escape false cs)
    else None

-- the parts of a pattern with that escape
unfoldable pub pattern_parts : Option ℕ → List ℕ → Option (List Part)
pattern_parts escape cs = parts_after escape false cs

-- ---- matching

-- the piece fits the part
abbrev pub FitsPart : Part → List ℕ → Type 0
FitsPart (Char c) piece = piece ≡ c ∷ []
FitsPart One piece = length piece ≡ 1
FitsPart Any piece = Unit {0}

-- as many pieces as parts, each fitting its part
abbrev pub FitParts : List Part → List (List ℕ) → Type 0
FitParts [] [] = Unit {0}
FitParts [] (piece ∷ pieces) = ⊥
FitParts (part ∷ parts) [] = ⊥
FitParts (part ∷ parts) (piece ∷ pieces) = FitsPart part piece × FitParts parts pieces

-- the pieces, one after another
abbrev pub joined : List (List ℕ) → List ℕ
joined [] = []
joined (piece ∷ pieces) = piece ++ joined pieces

-- the text splits into pieces that fit the parts
pub record Matches (parts : List Part) (text : List ℕ) : Type 0 where
  pub pieces : List (List ℕ)
  pub fit : FitParts parts pieces
  pub whole : joined pieces ≡ text
