-- The elements of an array in order, each with its place, and a walk over them.
use Rattle.std.specs.Prelude.{◌≡◌, ℕ, ◌+◌, ◌-◌, ◌≤◌, List, [], ◌∷◌, ◌++◌, length, drop, Option, None, Some, slice_index, slice_range, nat_lt, ◌==◌, ◌&&◌, if◌then◌else◌}
use Rattle.std.specs.Str.{IsCharBoundary}
use Rattle.json_text.specs.Nodes.{IsNode}
use Rattle.json_text.specs.Grammar.{Json, array, Element, element, Elements, no_elements, more_elements, print, print_element, print_elements, IsElement, AreElements, AreBlanks}
use Rattle.json_text.specs.Texts.{levels}

-- a value, and the place of its first byte
pub record Placed : Type 0 where
  pub place : ℕ
  pub value : Json

-- from the place where the first element's blanks begin
abbrev pub items_from : ℕ → Element → Elements → List Placed
items_from at (element before v behind) no_elements = record { place = at + length before; value = v } ∷ []
items_from at (element before v behind) (more_elements e es) =
    record { place = at + length before; value = v }
    ∷ items_from (at + length before + length (print v []) + length behind + 1) e es

-- the elements of an array; other values have none
abbrev pub elements_of : Json → List Placed
elements_of (array e es) = items_from 1 e es
elements_of _ = []

-- a place in a value's bytes
pub record Cursor : Type 0 where
  pub text : List ℕ
  pub at : ℕ

-- how many bytes a walk has still ahead
abbrev pub bytes_left : Cursor → ℕ
bytes_left cursor = length cursor.text - cursor.at

-- nothing or the end of an array comes next
pub data IsOver (bytes : List ℕ) : Type 0 where
  at_end : bytes ≡ [] → IsOver bytes
  at_bracket : (blanks : List ℕ) → AreBlanks blanks → bytes ≡ blanks ++ 93 ∷ [] → IsOver bytes

-- these elements are still to come
pub data Ahead (cursor : Cursor) (items : List Placed) : Type 0 where
  due : (e : Element) (es : Elements) → IsElement levels 1 e → AreElements levels 1 es
      → drop cursor.at cursor.text ≡ print_element e (print_elements es []) → items ≡ items_from cursor.at e es → Ahead cursor items
  over : IsOver (drop cursor.at cursor.text) → items ≡ [] → Ahead cursor items

-- the node is the element, at its place
pub record IsFirst (items : List Placed) (place : ℕ) (node : List ℕ) (next : Cursor) : Type 0 where
  pub first : Json
  pub others : List Placed
  pub whole : items ≡ record { place = place; value = first } ∷ others
  pub same : node ≡ print first []
  pub ahead : Ahead next others

-- the node is the element at that index
abbrev pub IsAt : Option Placed → List ℕ → Type 0
IsAt None node = ⊥
IsAt (Some p) node = node ≡ print p.value []

-- a walk stands somewhere among elements
pub record IsWalk (cursor : Cursor) : Type 0 where
  pub items : List Placed
  pub ahead : Ahead cursor items

-- the first element stands in these bytes, and the others come from `next` on
pub record Split (bytes : List ℕ) (items : List Placed) (start end next : ℕ) : Type 0 where
  pub order : start ≤ end
  pub within : end ≤ length bytes
  pub begins : IsCharBoundary bytes start
  pub ends : IsCharBoundary bytes end
  pub node : IsNode (slice_range bytes start end)
  pub first : IsFirst items start (slice_range bytes start end) (record { text = bytes; at = next })
  pub behind : next ≤ length bytes

-- the place behind a comma, or the end of the bytes
abbrev pub comma_place : List ℕ → ℕ → ℕ
comma_place bytes at = if nat_lt at (length bytes) && (slice_index bytes at == 44) then at + 1 else length bytes

-- behind an array's bracket, or the end of another value
abbrev pub walk_start : List ℕ → ℕ
walk_start [] = 0
walk_start (c ∷ cs) = if c == 91 then 1 else length (c ∷ cs)
