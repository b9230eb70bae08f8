-- A value without the blanks between its tokens.
use Rattle.std.specs.Prelude.{ℕ, true, false, ◌==◌, List, [], ◌∷◌, if◌then◌else◌}
use Rattle.json_text.specs.Grammar.{Json, null, truth, number, string, empty_array, array, empty_object, object, Element, element, Elements, no_elements, more_elements, Member, member, Members, no_members, more_members, print, is_blank}
use Rattle.json_text.specs.Skipped.{Place, outside, inside}

-- the tree with its tokens as they are spelled, and no blanks
unfoldable mutual
  pub tight : Json → Json
  tight null = null
  tight (truth b) = truth b
  tight (number n) = number n
  tight (string raw) = string raw
  tight (empty_array blanks) = empty_array []
  tight (array e es) = array (tight_element e) (tight_elements es)
  tight (empty_object blanks) = empty_object []
  tight (object m ms) = object (tight_member m) (tight_members ms)

  pub tight_element : Element → Element
  tight_element (element before v behind) = element [] (tight v) []

  pub tight_elements : Elements → Elements
  tight_elements no_elements = no_elements
  tight_elements (more_elements e es) = more_elements (tight_element e) (tight_elements es)

  pub tight_member : Member → Member
  tight_member (member before name behind e) = member [] name [] (tight_element e)

  pub tight_members : Members → Members
  tight_members no_members = no_members
  tight_members (more_members m ms) = more_members (tight_member m) (tight_members ms)

-- its bytes
abbrev pub compact : Json → List ℕ
compact tree = print (tight tree) []

-- the bytes without the blanks that stand outside strings
abbrev pub squeezed : Place → List ℕ → List ℕ
squeezed place [] = []
squeezed (inside true) (c ∷ cs) = c ∷ squeezed (inside false) cs
squeezed (inside false) (c ∷ cs) = if c == 34 then c ∷ squeezed outside cs else c ∷ squeezed (inside (c == 92)) cs
squeezed outside (c ∷ cs) =
    if c == 34 then c ∷ squeezed (inside false) cs else (if is_blank c then squeezed outside cs else c ∷ squeezed outside cs)
