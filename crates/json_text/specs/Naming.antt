-- The members of an object in order, each with its name and its value's place, and a walk over them.
use Rattle.std.specs.Prelude.{◌≡◌, ℕ, ◌+◌, ◌≤◌, Bool, true, false, List, [], ◌∷◌, ◌++◌, length, drop, slice_range, ◌==◌, if◌then◌else◌, Option, None, Some}
use Rattle.text_view.specs.JsonString.{unescaped_text}
use Rattle.std.specs.List.{find}
use Rattle.std.specs.Str.{IsCharBoundary, chars, bytes_eq, str_eq_ignore_ascii_case}
use Rattle.json_text.specs.Grammar.{Json, object, element, Member, member, Members, no_members, more_members, print, print_member, print_members, IsMember, AreMembers, AreBlanks}
use Rattle.json_text.specs.Texts.{levels}
use Rattle.json_text.specs.Nodes.{IsNode}
use Rattle.json_text.specs.Walks.{Cursor}

-- a member: the bytes between its name's quotation marks, and its value with the place of its first byte
pub record Named : Type 0 where
  pub name : List ℕ
  pub place : ℕ
  pub value : Json

-- the place of the value of a member whose blanks begin at a place
abbrev pub value_place : ℕ → List ℕ → List ℕ → List ℕ → List ℕ → ℕ
value_place at before name gap front = at + length before + length name + length gap + length front + 3

-- from the place where the first member's blanks begin
abbrev pub members_from : ℕ → Member → Members → List Named
members_from at (member before name gap (element front v behind)) no_members =
    record { name = name; place = value_place at before name gap front; value = v } ∷ []
members_from at (member before name gap (element front v behind)) (more_members m ms) =
    record { name = name; place = value_place at before name gap front; value = v }
    ∷ members_from (value_place at before name gap front + length (print v []) + length behind + 1) m ms

-- the members of an object; other values have none
abbrev pub members_of : Json → List Named
members_of (object m ms) = members_from 1 m ms
members_of _ = []

-- nothing or the end of an object comes next
pub data IsClosed (bytes : List ℕ) : Type 0 where
  no_bytes : bytes ≡ [] → IsClosed bytes
  at_brace : (blanks : List ℕ) → AreBlanks blanks → bytes ≡ blanks ++ 125 ∷ [] → IsClosed bytes

-- these members are still to come
pub data Coming (cursor : Cursor) (items : List Named) : Type 0 where
  member_due : (m : Member) (ms : Members) → IsMember levels 1 m → AreMembers levels 1 ms
      → drop cursor.at cursor.text ≡ print_member m (print_members ms []) → items ≡ members_from cursor.at m ms → Coming cursor items
  members_over : IsClosed (drop cursor.at cursor.text) → items ≡ [] → Coming cursor items

-- name and node are the first member's, at its place
pub record IsFirstMember (items : List Named) (name : List ℕ) (place : ℕ) (node : List ℕ) (next : Cursor) : Type 0 where
  pub first : Json
  pub others : List Named
  pub whole : items ≡ record { name = name; place = place; value = first } ∷ others
  pub same : node ≡ print first []
  pub ahead : Coming next others

-- the first member's name and value stand in these bytes, and the others come from `next` on
pub record SplitMember (bytes : List ℕ) (items : List Named) (name_start name_end start end next : ℕ) : Type 0 where
  pub name_order : name_start ≤ name_end
  pub name_begins : IsCharBoundary bytes name_start
  pub name_ends : IsCharBoundary bytes name_end
  pub order : start ≤ end
  pub begins : IsCharBoundary bytes start
  pub ends : IsCharBoundary bytes end
  pub node : IsNode (slice_range bytes start end)
  pub first : IsFirstMember items (slice_range bytes name_start name_end) start (slice_range bytes start end) (record { text = bytes; at = next })
  pub behind : next ≤ length bytes

-- a walk stands somewhere among members
pub record IsMemberWalk (cursor : Cursor) : Type 0 where
  pub items : List Named
  pub ahead : Coming cursor items

-- behind an object's bracket, or the end of another value
abbrev pub object_start : List ℕ → ℕ
object_start [] = 0
object_start (c ∷ cs) = if c == 123 then 1 else length (c ∷ cs)

-- text and node are the name and the value of the member at that index
abbrev pub IsMemberAt : Option Named → List ℕ → List ℕ → Type 0
IsMemberAt None text node = ⊥
IsMemberAt (Some m) text node = (text ≡ unescaped_text (chars m.name)) × (node ≡ print m.value [])

-- ---- a member by its name

-- whether a name's characters are the wanted ones: exactly, or but for the case of ASCII letters
abbrev pub same_name : Bool → List ℕ → List ℕ → Bool
same_name true wanted name = bytes_eq name wanted
same_name false wanted name = str_eq_ignore_ascii_case name wanted

-- whether a member has the wanted name, once its escapes are undone
abbrev pub is_named : Bool → List ℕ → Named → Bool
is_named exact wanted m = same_name exact wanted (unescaped_text (chars m.name))

-- the first member of that name
abbrev pub member_named : Bool → List ℕ → Json → Option Named
member_named exact wanted tree = find (is_named exact wanted) (members_of tree)

-- the node is the member's value
abbrev pub IsValueOf : Option Named → List ℕ → Type 0
IsValueOf None node = ⊥
IsValueOf (Some m) node = node ≡ print m.value []

-- the node is the member's value, and stands at that place
abbrev pub IsPlacedValueOf : Option Named → ℕ → List ℕ → Type 0
IsPlacedValueOf None place node = ⊥
IsPlacedValueOf (Some m) place node = (place ≡ m.place) × (node ≡ print m.value [])

-- text, place and node are the name and the value of the next member
pub record IsNextMember (items : List Named) (text : List ℕ) (place : ℕ) (node : List ℕ) (next : Cursor) : Type 0 where
  pub first : Named
  pub others : List Named
  pub whole : items ≡ first ∷ others
  pub named : text ≡ unescaped_text (chars first.name)
  pub placed : place ≡ first.place
  pub same : node ≡ print first.value []
  pub ahead : Coming next others
