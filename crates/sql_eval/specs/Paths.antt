-- The steps of a path into a JSON value, told by the value's own bytes. What isn't there is MISSING.
use Rattle.std.specs.Prelude.{◌-◌, ℕ, zero, suc, Bool, true, false, ◌==◌, List, [], ◌∷◌, length, take, drop, slice_get, Option, None, Some, if◌then◌else◌}
use Rattle.std.specs.List.{find}
use Rattle.std.specs.Option.{option_map}
use Rattle.std.specs.Str.{chars}
use Rattle.text_view.specs.JsonString.{unescaped_text}
use Rattle.json_text.specs.Skipped.{string_rest, value_rest}
use Rattle.json_text.specs.Trimmed.{skip_blanks}
use Rattle.json_text.specs.Naming.{same_name}
use Rattle.sql_grammar.specs.declared.tree.PathStep.{PathStep}
use Rattle.sql_grammar.specs.declared.tree.PathStep.TheVariants.{Member, Element}
use Rattle.sql_grammar.specs.declared.tree.Name.{Name}
use Rattle.sql_value.specs.declared.value.Value.{Value}
use Rattle.sql_value.specs.declared.value.Value.TheVariants.{Missing, Node}

-- the bytes in front of what a scan left
abbrev pub front_of : List ℕ → List ℕ → List ℕ
front_of bytes rest = take (length bytes - length rest) bytes

-- the value that stands in front, its blanks passed over
abbrev pub value_in : List ℕ → List ℕ
value_in bytes = front_of bytes (value_rest bytes)

-- behind the comma or the bracket that follows it
abbrev pub behind_value : List ℕ → List ℕ
behind_value bytes = drop 1 (skip_blanks (value_rest bytes))

-- the first of a list, and what is read from behind it
abbrev pub one_more : {A : Type 0} → Option (A × List ℕ) → (List ℕ → List A) → List A
one_more None others = []
one_more (Some p) others = p.0 ∷ others p.1

-- at most n, each read from behind the one before it
abbrev pub read_all : {A : Type 0} → (List ℕ → Option (A × List ℕ)) → ℕ → List ℕ → List A
read_all first zero bytes = []
read_all first (suc n) bytes = one_more (first bytes) (read_all first n)

-- ---- members

-- a member's name between its quotation marks, and its value
pub record Spelled : Type 0 where
  pub name : List ℕ
  pub value : List ℕ

-- the bytes between the quotation marks of the string whose first mark was passed
abbrev pub name_in : List ℕ → List ℕ
name_in bytes = take (length bytes - length (string_rest false bytes) - 1) bytes

-- the value behind the name's colon, its blanks passed over
abbrev pub value_behind : List ℕ → List ℕ
value_behind bytes = skip_blanks (drop 1 (skip_blanks (string_rest false bytes)))

-- the member that stands in front, and what stands behind its comma or the object's bracket
abbrev pub member_at : List ℕ → Option (Spelled × List ℕ)
member_at [] = None
member_at (c ∷ cs) =
    if c == 34 then Some (record { name = name_in cs; value = value_in (value_behind cs) }, behind_value (value_behind cs)) else None

abbrev pub first_member : List ℕ → Option (Spelled × List ℕ)
first_member bytes = member_at (skip_blanks bytes)

-- the members of an object; another value has none
abbrev pub members_in : List ℕ → List Spelled
members_in [] = []
members_in (c ∷ cs) = if c == 123 then read_all first_member (length cs) cs else []

-- ---- elements

-- the element that stands in front, and what stands behind its comma or the array's bracket
abbrev pub element_at : List ℕ → Option (List ℕ × List ℕ)
element_at [] = None
element_at (c ∷ cs) = if c == 93 then None else Some (value_in (c ∷ cs), behind_value (c ∷ cs))

abbrev pub first_element : List ℕ → Option (List ℕ × List ℕ)
first_element bytes = element_at (skip_blanks bytes)

-- the elements of an array; another value has none
abbrev pub elements_in : List ℕ → List (List ℕ)
elements_in [] = []
elements_in (c ∷ cs) = if c == 91 then read_all first_element (length cs) cs else []

-- ---- steps

-- a quoted name is a member's exactly, and another one but for the case of ASCII letters
abbrev pub has_name : Name → Spelled → Bool
has_name name m = same_name name.quoted (chars name.text) (unescaped_text (chars m.name))

-- the first member of the name, or the element at the place, counted from 0
unfoldable pub step_in : PathStep → List ℕ → Option (List ℕ)
step_in (Member name) bytes = option_map (λ m. m.value) (find (has_name name) (members_in bytes))
step_in (Element place) bytes = slice_get (elements_in bytes) place

abbrev pub node_or_missing : Option (List ℕ) → Value
node_or_missing None = Missing
node_or_missing (Some bytes) = Node bytes

-- only a JSON value has steps
abbrev pub step_value : PathStep → Value → Value
step_value step (Node bytes) = node_or_missing (step_in step bytes)
step_value step _ = Missing

-- a value after a path's steps
abbrev pub value_at : List PathStep → Value → Value
value_at [] v = v
value_at (step ∷ steps) v = value_at steps (step_value step v)
