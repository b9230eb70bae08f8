-- The record of a whole JSON value, told by the value's own bytes: the one that its tree gives.
use Rattle.std.specs.Prelude.{◌≡◌, ℕ, Bool, true, false, List, [], ◌∷◌, map, if◌then◌else◌}
use Rattle.select_request.specs.declared.request.Output.{Output}
use Rattle.select_request.specs.declared.request.Output.TheVariants.{Csv, Json}
use Rattle.json_text.specs.Grammar.{Json as Tree}
use Rattle.json_text.specs.Nodes.{Spells, kind_at}
use Rattle.json_text.specs.Skipped.{outside}
use Rattle.json_text.specs.Compact.{squeezed}
use Rattle.json_text.specs.declared.node.Kind.{Kind}
use Rattle.json_text.specs.declared.node.Kind.TheVariants.{Object}
use Rattle.sql_value.specs.declared.value.Value.TheVariants.{Node}
use Rattle.sql_eval.specs.Paths.{members_in}
use Rattle.record_output.specs.Records.{Field, first_name, record_text, whole_text}

abbrev pub is_object_kind : Kind → Bool
is_object_kind Object = true
is_object_kind _ = false

-- a JSON value as a field
abbrev pub node_named : List ℕ → Field
node_named bytes = record { name = first_name; value = Node bytes }

-- the values of an object in the order of its members, or another value alone
abbrev pub values_of : List ℕ → List (List ℕ)
values_of bytes = if is_object_kind (kind_at bytes) then map (λ m. m.value) (members_in bytes) else bytes ∷ []

-- the record without its delimiter: in CSV the values; in JSON an object without the blanks between its tokens, and another value as
-- the member _1
unfoldable pub whole_of : Output → List ℕ → List ℕ
whole_of (Csv csv) bytes = record_text (Csv csv) (map node_named (values_of bytes))
whole_of (Json delimiter) bytes =
    if is_object_kind (kind_at bytes) then squeezed outside bytes else record_text (Json delimiter) (node_named bytes ∷ [])

-- it is the record that the value's tree gives
abbrev pub EachWholeIsItsTrees : Type 0
EachWholeIsItsTrees = (output : Output) (bytes : List ℕ) (tree : Tree) → Spells bytes tree → whole_of output bytes ≡ whole_text output tree
