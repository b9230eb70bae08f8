-- Settling: what a value is to an operator that takes it as an operand.
use Rattle.std.specs.Prelude.{◌-◌, ℕ, Bool, true, false, List, length, slice_range, Option, None, Some, Ok, Err}
use Rattle.std.specs.Str.{chars}
use Rattle.text_view.specs.JsonString.{unescaped_text}
use Rattle.json_text.specs.Grammar.{Json, null, truth, number as number_token, string, empty_array, array, empty_object, object}
use Rattle.json_text.specs.Nodes.{kind_at}
use Rattle.json_text.specs.declared.node.Kind.{Kind}
use Rattle.json_text.specs.declared.node.Kind.TheVariants as kind
use Rattle.sql_decimal.specs.Reading.{number_of}
use Rattle.sql_decimal.specs.declared.number.Num.{Num}
use Rattle.sql_decimal.specs.declared.number.Num.TheVariants as number
use Rattle.sql_timestamp.specs.declared.fault.ValueFault.TheVariants.{NumberOverflow}
use Rattle.sql_value.specs.declared.value.Value.{Value}
use Rattle.sql_value.specs.declared.value.Value.TheVariants.{Missing, Null, Bool as Truth, Int, Dec, Text, Stamp, Node, Bad}
use Rattle.sql_value.specs.Outcomes.{Outcome}

-- a number, read as number texts are; an unreadable one is Bad
abbrev pub read_value : Option Num → Value
read_value None = Bad NumberOverflow
read_value (Some (number.Int n)) = Int n
read_value (Some (number.Dec d)) = Dec d

-- A JSON null, truth value, number or text becomes that value, and arrays and objects stay as they are.
-- The bytes are the JSON value's own.
abbrev pub tree_value : Json → List ℕ → Value
tree_value null bytes = Null
tree_value (truth b) bytes = Truth b
tree_value (number_token n) bytes = read_value (number_of (chars bytes))
tree_value (string raw) bytes = Text (unescaped_text (chars raw))
tree_value (empty_array blanks) bytes = Node bytes
tree_value (array e es) bytes = Node bytes
tree_value (empty_object blanks) bytes = Node bytes
tree_value (object m ms) bytes = Node bytes

-- the bytes between a string's quotation marks
abbrev pub inside : List ℕ → List ℕ
inside bytes = slice_range bytes 1 (length bytes - 1)

-- the same, told by the kind of the JSON value
abbrev pub kind_value : Kind → List ℕ → Value
kind_value kind.Null bytes = Null
kind_value (kind.Bool b) bytes = Truth b
kind_value kind.Number bytes = read_value (number_of (chars bytes))
kind_value kind.Text bytes = Text (unescaped_text (chars (inside bytes)))
kind_value kind.Array bytes = Node bytes
kind_value kind.Object bytes = Node bytes

-- what stands for a value
abbrev pub plain_value : Value → Value
plain_value Missing = Missing
plain_value Null = Null
plain_value (Truth b) = Truth b
plain_value (Int n) = Int n
plain_value (Dec d) = Dec d
plain_value (Text t) = Text t
plain_value (Stamp s) = Stamp s
plain_value (Node bytes) = kind_value (kind_at bytes) bytes
plain_value (Bad fault) = Bad fault

-- a Bad value is its fault
abbrev pub judged : Value → Outcome
judged Missing = Ok Missing
judged Null = Ok Null
judged (Truth b) = Ok (Truth b)
judged (Int n) = Ok (Int n)
judged (Dec d) = Ok (Dec d)
judged (Text t) = Ok (Text t)
judged (Stamp s) = Ok (Stamp s)
judged (Node bytes) = Ok (Node bytes)
judged (Bad fault) = Err fault

-- a settled value, or the fault of a Bad one
unfoldable pub settled : Value → Outcome
settled v = judged (plain_value v)

-- ---- IS NULL and IS MISSING, which look at values that aren't settled

abbrev pub is_null_kind : Kind → Bool
is_null_kind kind.Null = true
is_null_kind (kind.Bool b) = false
is_null_kind kind.Number = false
is_null_kind kind.Text = false
is_null_kind kind.Array = false
is_null_kind kind.Object = false

-- NULL, MISSING or a JSON null; a Bad value is none
unfoldable pub is_null_value : Value → Bool
is_null_value Missing = true
is_null_value Null = true
is_null_value (Node bytes) = is_null_kind (kind_at bytes)
is_null_value _ = false

-- the same of a JSON value, by its tree
abbrev pub is_null_tree : Json → Bool
is_null_tree null = true
is_null_tree (truth b) = false
is_null_tree (number_token n) = false
is_null_tree (string raw) = false
is_null_tree (empty_array blanks) = false
is_null_tree (array e es) = false
is_null_tree (empty_object blanks) = false
is_null_tree (object m ms) = false

-- MISSING
unfoldable pub is_missing_value : Value → Bool
is_missing_value Missing = true
is_missing_value _ = false
