-- The text of a value in a record.
use Rattle.std.specs.Prelude.{ℕ, List, [], Option, None, Some}
use Rattle.std.specs.Str.{chars, encode_utf8_all}
use Rattle.std.specs.Fmt.{signed_decimal}
use Rattle.text_view.specs.JsonString.{unescaped_text}
use Rattle.sql_decimal.specs.Printing.{printed}
use Rattle.sql_timestamp.specs.Printing.{printed_timestamp}
use Rattle.sql_timestamp.specs.declared.fault.ValueFault.{ValueFault}
use Rattle.value_text.specs.Texts.{bool_text}
use Rattle.json_text.specs.Grammar.{Json, null, string, null_name}
use Rattle.json_text.specs.Skipped.{outside}
use Rattle.json_text.specs.Compact.{compact, squeezed}
use Rattle.json_text.specs.Nodes.{kind_at}
use Rattle.json_text.specs.declared.node.Kind.{Kind}
use Rattle.json_text.specs.declared.node.Kind.TheVariants as kind
use Rattle.sql_value.specs.Settled.{inside}
use Rattle.sql_value.specs.declared.value.Value.{Value}
use Rattle.sql_value.specs.declared.value.Value.TheVariants.{Missing, Null, Bool as Truth, Int, Dec, Text, Stamp, Node, Bad}
use Rattle.record_output.specs.JsonStrings.{json_string}

-- the fault of a value that can't be read
abbrev pub fault_of : Value → Option ValueFault
fault_of (Bad fault) = Some fault
fault_of _ = None

-- the bytes of a JSON value of that kind, an array or an object without the blanks between its tokens
abbrev pub compact_text : Kind → List ℕ → List ℕ
compact_text kind.Array bytes = squeezed outside bytes
compact_text kind.Object bytes = squeezed outside bytes
compact_text _ bytes = bytes

-- a JSON value in CSV: null is empty, and a string is its characters
abbrev pub node_text : Kind → List ℕ → List ℕ
node_text kind.Null bytes = []
node_text kind.Text bytes = encode_utf8_all (unescaped_text (chars (inside bytes)))
node_text kind bytes = compact_text kind bytes

-- the text of a value in CSV, before quotes; NULL and MISSING have none
abbrev pub csv_text : Value → List ℕ
csv_text Missing = []
csv_text Null = []
csv_text (Truth b) = bool_text b
csv_text (Int n) = signed_decimal n
csv_text (Dec d) = printed d
csv_text (Text t) = encode_utf8_all t
csv_text (Stamp s) = printed_timestamp s
csv_text (Node bytes) = node_text (kind_at bytes) bytes
csv_text (Bad fault) = []

-- a value in JSON; MISSING has no member
abbrev pub json_value : Value → List ℕ
json_value Missing = []
json_value Null = null_name
json_value (Truth b) = bool_text b
json_value (Int n) = signed_decimal n
json_value (Dec d) = printed d
json_value (Text t) = json_string (encode_utf8_all t)
json_value (Stamp s) = json_string (printed_timestamp s)
json_value (Node bytes) = compact_text (kind_at bytes) bytes
json_value (Bad fault) = []

-- ---- the same of a JSON value by its tree

abbrev pub tree_text : Json → List ℕ
tree_text null = []
tree_text (string raw) = encode_utf8_all (unescaped_text (chars raw))
tree_text tree = compact tree
