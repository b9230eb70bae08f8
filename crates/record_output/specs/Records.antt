-- The bytes of an output record.
use Rattle.std.specs.Prelude.{ℕ, Bool, true, false, List, [], ◌∷◌, ◌++◌, map, if◌then◌else◌}
use Rattle.std.specs.List.{flat_map}
use Rattle.std.specs.Str.{chars, encode_utf8_all}
use Rattle.select_request.specs.declared.request.Delimiter.{Delimiter}
use Rattle.select_request.specs.declared.request.Delimiter.TheVariants.{One, Two}
use Rattle.select_request.specs.declared.request.Output.{Output}
use Rattle.select_request.specs.declared.request.Output.TheVariants.{Csv, Json}
use Rattle.json_text.specs.Grammar.{Json as Tree, empty_object, object, print}
use Rattle.json_text.specs.Compact.{compact}
use Rattle.json_text.specs.Naming.{members_of}
use Rattle.sql_value.specs.declared.value.Value.{Value}
use Rattle.sql_value.specs.declared.value.Value.TheVariants.{Missing, Text, Node}
use Rattle.record_output.specs.CsvFields.{csv_field}
use Rattle.record_output.specs.JsonStrings.{json_string}
use Rattle.record_output.specs.Values.{csv_text, json_value}

-- a value, and the characters of its name
pub record Field : Type 0 where
  pub name : List ℕ
  pub value : Value

-- the field of a text under a name, both as they are lent
abbrev pub text_field : List ℕ → List ℕ → Field
text_field name text = record { name = chars name; value = Text (chars text) }

-- a JSON object's member: its name, a colon, its value
abbrev pub json_member : Field → List ℕ
json_member field = json_string (encode_utf8_all field.name) ++ ((58 ∷ []) ++ json_value field.value)

-- MISSING leaves the member out
abbrev pub json_part_of : Value → List ℕ → List (List ℕ)
json_part_of Missing member = []
json_part_of _ member = member ∷ []

-- what a field gives to the record: in CSV one field, in JSON one member or none
abbrev pub parts_of : Output → Field → List (List ℕ)
parts_of (Csv csv) field = csv_field csv (csv_text field.value) ∷ []
parts_of (Json delimiter) field = json_part_of field.value (json_member field)

-- the parts with the separator between each two
abbrev pub joined : List ℕ → List (List ℕ) → List ℕ
joined separator [] = []
joined separator (part ∷ []) = part
joined separator (part ∷ next ∷ parts) = part ++ (separator ++ joined separator (next ∷ parts))

-- what stands before, between and behind the parts: in JSON braces and commas, in CSV the field delimiter between them
abbrev pub opening : Output → List ℕ
opening (Csv csv) = []
opening (Json delimiter) = 123 ∷ []

abbrev pub separator : Output → List ℕ
separator (Csv csv) = csv.field ∷ []
separator (Json delimiter) = 44 ∷ []

abbrev pub closing : Output → List ℕ
closing (Csv csv) = []
closing (Json delimiter) = 125 ∷ []

-- the record of the fields, without what closes it
abbrev pub begun_text : Output → List Field → List ℕ
begun_text output fields = opening output ++ joined (separator output) (flat_map (parts_of output) fields)

-- the record of the fields, without its delimiter
abbrev pub record_text : Output → List Field → List ℕ
record_text output fields = begun_text output fields ++ closing output

-- the record delimiter
abbrev pub delimiter_of : Output → Delimiter
delimiter_of (Csv csv) = csv.delimiter
delimiter_of (Json delimiter) = delimiter

abbrev pub delimiter_bytes : Delimiter → List ℕ
delimiter_bytes (One a) = a ∷ []
delimiter_bytes (Two a b) = a ∷ b ∷ []

-- ---- the record of a whole JSON value

-- the characters _1
abbrev pub first_name : List ℕ
first_name = chars (95 ∷ 49 ∷ [])

-- a JSON value as a field
abbrev pub node_field : Tree → Field
node_field tree = record { name = first_name; value = Node (print tree []) }

abbrev pub is_object : Tree → Bool
is_object (object m ms) = true
is_object (empty_object blanks) = true
is_object _ = false

-- an object without members has no value
abbrev pub has_values : Tree → Bool
has_values (empty_object blanks) = false
has_values _ = true

-- the values of an object, in the order of its members
abbrev pub values_in : Tree → List Tree
values_in tree = map (λ m. m.value) (members_of tree)

-- the record of a JSON value, without its delimiter: in CSV an object's values, and another value alone; in JSON an object without
-- the blanks between its tokens, and another value as the member _1
abbrev pub whole_text : Output → Tree → List ℕ
whole_text (Csv csv) tree = record_text (Csv csv) (map node_field (if is_object tree then values_in tree else tree ∷ []))
whole_text (Json delimiter) tree = if is_object tree then compact tree else record_text (Json delimiter) (node_field tree ∷ [])
