-- Which contents of lines are records, and the row or the code of each.
use Rattle.std.specs.Prelude.{ℕ, Bool, true, ◌||◌, ◌==◌, if◌then◌else◌, List, [], ◌∷◌, map, Result, Ok, Err}
use Rattle.std.specs.List.{list_all}
use Rattle.csv_cutter.specs.declared.dialect.Dialect.{Dialect}
use Rattle.csv_cutter.specs.declared.fields.CsvFault.{CsvFault}
use Rattle.csv_cutter.specs.declared.fields.CsvFault.TheVariants as csv
use Rattle.csv_cutter.specs.Reading.{fields_of}
use Rattle.json_text.specs.declared.checking.JsonCode.{JsonCode}
use Rattle.json_text.specs.declared.checking.JsonCode.TheVariants as json
use Rattle.json_text.specs.Nodes.{value_of}
use Rattle.select_reply.specs.declared.code.Code.{Code}
use Rattle.select_reply.specs.declared.code.Code.TheVariants.{InvalidTextEncoding, TooManyFields, JSONParsingError, JSONTooDeep}
use Rattle.sql_value.specs.declared.value.Value.{Value}
use Rattle.sql_value.specs.declared.value.Value.TheVariants.{Text, Node}

-- no record; the cells of a record; the code of a faulty one
pub data RowOf : Type 0 where
  passed : RowOf
  row : List Value → RowOf
  faulty : Code → RowOf

-- ---- CSV (RFC 4180, with comments)

-- no record: an empty line, and a line that begins with the comment character
abbrev pub is_passed_over : Dialect → List ℕ → Bool
is_passed_over dialect [] = true
is_passed_over dialect (c ∷ cs) = c == dialect.comment

-- a fault of a line has the code of the same name
abbrev pub csv_code : CsvFault → Code
csv_code csv.InvalidTextEncoding = InvalidTextEncoding
csv_code csv.TooManyFields = TooManyFields

-- each field is a text
abbrev pub fields_row : Result (List (List ℕ)) CsvFault → RowOf
fields_row (Ok texts) = row (map Text texts)
fields_row (Err fault) = faulty (csv_code fault)

unfoldable pub csv_row : Dialect → List ℕ → RowOf
csv_row dialect content = if is_passed_over dialect content then passed else fields_row (fields_of dialect content)

-- ---- JSON Lines (a JSON text of RFC 8259 a line)

-- a space, a tab or a carriage return: a line holds no line feed
abbrev pub is_line_blank : ℕ → Bool
is_line_blank c = c == 32 || c == 9 || c == 13

-- a fault of a text has the code of the same name
abbrev pub json_code : JsonCode → Code
json_code json.InvalidTextEncoding = InvalidTextEncoding
json_code json.JSONParsingError = JSONParsingError
json_code json.JSONTooDeep = JSONTooDeep

-- the value is the one cell
abbrev pub value_row : Result (List ℕ) JsonCode → RowOf
value_row (Ok token) = row (Node token ∷ [])
value_row (Err code) = faulty (json_code code)

-- a line of blanks alone is no record
unfoldable pub json_row : List ℕ → RowOf
json_row content = if list_all is_line_blank content then passed else value_row (value_of content)
