-- What the rows of contents are, in the words of fields and of JSON texts.
use Rattle.std.specs.Prelude.{◌≡◌, ℕ, true, false, List, [], ◌∷◌, map, Err}
use Rattle.std.specs.List.{list_all}
use Rattle.std.specs.Str.{IsUtf8}
use Rattle.csv_cutter.specs.declared.dialect.Dialect.{Dialect}
use Rattle.csv_cutter.specs.declared.fields.CsvFault.{CsvFault}
use Rattle.csv_cutter.specs.Dialects.{is_valid}
use Rattle.csv_cutter.specs.Reading.{HasFields, IsRead}
use Rattle.json_text.specs.declared.checking.JsonCode.{JsonCode}
use Rattle.json_text.specs.Nodes.{IsNode, StandsIn, HasFault}
use Rattle.select_reply.specs.declared.code.Code.{Code}
use Rattle.sql_value.specs.declared.value.Value.{Value}
use Rattle.sql_value.specs.declared.value.Value.TheVariants.{Text, Node}
use Rattle.record_rows.specs.Rows.{RowOf, passed, row, faulty, is_passed_over, csv_code, csv_row, is_line_blank, json_code, json_row}

-- the cells are the texts of the fields that the line's characters spell
pub record AreFields (dialect : Dialect) (content : List ℕ) (cells : List Value) : Type 0 where
  pub texts : List (List ℕ)
  pub fields : HasFields dialect content texts
  pub each : cells ≡ map Text texts

-- the code is that of the fault for which the line has no fields
pub record HasCsvCode (dialect : Dialect) (content : List ℕ) (code : Code) : Type 0 where
  pub fault : CsvFault
  pub read : IsRead dialect content (Err fault)
  pub named : code ≡ csv_code fault

abbrev pub IsCsvRow : Dialect → List ℕ → RowOf → Type 0
IsCsvRow dialect content passed = is_passed_over dialect content ≡ true
IsCsvRow dialect content (row cells) = (is_passed_over dialect content ≡ false) × AreFields dialect content cells
IsCsvRow dialect content (faulty code) = (is_passed_over dialect content ≡ false) × HasCsvCode dialect content code

-- the one cell is the value that stands in the line, with blanks around it
pub record IsValueIn (content : List ℕ) (cells : List Value) : Type 0 where
  pub token : List ℕ
  pub utf8 : IsUtf8 content
  pub stands : StandsIn content token
  pub node : IsNode token
  pub alone : cells ≡ Node token ∷ []

-- the code is that of a fault that the line has
pub record HasJsonCode (content : List ℕ) (code : Code) : Type 0 where
  pub json : JsonCode
  pub fault : HasFault content json
  pub named : code ≡ json_code json

abbrev pub IsJsonRow : List ℕ → RowOf → Type 0
IsJsonRow content passed = list_all is_line_blank content ≡ true
IsJsonRow content (row cells) = (list_all is_line_blank content ≡ false) × IsValueIn content cells
IsJsonRow content (faulty code) = (list_all is_line_blank content ≡ false) × HasJsonCode content code

-- each content of CSV has the row that its fields mean
abbrev pub CsvRowsAreSpelled : Type 0
CsvRowsAreSpelled = (dialect : Dialect) → is_valid dialect ≡ true → (content : List ℕ) → IsCsvRow dialect content (csv_row dialect content)

-- each content of JSON Lines has the row that its value means
abbrev pub JsonRowsAreSpelled : Type 0
JsonRowsAreSpelled = (content : List ℕ) → IsJsonRow content (json_row content)
