-- The names that a CSV header gives.
use Rattle.std.specs.Prelude.{◌≡◌, ℕ, List, map, Result, Ok, Err}
use Rattle.std.specs.Str.{encode_utf8_all}
use Rattle.csv_cutter.specs.declared.dialect.Dialect.{Dialect}
use Rattle.csv_cutter.specs.declared.fields.CsvFault.{CsvFault}
use Rattle.csv_cutter.specs.Reading.{fields_of}
use Rattle.select_reply.specs.declared.code.Code.{Code}
use Rattle.record_rows.specs.Rows.{csv_code}
use Rattle.record_rows.specs.declared.header.HeaderError.{HeaderError}
use Rattle.record_rows.specs.declared.header.HeaderError.TheVariants.{Fault, OutOfMemory}

abbrev pub fields_names : Result (List (List ℕ)) CsvFault → Result (List (List ℕ)) Code
fields_names (Ok texts) = Ok (map encode_utf8_all texts)
fields_names (Err fault) = Err (csv_code fault)

-- the texts of the header's fields, in UTF-8, or its code
abbrev pub names_of : Dialect → List ℕ → Result (List (List ℕ)) Code
names_of dialect content = fields_names (fields_of dialect content)

-- these are the names, or this is the code
abbrev pub AreNames : Dialect → List ℕ → Result (List (List ℕ)) HeaderError → Type 0
AreNames dialect content (Ok names) = Ok names ≡ names_of dialect content
AreNames dialect content (Err (Fault code)) = Err code ≡ names_of dialect content
AreNames dialect content (Err OutOfMemory) = Unit {0}
