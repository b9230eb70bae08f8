-- The body that is printed for a request: its elements in the order of the table, each with its value,
-- nothing between them, and `<`, `>` and `&` of a text as references.
use Rattle.std.specs.Prelude.{ℕ, Bool, true, false, ◌==◌, List, [], ◌∷◌, ◌++◌, Option, None, Some, codes, decimal, if◌then◌else◌}
use Rattle.request_elements.specs.Elements.{name_of}
use Rattle.request_elements.specs.declared.element.Element.{Element}
use Rattle.request_elements.specs.declared.element.Element.TheVariants.{Request, Expression, ExpressionType, RequestProgress, Enabled, InputSerialization, CompressionType, CsvInput, AllowQuotedRecordDelimiter, Comments, InputFieldDelimiter, FileHeaderInfo, InputQuoteCharacter, InputQuoteEscapeCharacter, InputRecordDelimiter, JsonInput, JsonType, ParquetInput, OutputSerialization, CsvOutput, OutputFieldDelimiter, OutputQuoteCharacter, OutputQuoteEscapeCharacter, QuoteFields, CsvRecordDelimiter, JsonOutput, JsonRecordDelimiter, ScanRange, Start, End}
use Rattle.select_request.specs.declared.request.CsvInput.{CsvInput as CsvInputSettings}
use Rattle.select_request.specs.declared.request.CsvOutput.{CsvOutput as CsvOutputSettings}
use Rattle.select_request.specs.declared.request.Delimiter.{Delimiter}
use Rattle.select_request.specs.declared.request.Delimiter.TheVariants.{One, Two}
use Rattle.select_request.specs.declared.request.Header.{Header}
use Rattle.select_request.specs.declared.request.Header.TheVariants.{Without, Ignore, Use}
use Rattle.select_request.specs.declared.request.Input.{Input}
use Rattle.select_request.specs.declared.request.Input.TheVariants.{Csv as CsvObject, JsonLines, JsonDocument, Parquet}
use Rattle.select_request.specs.declared.request.Output.{Output}
use Rattle.select_request.specs.declared.request.Output.TheVariants.{Csv as CsvReply, Json}
use Rattle.select_request.specs.declared.request.ScanRange.{ScanRange as Range}
use Rattle.select_request.specs.declared.request.ScanRange.TheVariants.{Between, From, Last}
use Rattle.select_request.specs.declared.request.SelectRequest.{SelectRequest}

-- ---- texts

-- `<`, `>` and `&` as references
abbrev pub escaped_byte : ℕ → List ℕ
escaped_byte b =
    if b == 60 then codes "&lt;"
    else if b == 62 then codes "&gt;"
    else if b == 38 then codes "&amp;"
    else b ∷ []

abbrev pub escaped : List ℕ → List ℕ
escaped [] = []
escaped (b ∷ bytes) = escaped_byte b ++ escaped bytes

abbrev pub truth_text : Bool → List ℕ
truth_text true = codes "TRUE"
truth_text false = codes "FALSE"

abbrev pub header_text : Header → List ℕ
header_text Without = codes "NONE"
header_text Ignore = codes "IGNORE"
header_text Use = codes "USE"

abbrev pub quoting_text : Bool → List ℕ
quoting_text true = codes "ALWAYS"
quoting_text false = codes "ASNEEDED"

abbrev pub delimiter_text : Delimiter → List ℕ
delimiter_text (One a) = a ∷ []
delimiter_text (Two a b) = a ∷ b ∷ []

-- ---- parts of the body

-- a start tag of an element that holds others, an element that holds a text, an end tag
pub data Part : Type 0 where
  opens : Element → Part
  leaf : Element → List ℕ → Part
  closes : Element → Part

unfoldable pub start_tag : Element → List ℕ
start_tag e = codes "<" ++ name_of e ++ codes ">"

unfoldable pub end_tag : Element → List ℕ
end_tag e = codes "</" ++ name_of e ++ codes ">"

unfoldable pub print_part : Part → List ℕ
print_part (opens e) = start_tag e
print_part (leaf e text) = start_tag e ++ escaped text ++ end_tag e
print_part (closes e) = end_tag e

-- one after the other
abbrev pub print_parts : List Part → List ℕ
print_parts [] = []
print_parts (part ∷ parts) = print_part part ++ print_parts parts

-- ---- a request's parts

abbrev pub csv_input_parts : CsvInputSettings → List Part
csv_input_parts csv =
    opens CsvInput
    ∷ leaf AllowQuotedRecordDelimiter (truth_text csv.quoted_delimiters)
    ∷ leaf Comments (csv.comment ∷ [])
    ∷ leaf InputFieldDelimiter (csv.field ∷ [])
    ∷ leaf FileHeaderInfo (header_text csv.header)
    ∷ leaf InputQuoteCharacter (csv.quote ∷ [])
    ∷ leaf InputQuoteEscapeCharacter (csv.escape ∷ [])
    ∷ leaf InputRecordDelimiter (delimiter_text csv.delimiter)
    ∷ closes CsvInput
    ∷ []

-- JSON of this type
abbrev pub json_input_parts : List ℕ → List Part
json_input_parts type = opens JsonInput ∷ leaf JsonType type ∷ closes JsonInput ∷ []

abbrev pub input_parts : Input → List Part
input_parts (CsvObject csv) = csv_input_parts csv
input_parts JsonLines = json_input_parts (codes "LINES")
input_parts JsonDocument = json_input_parts (codes "DOCUMENT")
input_parts Parquet = opens ParquetInput ∷ closes ParquetInput ∷ []

abbrev pub csv_output_parts : CsvOutputSettings → List Part
csv_output_parts csv =
    opens CsvOutput
    ∷ leaf OutputFieldDelimiter (csv.field ∷ [])
    ∷ leaf OutputQuoteCharacter (csv.quote ∷ [])
    ∷ leaf OutputQuoteEscapeCharacter (csv.escape ∷ [])
    ∷ leaf QuoteFields (quoting_text csv.always)
    ∷ leaf CsvRecordDelimiter (delimiter_text csv.delimiter)
    ∷ closes CsvOutput
    ∷ []

abbrev pub output_parts : Output → List Part
output_parts (CsvReply csv) = csv_output_parts csv
output_parts (Json delimiter) = opens JsonOutput ∷ leaf JsonRecordDelimiter (delimiter_text delimiter) ∷ closes JsonOutput ∷ []

abbrev pub range_parts : Option Range → List Part
range_parts None = []
range_parts (Some (Between start end)) = opens ScanRange ∷ leaf Start (decimal start) ∷ leaf End (decimal end) ∷ closes ScanRange ∷ []
range_parts (Some (From start)) = opens ScanRange ∷ leaf Start (decimal start) ∷ closes ScanRange ∷ []
range_parts (Some (Last count)) = opens ScanRange ∷ leaf End (decimal count) ∷ closes ScanRange ∷ []

-- the progress and the two formats
abbrev pub settings_parts : SelectRequest → List Part
settings_parts request =
    opens RequestProgress ∷ leaf Enabled (truth_text request.progress) ∷ closes RequestProgress
    ∷ opens InputSerialization ∷ leaf CompressionType (codes "NONE") ∷ (input_parts request.input ++ (closes InputSerialization
    ∷ opens OutputSerialization ∷ (output_parts request.output ++ closes OutputSerialization ∷ [])))

unfoldable pub parts_of : SelectRequest → List Part
parts_of request =
    opens Request ∷ leaf Expression request.expression ∷ leaf ExpressionType (codes "SQL")
    ∷ (settings_parts request ++ (range_parts request.range ++ closes Request ∷ []))

-- the printed body
abbrev pub printed : SelectRequest → List ℕ
printed request = print_parts (parts_of request)
