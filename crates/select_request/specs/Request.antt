-- The request that the elements found in a body spell: each value, or its default where the element
-- isn't there (Amazon S3 API Reference, SelectObjectContent).
use Rattle.std.specs.Prelude.{ℕ, Bool, false, List, [], ◌∷◌, Option, None, Some, is_some, unwrap_or, if◌then◌else◌}
use Rattle.request_elements.specs.Elements.{same_element}
use Rattle.select_request.specs.Values.{truth_of, header_of, quoting_of, json_of, character_of, input_delimiter_of, output_delimiter_of, range_of}
use Rattle.request_elements.specs.declared.element.Element.{Element}
use Rattle.request_elements.specs.declared.element.Element.TheVariants.{Expression, Enabled, CsvInput, AllowQuotedRecordDelimiter, Comments, InputFieldDelimiter, FileHeaderInfo, InputQuoteCharacter, InputQuoteEscapeCharacter, InputRecordDelimiter, JsonInput, JsonType, CsvOutput, OutputFieldDelimiter, OutputQuoteCharacter, OutputQuoteEscapeCharacter, QuoteFields, CsvRecordDelimiter, JsonRecordDelimiter, ScanRange, Start, End}
use Rattle.request_elements.specs.declared.found.Found.{Found}
use Rattle.select_request.specs.declared.request.CsvInput.{CsvInput as CsvInputSettings}
use Rattle.select_request.specs.declared.request.CsvOutput.{CsvOutput as CsvOutputSettings}
use Rattle.select_request.specs.declared.request.Delimiter.TheVariants.{One}
use Rattle.select_request.specs.declared.request.Header.TheVariants.{Without}
use Rattle.select_request.specs.declared.request.Input.{Input}
use Rattle.select_request.specs.declared.request.Input.TheVariants.{Csv as CsvObject, JsonLines, Parquet}
use Rattle.select_request.specs.declared.request.Output.{Output}
use Rattle.select_request.specs.declared.request.Output.TheVariants.{Csv as CsvReply, Json}
use Rattle.select_request.specs.declared.request.ScanRange.{ScanRange as Range}
use Rattle.select_request.specs.declared.request.SelectRequest.{SelectRequest}

-- the first of the elements found that is this one
abbrev pub find : Element → List Found → Option Found
find e [] = None
find e (f ∷ found) = if same_element f.element e then Some f else find e found

abbrev pub text_at : Option Found → Option (List ℕ)
text_at None = None
text_at (Some f) = Some f.text

-- its text
abbrev pub text_in : Element → List Found → Option (List ℕ)
text_in e found = text_at (find e found)

-- the element is there
abbrev pub has : Element → List Found → Bool
has e found = is_some (text_in e found)

abbrev pub place_at : Option Found → ℕ
place_at None = 0
place_at (Some f) = f.at

-- the place of the `<` of the element's start tag
abbrev pub place_in : Element → List Found → ℕ
place_in e found = place_at (find e found)

abbrev pub value_at : {A : Type 0} → (List ℕ → Option A) → A → Option (List ℕ) → A
value_at value_of default None = default
value_at value_of default (Some text) = unwrap_or (value_of text) default

-- the value of its text, or the default where it isn't there
abbrev pub value_in : {A : Type 0} → (List ℕ → Option A) → A → Element → List Found → A
value_in value_of default e found = value_at value_of default (text_in e found)

-- ---- the defaults

abbrev pub comma : ℕ
comma = 44

abbrev pub double_quote : ℕ
double_quote = 34

abbrev pub number_sign : ℕ
number_sign = 35

abbrev pub line_feed : ℕ
line_feed = 10

abbrev pub csv_input_from : List Found → CsvInputSettings
csv_input_from found = record {
  quoted_delimiters = value_in truth_of false AllowQuotedRecordDelimiter found;
  comment = value_in character_of number_sign Comments found;
  field = value_in character_of comma InputFieldDelimiter found;
  header = value_in header_of Without FileHeaderInfo found;
  quote = value_in character_of double_quote InputQuoteCharacter found;
  escape = value_in character_of double_quote InputQuoteEscapeCharacter found;
  delimiter = value_in input_delimiter_of (One line_feed) InputRecordDelimiter found;
}

-- a JSON object has a Type, where the elements pass all checks
abbrev pub input_from : List Found → Input
input_from found =
    if has CsvInput found then CsvObject (csv_input_from found)
    else if has JsonInput found then value_in json_of JsonLines JsonType found
    else Parquet

abbrev pub csv_output_from : List Found → CsvOutputSettings
csv_output_from found = record {
  field = value_in character_of comma OutputFieldDelimiter found;
  quote = value_in character_of double_quote OutputQuoteCharacter found;
  escape = value_in character_of double_quote OutputQuoteEscapeCharacter found;
  always = value_in quoting_of false QuoteFields found;
  delimiter = value_in output_delimiter_of (One line_feed) CsvRecordDelimiter found;
}

abbrev pub output_from : List Found → Output
output_from found = if has CsvOutput found then CsvReply (csv_output_from found) else Json (value_in output_delimiter_of (One line_feed) JsonRecordDelimiter found)

-- no range, where ScanRange isn't there
abbrev pub range_from : List Found → Option Range
range_from found = if has ScanRange found then range_of (text_in Start found) (text_in End found) else None

-- the request, where the elements pass all checks
unfoldable pub request_from : List Found → SelectRequest
request_from found = record {
  expression = unwrap_or (text_in Expression found) [];
  progress = value_in truth_of false Enabled found;
  input = input_from found;
  output = output_from found;
  range = range_from found;
}
