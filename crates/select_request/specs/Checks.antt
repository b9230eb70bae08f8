-- The checks on the elements found in a body, in the order in which they are made. The first that isn't
-- met is the body's fault (Amazon S3 API Reference, SelectObjectContent, and its errors).
use Rattle.std.specs.Prelude.{ℕ, ◌+◌, Bool, true, nat_lt, List, [], ◌∷◌, Option, None, Some, is_some, codes, if◌then◌else◌}
use Rattle.select_request.specs.Values.{is_word, truth_of, header_of, quoting_of, json_of, character_of, input_delimiter_of, output_delimiter_of, allows_range, input_is_apart, output_is_apart}
use Rattle.select_request.specs.Request.{has, text_in, place_in, csv_input_from, input_from, csv_output_from, range_from}
use Rattle.select_request.specs.declared.checks.Check.{Check}
use Rattle.select_request.specs.declared.checks.Check.TheVariants.{Holds, Fits, HasFormat, HasOneFormat, InputIsApart, OutputIsApart, IsRange, AllowsRange}
use Rattle.request_elements.specs.declared.element.Element.{Element}
use Rattle.request_elements.specs.declared.element.Element.TheVariants.{Request, Expression, ExpressionType, Enabled, InputSerialization, CompressionType, CsvInput, AllowQuotedRecordDelimiter, Comments, InputFieldDelimiter, FileHeaderInfo, InputQuoteCharacter, InputQuoteEscapeCharacter, InputRecordDelimiter, JsonInput, JsonType, ParquetInput, OutputSerialization, CsvOutput, OutputFieldDelimiter, OutputQuoteCharacter, OutputQuoteEscapeCharacter, QuoteFields, CsvRecordDelimiter, JsonOutput, JsonRecordDelimiter, ScanRange}
use Rattle.select_request.specs.declared.fault.RequestFault.{RequestFault}
use Rattle.select_request.specs.declared.fault.RequestFaultCode.{RequestFaultCode}
use Rattle.select_request.specs.declared.fault.RequestFaultCode.TheVariants.{MissingRequiredParameter, InvalidExpressionType, InvalidRequestParameter, InvalidCompressionFormat, InvalidScanRange, UnsupportedScanRangeInput}
use Rattle.request_elements.specs.declared.found.Found.{Found}

-- the checks, in their order
unfoldable pub checks : List Check
checks =
    Holds Request Expression
    ∷ Holds Request ExpressionType ∷ Fits ExpressionType
    ∷ Fits Enabled
    ∷ Holds Request InputSerialization ∷ Fits CompressionType
    ∷ HasFormat InputSerialization ∷ HasOneFormat InputSerialization
    ∷ Fits AllowQuotedRecordDelimiter ∷ Fits Comments ∷ Fits InputFieldDelimiter ∷ Fits FileHeaderInfo
    ∷ Fits InputQuoteCharacter ∷ Fits InputQuoteEscapeCharacter ∷ Fits InputRecordDelimiter
    ∷ InputIsApart
    ∷ Holds JsonInput JsonType ∷ Fits JsonType
    ∷ Holds Request OutputSerialization
    ∷ HasFormat OutputSerialization ∷ HasOneFormat OutputSerialization
    ∷ Fits OutputFieldDelimiter ∷ Fits OutputQuoteCharacter ∷ Fits OutputQuoteEscapeCharacter
    ∷ Fits QuoteFields ∷ Fits CsvRecordDelimiter
    ∷ OutputIsApart
    ∷ Fits JsonRecordDelimiter
    ∷ IsRange ∷ AllowsRange
    ∷ []

-- the text is one of the element's values
abbrev pub fits : Element → List ℕ → Bool
fits ExpressionType text = is_word (codes "SQL") text
fits Enabled text = is_some (truth_of text)
fits CompressionType text = is_word (codes "NONE") text
fits AllowQuotedRecordDelimiter text = is_some (truth_of text)
fits Comments text = is_some (character_of text)
fits InputFieldDelimiter text = is_some (character_of text)
fits FileHeaderInfo text = is_some (header_of text)
fits InputQuoteCharacter text = is_some (character_of text)
fits InputQuoteEscapeCharacter text = is_some (character_of text)
fits InputRecordDelimiter text = is_some (input_delimiter_of text)
fits JsonType text = is_some (json_of text)
fits OutputFieldDelimiter text = is_some (character_of text)
fits OutputQuoteCharacter text = is_some (character_of text)
fits OutputQuoteEscapeCharacter text = is_some (character_of text)
fits QuoteFields text = is_some (quoting_of text)
fits CsvRecordDelimiter text = is_some (output_delimiter_of text)
fits JsonRecordDelimiter text = is_some (output_delimiter_of text)
fits e text = true

-- an element that isn't there has no value to be checked
abbrev pub fits_where_there : Element → Option (List ℕ) → Bool
fits_where_there e None = true
fits_where_there e (Some text) = fits e text

-- 1 where the element is there
abbrev pub counted : Element → List Found → ℕ
counted e found = if has e found then 1 else 0

-- how many formats stand in the element
abbrev pub formats_in : Element → List Found → ℕ
formats_in InputSerialization found = counted CsvInput found + counted JsonInput found + counted ParquetInput found
formats_in e found = counted CsvOutput found + counted JsonOutput found

-- whether the elements found meet a check: where the first element is there, it holds the second; the
-- element's text is one of its values; it holds a format; it holds no two; the characters of the
-- object's CSV aren't in each other's way; nor those of the reply's; the range is one, where it is
-- there; where it is there, the object's format allows it
abbrev pub is_met : List Found → Check → Bool
is_met found (Holds parent e) = if has parent found then has e found else true
is_met found (Fits e) = fits_where_there e (text_in e found)
is_met found (HasFormat e) = nat_lt 0 (formats_in e found)
is_met found (HasOneFormat e) = nat_lt (formats_in e found) 2
is_met found InputIsApart = input_is_apart (csv_input_from found)
is_met found OutputIsApart = output_is_apart (csv_output_from found)
is_met found IsRange = if has ScanRange found then is_some (range_from found) else true
is_met found AllowsRange = if has ScanRange found then allows_range (input_from found) else true

-- the fault's kind
abbrev pub code_of : Check → RequestFaultCode
code_of (Holds parent e) = MissingRequiredParameter
code_of (Fits ExpressionType) = InvalidExpressionType
code_of (Fits CompressionType) = InvalidCompressionFormat
code_of (Fits e) = InvalidRequestParameter
code_of (HasFormat e) = MissingRequiredParameter
code_of (HasOneFormat e) = InvalidRequestParameter
code_of InputIsApart = InvalidRequestParameter
code_of OutputIsApart = InvalidRequestParameter
code_of IsRange = InvalidScanRange
code_of AllowsRange = UnsupportedScanRangeInput

-- the element at which it is placed
abbrev pub element_at : Check → Element
element_at (Holds parent e) = parent
element_at (Fits e) = e
element_at (HasFormat e) = e
element_at (HasOneFormat e) = e
element_at InputIsApart = CsvInput
element_at OutputIsApart = CsvOutput
element_at IsRange = ScanRange
element_at AllowsRange = ScanRange

abbrev pub fault_at : List Found → Check → RequestFault
fault_at found check = record { code = code_of check; at = place_in (element_at check) found }

-- the fault of the first check that isn't met
abbrev pub first_unmet : List Found → List Check → Option RequestFault
first_unmet found [] = None
first_unmet found (check ∷ later) = if is_met found check then first_unmet found later else Some (fault_at found check)

-- the fault of the elements found in a body
unfoldable pub first_fault : List Found → Option RequestFault
first_fault found = first_unmet found checks
