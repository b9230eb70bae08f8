-- The requests that are printed: those whose values pass the checks that a body's do, and whose
-- expression a body can hold.
use Rattle.std.specs.Prelude.{ℕ, ◌^◌, Bool, true, nat_lt, nat_le, ◌&&◌, ◌==◌, not, List, length, Option, None, Some}
use Rattle.std.specs.List.{list_any}
use Rattle.select_request.specs.Values.{is_character, allows_range, input_is_apart, output_is_apart}
use Rattle.select_request.specs.declared.request.CsvInput.{CsvInput}
use Rattle.select_request.specs.declared.request.CsvOutput.{CsvOutput}
use Rattle.select_request.specs.declared.request.Delimiter.{Delimiter}
use Rattle.select_request.specs.declared.request.Delimiter.TheVariants.{One, Two}
use Rattle.select_request.specs.declared.request.Input.{Input}
use Rattle.select_request.specs.declared.request.Input.TheVariants.{Csv as CsvObject, JsonLines, JsonDocument, Parquet}
use Rattle.select_request.specs.declared.request.Output.{Output}
use Rattle.select_request.specs.declared.request.Output.TheVariants.{Csv as CsvReply, Json}
use Rattle.select_request.specs.declared.request.ScanRange.{ScanRange}
use Rattle.select_request.specs.declared.request.ScanRange.TheVariants.{Between, From, Last}
use Rattle.select_request.specs.declared.request.SelectRequest.{SelectRequest}

-- the delimiter's bytes are ASCII characters
abbrev pub is_delimiter : Delimiter → Bool
is_delimiter (One a) = is_character a
is_delimiter (Two a b) = is_character a && is_character b

-- no byte of it stands in it twice
abbrev pub is_varied : Delimiter → Bool
is_varied (One a) = true
is_varied (Two a b) = not (a == b)

abbrev pub is_csv_input : CsvInput → Bool
is_csv_input csv =
    is_character csv.comment && is_character csv.field && is_character csv.quote && is_character csv.escape
    && is_delimiter csv.delimiter && is_varied csv.delimiter && input_is_apart csv

abbrev pub is_csv_output : CsvOutput → Bool
is_csv_output csv =
    is_character csv.field && is_character csv.quote && is_character csv.escape
    && is_delimiter csv.delimiter && output_is_apart csv

abbrev pub is_input : Input → Bool
is_input (CsvObject csv) = is_csv_input csv
is_input JsonLines = true
is_input JsonDocument = true
is_input Parquet = true

abbrev pub is_output : Output → Bool
is_output (CsvReply csv) = is_csv_output csv
is_output (Json delimiter) = is_delimiter delimiter

-- places up to 2^63 - 1, the start at most the end, one byte at least
abbrev pub is_range : ScanRange → Bool
is_range (Between start end) = nat_le start end && nat_lt end (2 ^ 63)
is_range (From start) = nat_lt start (2 ^ 63)
is_range (Last count) = nat_lt 0 count && nat_lt count (2 ^ 63)

abbrev pub is_range_of : Input → Option ScanRange → Bool
is_range_of input None = true
is_range_of input (Some range) = is_range range && allows_range input

-- its values pass the checks that a body's do
unfoldable pub is_valid : SelectRequest → Bool
is_valid request = is_input request.input && is_output request.output && is_range_of request.input request.range

-- the longest expression that is printed
abbrev pub longest_expression : ℕ
longest_expression = 262144

-- the bytes of an expression, with no NUL
abbrev pub is_expression : List ℕ → Bool
is_expression bytes = nat_le (length bytes) longest_expression && not (list_any (λ b. b == 0) bytes)

unfoldable pub is_printable : SelectRequest → Bool
is_printable request = is_expression request.expression && is_valid request
