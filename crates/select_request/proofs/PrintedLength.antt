-- A printed body is within the limit.
use Rattle.std.specs.Prelude.{◌≡◌, ℕ, ◌+◌, ◌*◌, ◌^◌, ◌<◌, ◌≤◌, Bool, true, false, ◌&&◌, nat_lt, nat_le, List, [], ◌∷◌, ◌++◌, length, Option, None, Some, decimal}
use Rattle.std.proofs.Common.{arith}
use Rattle.std.proofs.lemmas.Bool.{ltb-true}
use Rattle.std.proofs.lemmas.Bool.Decides.{nat_tests}
use Rattle.std.proofs.lemmas.Fmt.{length-decimal-le}
use Rattle.std.proofs.Math.ListN.{length-append}
use Rattle.request_elements.specs.Elements.{name_of}
use Rattle.select_request.specs.Printed.{Part, opens, leaf, closes, escaped_byte, escaped, truth_text, header_text, quoting_text, delimiter_text, start_tag, end_tag, print_part, print_parts, input_parts, output_parts, range_parts, settings_parts, parts_of, printed}
use Rattle.select_request.specs.Values.{allows_range}
use Rattle.select_request.specs.Printable.{is_expression, is_range_of, is_printable}
use Rattle.request_elements.specs.declared.element.Element.{Element}
use Rattle.request_elements.specs.declared.element.Element.TheVariants.{Request, Expression, ExpressionType, RequestProgress, Enabled, InputSerialization, CompressionType, CsvInput, AllowQuotedRecordDelimiter, Comments, InputFieldDelimiter, FileHeaderInfo, InputQuoteCharacter, InputQuoteEscapeCharacter, InputRecordDelimiter, JsonInput, JsonType, ParquetInput, OutputSerialization, CsvOutput, OutputFieldDelimiter, OutputQuoteCharacter, OutputQuoteEscapeCharacter, QuoteFields, CsvRecordDelimiter, JsonOutput, JsonRecordDelimiter, ScanRange, Start, End}
use Rattle.select_request.specs.declared.request.Delimiter.{Delimiter}
use Rattle.select_request.specs.declared.request.Delimiter.TheVariants.{One, Two}
use Rattle.select_request.specs.declared.request.Header.{Header}
use Rattle.select_request.specs.declared.request.Header.TheVariants.{Without, Ignore, Use}
use Rattle.select_request.specs.declared.request.Input.{Input}
use Rattle.select_request.specs.declared.request.Input.TheVariants.{Csv as CsvObject, JsonLines, JsonDocument, Parquet}
use Rattle.select_request.specs.declared.request.Output.{Output}
use Rattle.select_request.specs.declared.request.Output.TheVariants.{Csv as CsvReply, Json}
use Rattle.select_request.specs.declared.request.ScanRange.{ScanRange as Range}
use Rattle.select_request.specs.declared.request.ScanRange.TheVariants.{Between, From, Last}
use Rattle.select_request.specs.declared.request.SelectRequest.{SelectRequest}
use Rattle.select_request.proofs.Printables.{and_left, and_right, printable}
use Rattle.select_request.proofs.Readback.{at_most_less}
use Rattle.select_request.proofs.Resolved.{by_special}

-- ---- a bound for each part

abbrev weight : Part → ℕ
weight (opens e) = 28
weight (leaf e t) = 57 + 5 * length t
weight (closes e) = 29

abbrev weigh : List Part → ℕ
weigh [] = 0
weigh (x ∷ xs) = weight x + weigh xs

-- the longest name has 26 bytes
name_bound : (e : Element) → length (name_of e) ≤ 26
name_bound Request = omega arith
name_bound Expression = omega arith
name_bound ExpressionType = omega arith
name_bound RequestProgress = omega arith
name_bound Enabled = omega arith
name_bound InputSerialization = omega arith
name_bound CompressionType = omega arith
name_bound CsvInput = omega arith
name_bound AllowQuotedRecordDelimiter = omega arith
name_bound Comments = omega arith
name_bound InputFieldDelimiter = omega arith
name_bound FileHeaderInfo = omega arith
name_bound InputQuoteCharacter = omega arith
name_bound InputQuoteEscapeCharacter = omega arith
name_bound InputRecordDelimiter = omega arith
name_bound JsonInput = omega arith
name_bound JsonType = omega arith
name_bound ParquetInput = omega arith
name_bound OutputSerialization = omega arith
name_bound CsvOutput = omega arith
name_bound OutputFieldDelimiter = omega arith
name_bound OutputQuoteCharacter = omega arith
name_bound OutputQuoteEscapeCharacter = omega arith
name_bound QuoteFields = omega arith
name_bound CsvRecordDelimiter = omega arith
name_bound JsonOutput = omega arith
name_bound JsonRecordDelimiter = omega arith
name_bound ScanRange = omega arith
name_bound Start = omega arith
name_bound End = omega arith

start_bound : (e : Element) → length (start_tag e) ≤ 28
unfolding start_tag
start_bound e = omega (arith, name_bound e, length-append (name_of e) (62 ∷ []))

end_bound : (e : Element) → length (end_tag e) ≤ 29
unfolding end_tag
end_bound e = omega (arith, name_bound e, length-append (name_of e) (62 ∷ []))

byte_bound : (b : ℕ) → length (escaped_byte b) ≤ 5
byte_bound b = by_special (λ n text. length text ≤ 5) (omega arith) (omega arith) (omega arith) (λ n less greater ampersand. omega arith) b

escaped_bound : (text : List ℕ) → length (escaped text) ≤ 5 * length text
escaped_bound [] = omega arith
escaped_bound (b ∷ text) = omega (arith, length-append (escaped_byte b) (escaped text), byte_bound b, escaped_bound text)

part_bound : (x : Part) → length (print_part x) ≤ weight x
unfolding print_part
part_bound (opens e) = start_bound e
part_bound (leaf e t) =
    omega (arith, length-append (start_tag e ++ escaped t) (end_tag e), length-append (start_tag e) (escaped t), start_bound e, escaped_bound t, end_bound e)
part_bound (closes e) = end_bound e

parts_bound : (xs : List Part) → length (print_parts xs) ≤ weigh xs
parts_bound [] = omega arith
parts_bound (x ∷ xs) = omega (arith, length-append (print_part x) (print_parts xs), part_bound x, parts_bound xs)

weigh-append : (xs ys : List Part) → weigh (xs ++ ys) ≡ weigh xs + weigh ys
weigh-append [] ys = omega arith
weigh-append (x ∷ xs) ys = omega (arith, weigh-append xs ys)

-- ---- the texts

truth_bound : (b : Bool) → length (truth_text b) ≤ 5
truth_bound true = omega arith
truth_bound false = omega arith

header_bound : (h : Header) → length (header_text h) ≤ 6
header_bound Without = omega arith
header_bound Ignore = omega arith
header_bound Use = omega arith

quoting_bound : (b : Bool) → length (quoting_text b) ≤ 8
quoting_bound true = omega arith
quoting_bound false = omega arith

delimiter_bound : (d : Delimiter) → length (delimiter_text d) ≤ 2
delimiter_bound (One a) = omega arith
delimiter_bound (Two a b) = omega arith

decimal_bound : (n : ℕ) → n < 2 ^ 63 → length (decimal n) ≤ 20
decimal_bound n h = length-decimal-le 20 n (omega arith) (omega arith) (omega arith)

input_bound : (i : Input) → weigh (input_parts i) ≤ 600
input_bound (CsvObject csv) = omega (arith, truth_bound csv.quoted_delimiters, header_bound csv.header, delimiter_bound csv.delimiter)
input_bound JsonLines = omega arith
input_bound JsonDocument = omega arith
input_bound Parquet = omega arith

output_bound : (o : Output) → weigh (output_parts o) ≤ 600
output_bound (CsvReply csv) = omega (arith, quoting_bound csv.always, delimiter_bound csv.delimiter)
output_bound (Json d) = omega (arith, delimiter_bound d)

range_bound : (i : Input) (g : Option Range) → is_range_of i g ≡ true → weigh (range_parts g) ≤ 600
range_bound i None h = omega arith
range_bound i (Some (Between start end)) h =
    let range = and_left (nat_le start end && nat_lt end (2 ^ 63)) (allows_range i) h in
    let order = and_left (nat_le start end) (nat_lt end (2 ^ 63)) range in
    let small = and_right (nat_le start end) (nat_lt end (2 ^ 63)) range in
    omega (arith, decimal_bound start (at_most_less start end (2 ^ 63) order small), decimal_bound end (ltb-true end (2 ^ 63) small))
range_bound i (Some (From start)) h = omega (arith, decimal_bound start (ltb-true start (2 ^ 63) (and_left (nat_lt start (2 ^ 63)) (allows_range i) h)))
range_bound i (Some (Last count)) h =
    let range = and_left (nat_lt 0 count && nat_lt count (2 ^ 63)) (allows_range i) h in
    omega (arith, decimal_bound count (ltb-true count (2 ^ 63) (and_right (nat_lt 0 count) (nat_lt count (2 ^ 63)) range)))

settings_bound : (r : SelectRequest) → weigh (settings_parts r) ≤ 1800
settings_bound r =
    let behind_output = closes OutputSerialization ∷ [] in
    let behind_input = closes InputSerialization ∷ opens OutputSerialization ∷ (output_parts r.output ++ behind_output) in
    omega (arith, truth_bound r.progress, weigh-append (input_parts r.input) behind_input, weigh-append (output_parts r.output) behind_output, input_bound r.input, output_bound r.output)

expression_bound : (x : List ℕ) → is_expression x ≡ true → length x ≤ 262144
expression_bound x h = let fits : nat_le (length x) 262144 ≡ true = and_left (nat_le (length x) 262144) _ h in grind (arith, nat_tests)

-- a printed body is within the limit of bodies
pub printed_bound : (r : SelectRequest) → is_printable r ≡ true → length (printed r) ≤ 2097152
unfolding parts_of
printed_bound r h =
    let p = printable r h in
    let last = closes Request ∷ [] in
    omega (
      arith,
      parts_bound (parts_of r),
      weigh-append (settings_parts r) (range_parts r.range ++ last),
      weigh-append (range_parts r.range) last,
      settings_bound r,
      range_bound r.input r.range p.range,
      expression_bound r.expression p.expression,
    )
