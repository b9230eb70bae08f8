-- What an element's text stands for (Amazon S3 API Reference, SelectObjectContent, and the data types
-- that it names): None where it is none of the element's values. Words ignore ASCII case.
use Rattle.std.specs.Prelude.{ℕ, ◌^◌, Bool, true, false, nat_lt, ◌&&◌, ◌||◌, ◌==◌, not, List, [], ◌∷◌, Option, None, Some, codes, if◌then◌else◌}
use Rattle.std.specs.Str.{str_eq_ignore_ascii_case, all_ascii_digits}
use Rattle.std.specs.Str.Parse.{digits_value}
use Rattle.select_request.specs.declared.request.CsvInput.{CsvInput}
use Rattle.select_request.specs.declared.request.CsvOutput.{CsvOutput}
use Rattle.select_request.specs.declared.request.Delimiter.{Delimiter}
use Rattle.select_request.specs.declared.request.Delimiter.TheVariants.{One, Two}
use Rattle.select_request.specs.declared.request.Header.{Header}
use Rattle.select_request.specs.declared.request.Header.TheVariants.{Without, Ignore, Use}
use Rattle.select_request.specs.declared.request.Input.{Input}
use Rattle.select_request.specs.declared.request.Input.TheVariants.{Csv, JsonLines, JsonDocument, Parquet}
use Rattle.select_request.specs.declared.request.ScanRange.{ScanRange}
use Rattle.select_request.specs.declared.request.ScanRange.TheVariants.{Between, From, Last}

-- the text is this word, in any ASCII case
unfoldable pub is_word : List ℕ → List ℕ → Bool
is_word word text = str_eq_ignore_ascii_case text word

-- TRUE or FALSE
abbrev pub truth_of : List ℕ → Option Bool
truth_of text = if is_word (codes "TRUE") text then Some true else if is_word (codes "FALSE") text then Some false else None

-- NONE, IGNORE or USE
abbrev pub header_of : List ℕ → Option Header
header_of text =
    if is_word (codes "NONE") text then Some Without
    else if is_word (codes "IGNORE") text then Some Ignore
    else if is_word (codes "USE") text then Some Use
    else None

-- whether all fields are quoted: ALWAYS or ASNEEDED
abbrev pub quoting_of : List ℕ → Option Bool
quoting_of text = if is_word (codes "ALWAYS") text then Some true else if is_word (codes "ASNEEDED") text then Some false else None

-- which JSON the object is: LINES or DOCUMENT
abbrev pub json_of : List ℕ → Option Input
json_of text = if is_word (codes "LINES") text then Some JsonLines else if is_word (codes "DOCUMENT") text then Some JsonDocument else None

-- an ASCII character other than NUL
abbrev pub is_character : ℕ → Bool
is_character b = nat_lt 0 b && nat_lt b 128

-- one ASCII character
abbrev pub character_of : List ℕ → Option ℕ
character_of [] = None
character_of (b ∷ []) = if is_character b then Some b else None
character_of (b ∷ c ∷ bytes) = None

-- the object's record delimiter: one ASCII character, or two different ones
abbrev pub input_delimiter_of : List ℕ → Option Delimiter
input_delimiter_of [] = None
input_delimiter_of (b ∷ []) = if is_character b then Some (One b) else None
input_delimiter_of (b ∷ c ∷ []) = if is_character b && is_character c && not (b == c) then Some (Two b c) else None
input_delimiter_of (b ∷ c ∷ d ∷ bytes) = None

-- the reply's record delimiter: one or two ASCII characters
abbrev pub output_delimiter_of : List ℕ → Option Delimiter
output_delimiter_of [] = None
output_delimiter_of (b ∷ []) = if is_character b then Some (One b) else None
output_delimiter_of (b ∷ c ∷ []) = if is_character b && is_character c then Some (Two b c) else None
output_delimiter_of (b ∷ c ∷ d ∷ bytes) = None

-- one digit or more
abbrev pub is_digits : List ℕ → Bool
is_digits [] = false
is_digits (b ∷ bytes) = all_ascii_digits (b ∷ bytes)

-- digits of a value up to 2^63 - 1
unfoldable pub whole_number_of : List ℕ → Option ℕ
whole_number_of text = if is_digits text && nat_lt (digits_value 10 text) (2 ^ 63) then Some (digits_value 10 text) else None

-- ---- ranges

-- from the start to the end, both included
abbrev pub between : Option ℕ → Option ℕ → Option ScanRange
between None end = None
between (Some start) None = None
between (Some start) (Some end) = if nat_lt end start then None else Some (Between start end)

-- from the start on
abbrev pub from_start : Option ℕ → Option ScanRange
from_start None = None
from_start (Some start) = Some (From start)

-- the last bytes, as many as the end says
abbrev pub last_bytes : Option ℕ → Option ScanRange
last_bytes None = None
last_bytes (Some count) = if count == 0 then None else Some (Last count)

-- the range that Start's text and End's spell, of which one is there
abbrev pub range_of : Option (List ℕ) → Option (List ℕ) → Option ScanRange
range_of None None = None
range_of (Some start) None = from_start (whole_number_of start)
range_of None (Some end) = last_bytes (whole_number_of end)
range_of (Some start) (Some end) = between (whole_number_of start) (whole_number_of end)

-- a range may be asked of the object: not of CSV where a quoted field may hold a record delimiter, nor of
-- a JSON document
abbrev pub allows_range : Input → Bool
allows_range (Csv csv) = not csv.quoted_delimiters
allows_range JsonLines = true
allows_range JsonDocument = false
allows_range Parquet = true

-- ---- characters that stand in each other's way

-- the character is one of the delimiter's
abbrev pub holds : Delimiter → ℕ → Bool
holds (One a) c = a == c
holds (Two a b) c = (a == c) || (b == c)

-- field, quote, comment and each byte of the record delimiter are pairwise different, and the escape
-- differs from all but the quote; the delimiter's own two bytes differ by `input_delimiter_of`
abbrev pub input_is_apart : CsvInput → Bool
input_is_apart csv =
    not (csv.field == csv.quote) && not (csv.field == csv.comment) && not (csv.quote == csv.comment)
    && not (holds csv.delimiter csv.field) && not (holds csv.delimiter csv.quote) && not (holds csv.delimiter csv.comment)
    && not (csv.escape == csv.field) && not (csv.escape == csv.comment) && not (holds csv.delimiter csv.escape)

-- field, quote and each byte of the record delimiter are pairwise different, but for the two bytes of
-- the delimiter, and the escape differs from the field and from the delimiter's bytes
abbrev pub output_is_apart : CsvOutput → Bool
output_is_apart csv =
    not (csv.field == csv.quote)
    && not (holds csv.delimiter csv.field) && not (holds csv.delimiter csv.quote)
    && not (csv.escape == csv.field) && not (holds csv.delimiter csv.escape)
