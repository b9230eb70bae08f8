-- How the lines of an object are read, and what each of its cuts is.
use Rattle.std.specs.Prelude.{ℕ, ◌&&◌, ◌==◌, nat_lt, Bool, true, false, if◌then◌else◌, List, [], ◌∷◌, length, Option, None, Some}
use Rattle.csv_cutter.specs.Dialects.{is_valid, dialect_of, delimiter_bytes}
use Rattle.line_window.specs.Cuts.{Cut, content}
use Rattle.select_reply.specs.declared.code.Code.TheVariants.{OverMaxRecordSize}
use Rattle.select_request.specs.declared.request.Header.{Header}
use Rattle.select_request.specs.declared.request.Header.TheVariants.{Without, Ignore, Use}
use Rattle.select_request.specs.declared.request.Input.{Input}
use Rattle.select_request.specs.declared.request.Input.TheVariants as input
use Rattle.record_rows.specs.Rows.{RowOf, passed, faulty, csv_row, json_row}
use Rattle.record_rows.specs.declared.format.LineFormat.{LineFormat}
use Rattle.record_rows.specs.declared.format.LineFormat.TheVariants.{Csv, JsonLines}

-- ---- the format of a request's input

-- the first line is no record
abbrev pub has_header : Header → Bool
has_header Without = false
has_header Ignore = true
has_header Use = true

-- a JSON document and Parquet have no lines
abbrev pub format_of : Input → Option LineFormat
format_of (input.Csv csv) = Some (Csv (dialect_of csv) (has_header csv.header))
format_of input.JsonLines = Some JsonLines
format_of input.JsonDocument = None
format_of input.Parquet = None

-- the characters of its dialect don't stand in each other's way
abbrev pub is_readable : LineFormat → Bool
is_readable (Csv dialect headed) = is_valid dialect
is_readable JsonLines = true

-- what ends a line: a line feed in JSON Lines
abbrev pub line_delimiter : LineFormat → List ℕ
line_delimiter (Csv dialect headed) = delimiter_bytes dialect.delimiter
line_delimiter JsonLines = 10 ∷ []

-- ---- what a cut is

-- the cut at this place is the header
abbrev pub is_header : LineFormat → ℕ → Bool
is_header (Csv dialect headed) start = headed && start == 0
is_header JsonLines start = false

-- of the content of a cut that is no header
abbrev pub own_row : LineFormat → List ℕ → RowOf
own_row (Csv dialect headed) bytes = csv_row dialect bytes
own_row JsonLines bytes = json_row bytes

-- of the content of the cut at a place
abbrev pub content_row : LineFormat → ℕ → List ℕ → RowOf
content_row format start bytes = if is_header format start then passed else own_row format bytes

-- of a cut, under a record limit: a header is passed whatever its length, and any other cut over the limit is faulty
abbrev pub cut_row : LineFormat → ℕ → Cut → RowOf
cut_row format longest cut =
    if is_header format cut.start then passed
    else if nat_lt longest (length cut.body) then faulty OverMaxRecordSize
    else content_row format cut.start (content cut)
