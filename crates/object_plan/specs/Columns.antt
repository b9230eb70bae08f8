-- The columns that a query over an object may name.
use Rattle.std.specs.Prelude.{ℕ, List, [], ◌∷◌, length, nat_lt, if◌then◌else◌, Bool, true, false, Option, None, Some, Result, Ok, Err, ◌≡◌, ◌+◌}
use Rattle.line_window.specs.Cuts.{Cut, content, cut_at}
use Rattle.csv_cutter.specs.declared.dialect.Dialect.{Dialect}
use Rattle.csv_cutter.specs.Dialects.{dialect_of, delimiter_bytes}
use Rattle.csv_cutter.specs.Cuttings.{quoted_cuts}
use Rattle.select_request.specs.declared.request.Header.{Header}
use Rattle.select_request.specs.declared.request.Header.TheVariants.{Without, Ignore, Use}
use Rattle.select_request.specs.declared.request.Input.{Input}
use Rattle.select_request.specs.declared.request.Input.TheVariants as input
use Rattle.scan_plan.specs.declared.columns.Columns.{Columns}
use Rattle.scan_plan.specs.declared.columns.Columns.TheVariants as columns
use Rattle.select_reply.specs.declared.code.Code.{Code}
use Rattle.select_reply.specs.declared.code.Code.TheVariants.{OverMaxRecordSize}
use Rattle.record_rows.specs.Headers.{names_of}
use Rattle.record_rows.specs.Formats.{format_of, line_delimiter}
use Rattle.record_rows.specs.declared.format.LineFormat.{LineFormat}

-- the names in a used header, or its fault
abbrev pub named_columns : Result (List (List ℕ)) Code → Result Columns Code
named_columns (Ok names) = Ok (columns.Names names)
named_columns (Err code) = Err code

abbrev pub header_columns : Dialect → ℕ → Cut → Result Columns Code
header_columns d longest cut = if nat_lt longest (length cut.body) then Err OverMaxRecordSize else named_columns (names_of d (content cut))

-- the header is the line at the object's front; an object without a byte has none
abbrev pub used_columns : Dialect → ℕ → List ℕ → Result Columns Code
used_columns d longest [] = Ok columns.Absent
used_columns d longest (byte ∷ bytes) = header_columns d longest (cut_at (delimiter_bytes d.delimiter) (byte ∷ bytes) 0)

-- where quoted fields may hold record delimiters the header is the first of the records
abbrev pub first_columns : Dialect → ℕ → List Cut → Result Columns Code
first_columns d longest [] = Ok columns.Absent
first_columns d longest (cut ∷ cuts) = header_columns d longest cut

abbrev pub quoted_columns : Dialect → ℕ → List ℕ → Result Columns Code
quoted_columns d longest object = first_columns d longest (quoted_cuts d object)

abbrev pub front_columns : Bool → Dialect → ℕ → List ℕ → Result Columns Code
front_columns true d longest object = quoted_columns d longest object
front_columns false d longest object = used_columns d longest object

abbrev pub csv_columns : Header → Bool → Dialect → ℕ → List ℕ → Result Columns Code
csv_columns Without quoted d longest object = Ok columns.Positions
csv_columns Ignore quoted d longest object = Ok columns.Positions
csv_columns Use quoted d longest object = front_columns quoted d longest object

-- the columns of an object under a record limit, or the fault of its header. No query over a Parquet file is built yet, so that its columns
-- are never asked for
abbrev pub columns_of : Input → ℕ → List ℕ → Result Columns Code
columns_of (input.Csv csv) longest object = csv_columns csv.header csv.quoted_delimiters (dialect_of csv) longest object
columns_of input.JsonLines longest object = Ok columns.Json
columns_of input.JsonDocument longest object = Ok columns.Document
columns_of input.Parquet longest object = Ok columns.Positions

-- ---- what reading a header needs

-- these bytes end the lines of the input
abbrev pub ends_lines : Option LineFormat → List ℕ → Type 0
ends_lines None delimiter = Unit {0}
ends_lines (Some format) delimiter = delimiter ≡ line_delimiter format

abbrev pub ends_with : Input → List ℕ → Type 0
ends_with input delimiter = ends_lines (format_of input) delimiter

abbrev pub is_used : Header → Bool
is_used Without = false
is_used Ignore = false
is_used Use = true

-- whether the object's header is used
abbrev pub uses_header : Input → Bool
uses_header (input.Csv csv) = is_used csv.header
uses_header input.JsonLines = false
uses_header input.JsonDocument = false
uses_header input.Parquet = false

-- how many bytes are read for it at most beside the record limit: a little more where quoted fields may hold record delimiters
abbrev pub header_beside : Input → ℕ
header_beside (input.Csv csv) = if csv.quoted_delimiters then 65541 else 65537
header_beside input.JsonLines = 0
header_beside input.JsonDocument = 0
header_beside input.Parquet = 0

-- the most bytes that are read for it, under a record limit, and of an object of so many bytes
abbrev pub header_read : Input → ℕ → ℕ
header_read input longest = if uses_header input then longest + header_beside input else 0

abbrev pub header_once : Input → ℕ → ℕ
header_once input size = if uses_header input then size else 0
