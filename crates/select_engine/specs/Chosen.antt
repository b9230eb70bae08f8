-- Which records of an object a request asks for: those that start in its range; all of them where quoted fields may hold record delimiters,
-- since such an object can only be read from its front.
use Rattle.std.specs.Prelude.{ℕ, List, length, Option, None, Some, if◌then◌else◌}
use Rattle.line_window.specs.Cuts.{Cut}
use Rattle.scan_ranges.specs.Resolved.{resolved}
use Rattle.select_request.specs.declared.request.Input.{Input}
use Rattle.select_request.specs.declared.request.Input.TheVariants as input
use Rattle.select_request.specs.declared.request.ScanRange.{ScanRange}
use Rattle.select_request.specs.declared.request.SelectRequest.{SelectRequest}
use Rattle.csv_cutter.specs.declared.dialect.Dialect.{Dialect}
use Rattle.csv_cutter.specs.Dialects.{dialect_of}
use Rattle.csv_cutter.specs.Cuttings.{quoted_cuts}
use Rattle.record_stream.specs.Selected.{selected_cuts}

-- the dialect of an object whose quoted fields may hold record delimiters
abbrev pub quoted_dialect : Input → Option Dialect
quoted_dialect (input.Csv csv) = if csv.quoted_delimiters then Some (dialect_of csv) else None
quoted_dialect input.JsonLines = None
quoted_dialect input.JsonDocument = None
quoted_dialect input.Parquet = None

-- ---- by that dialect, if there is one

abbrev pub range_by : Option Dialect → Option ScanRange → Option ScanRange
range_by None range = range
range_by (Some dialect) range = None

abbrev pub cuts_by : Option Dialect → List ℕ → Option ScanRange → List ℕ → List Cut
cuts_by None delimiter range object = selected_cuts delimiter object (resolved range (length object))
cuts_by (Some dialect) delimiter range object = quoted_cuts dialect object

-- how many bytes are read for a used header at most, beside the record limit
abbrev pub beside_by : Option Dialect → ℕ
beside_by None = 65537
beside_by (Some dialect) = 65541

-- ---- by the request

-- the range that is asked for
abbrev pub chosen_range : SelectRequest → Option ScanRange
chosen_range request = range_by (quoted_dialect request.input) request.range

-- the cuts of the records that are asked for, where this delimiter ends a line
abbrev pub chosen_cuts : List ℕ → SelectRequest → List ℕ → List Cut
chosen_cuts delimiter request object = cuts_by (quoted_dialect request.input) delimiter request.range object
