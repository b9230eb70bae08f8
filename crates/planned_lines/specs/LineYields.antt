-- What the lines of an object yield to a plan, one after the other.
use Rattle.std.specs.Prelude.{◌≡◌, ℕ, ◌≤◌, Bool, true, false, List, [], ◌∷◌, map, Option, None, Some, Result, Ok, Err, if◌then◌else◌}
use Rattle.std.specs.List.{flat_map}
use Rattle.line_window.specs.Cuts.{Cut, content}
use Rattle.select_request.specs.declared.request.Output.{Output}
use Rattle.sql_bound.specs.declared.tree.Bound.{Bound}
use Rattle.sql_bound.specs.declared.tree.BoundAgg.{BoundAgg}
use Rattle.sql_value.specs.declared.value.Value.{Value}
use Rattle.sql_totals.specs.Partials.{Partial, start}
use Rattle.scan_plan.specs.declared.columns.Columns.{Columns}
use Rattle.scan_plan.specs.declared.plans.Plan.{Plan}
use Rattle.scan_plan.specs.declared.plans.PlanItems.{PlanItems}
use Rattle.scan_plan.specs.declared.plans.PlanItems.TheVariants as items
use Rattle.select_reply.specs.declared.code.Code.{Code}
use Rattle.select_reply.specs.declared.code.Code.TheVariants.{OverMaxRecordSize}
use Rattle.select_reply.specs.Yields.{Yield, fails}
use Rattle.record_rows.specs.Rows.{RowOf, passed, row, faulty}
use Rattle.record_rows.specs.Formats.{is_header, content_row}
use Rattle.record_rows.specs.declared.format.LineFormat.{LineFormat}
use Rattle.record_yields.specs.Yields.{row_yield}
use Rattle.record_yields.specs.Totals.{row_added, yield_of_added, totals_yield}
use Rattle.record_stream.specs.Lines.{Seen, Lines, is_too_long, end_of, IsShort, IsWithoutTotals}

-- the plan is of aggregates
abbrev pub has_aggregates : PlanItems → Bool
has_aggregates items.All = false
has_aggregates (items.Rows bounds) = false
has_aggregates (items.Totals aggs) = true

-- ---- totals

-- the aggregates of a plan; a plan of rows has none
abbrev pub aggregates : PlanItems → List BoundAgg
aggregates items.All = []
aggregates (items.Rows bounds) = []
aggregates (items.Totals aggs) = aggs

-- the totals of no row
abbrev pub no_totals : PlanItems → List Partial
no_totals selected = map start (aggregates selected)

-- the totals with a row, or its code; without aggregates there are none
abbrev pub totals_with : PlanItems → Option Bound → List Value → List Partial → Result (List Partial) Code
totals_with items.All filter cells ts = Ok ts
totals_with (items.Rows bounds) filter cells ts = Ok ts
totals_with (items.Totals aggs) filter cells ts = row_added filter aggs cells ts

-- behind a row that has a code nothing is asked for
abbrev pub unless_code : List Partial → Result (List Partial) Code → List Partial
unless_code ts (Ok us) = us
unless_code ts (Err code) = ts

-- the totals with these rows, one after the other
abbrev pub totals_with_all : PlanItems → Option Bound → List (List Value) → List Partial → List Partial
totals_with_all selected filter [] ts = ts
totals_with_all selected filter (cells ∷ rows) ts = totals_with_all selected filter rows (unless_code ts (totals_with selected filter cells ts))

-- the row of a record
abbrev pub row_in : RowOf → List (List Value)
row_in passed = []
row_in (row cells) = cells ∷ []
row_in (faulty code) = []

abbrev pub totals_behind_row : Plan → List Partial → RowOf → List Partial
totals_behind_row plan ts r = totals_with_all plan.items plan.filter (row_in r) ts

-- the totals with the row of a line that was read, if it is a record, and with those of many
unfoldable pub totals_behind : LineFormat → Plan → List Partial → Seen → List Partial
totals_behind format plan ts line = totals_behind_row plan ts (content_row format line.place line.bytes)

abbrev pub totals_of : LineFormat → Plan → List Partial → List Seen → List Partial
totals_of format plan ts [] = ts
totals_of format plan ts (line ∷ lines) = totals_of format plan (totals_behind format plan ts line) lines

-- the rows of these cuts, under a record limit; a line that is too long has none
abbrev pub cut_rows : LineFormat → ℕ → Cut → List (List Value)
cut_rows format longest cut = if is_too_long longest cut then [] else row_in (content_row format cut.start (content cut))

abbrev pub rows_of : LineFormat → ℕ → List Cut → List (List Value)
rows_of format longest cuts = flat_map (cut_rows format longest) cuts

-- ---- lines

-- what a row yields behind rows of these totals: with aggregates nothing or its code
abbrev pub yield_by : PlanItems → Columns → Plan → Output → ℕ → List Partial → List Value → Yield
yield_by items.All columns plan output longest ts cells = row_yield columns plan output longest cells
yield_by (items.Rows bounds) columns plan output longest ts cells = row_yield columns plan output longest cells
yield_by (items.Totals aggs) columns plan output longest ts cells = yield_of_added (row_added plan.filter aggs cells ts)

-- a record's own code goes before what its row yields
abbrev pub yield_of_row : Columns → Plan → Output → ℕ → List Partial → RowOf → Option Yield
yield_of_row columns plan output longest ts passed = None
yield_of_row columns plan output longest ts (row cells) = Some (yield_by plan.items columns plan output longest ts cells)
yield_of_row columns plan output longest ts (faulty code) = Some (fails code)

-- what the content of the line at a place yields
abbrev pub content_yield : LineFormat → Columns → Plan → Output → ℕ → List Partial → ℕ → List ℕ → Option Yield
content_yield format columns plan output longest ts place bytes =
    yield_of_row columns plan output longest ts (content_row format place bytes)

-- a line longer than the record limit is a faulty record, unless it is a header
abbrev pub long_code : LineFormat → ℕ → Option Code
long_code format start = if is_header format start then None else Some OverMaxRecordSize

-- the record of totals stands behind the last line
abbrev pub totals_record : PlanItems → List (List ℕ) → Output → ℕ → List Partial → Option Yield
totals_record items.All names output longest ts = None
totals_record (items.Rows bounds) names output longest ts = None
totals_record (items.Totals aggs) names output longest ts = Some (totals_yield names output longest ts)

-- what the lines yield to a plan over these columns, in this form and under this record limit, behind rows of these totals
abbrev pub lines_behind : LineFormat → Columns → Plan → Output → ℕ → List Partial → Lines
lines_behind format columns plan output longest ts = record {
  of_content = λ seen. content_yield format columns plan output longest (totals_of format plan ts seen);
  of_long = long_code format;
  of_end = λ seen. totals_record plan.items plan.names output longest (totals_of format plan ts seen);
}

-- before any row
abbrev pub lines_of : LineFormat → Columns → Plan → Output → ℕ → Lines
lines_of format columns plan output longest = lines_behind format columns plan output longest (no_totals plan.items)

-- each output is short enough for a reply
abbrev pub PlannedOutputsAreShort : Type 0
PlannedOutputsAreShort =
    (format : LineFormat) (columns : Columns) (plan : Plan) (output : Output) (longest : ℕ) → longest ≤ 16777216
    → IsShort (lines_of format columns plan output longest)

-- behind cuts stands the record of the totals with their rows
abbrev pub PlannedLinesEndWithTotals : Type 0
PlannedLinesEndWithTotals =
    (format : LineFormat) (columns : Columns) (plan : Plan) (output : Output) (longest : ℕ) (cuts : List Cut)
    → end_of (lines_of format columns plan output longest) longest cuts
    ≡ totals_record plan.items plan.names output longest (totals_with_all plan.items plan.filter (rows_of format longest cuts) (no_totals plan.items))

-- without aggregates a line yields what it would alone
abbrev pub PlannedLinesAreAlone : Type 0
PlannedLinesAreAlone =
    (format : LineFormat) (columns : Columns) (plan : Plan) (output : Output) (longest : ℕ) → has_aggregates plan.items ≡ false
    → IsWithoutTotals (lines_of format columns plan output longest)
