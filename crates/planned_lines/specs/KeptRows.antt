-- The totals of a query are those of the rows that its condition keeps.
use Rattle.std.specs.Prelude.{◌≡◌, ℕ, Bool, false, filter, List, Option, Result, Ok, Err}
use Rattle.line_window.specs.Cuts.{Cut}
use Rattle.select_request.specs.declared.request.Output.{Output}
use Rattle.sql_timestamp.specs.declared.fault.ValueFault.{ValueFault}
use Rattle.sql_bound.specs.declared.tree.Bound.{Bound}
use Rattle.sql_value.specs.declared.value.Value.{Value}
use Rattle.sql_totals.specs.Overall.{added_all}
use Rattle.scan_plan.specs.declared.columns.Columns.{Columns}
use Rattle.scan_plan.specs.declared.plans.Plan.{Plan}
use Rattle.select_reply.specs.Yields.{has_fault}
use Rattle.record_rows.specs.declared.format.LineFormat.{LineFormat}
use Rattle.record_yields.specs.Yields.{passes}
use Rattle.record_stream.specs.Lines.{yields_of}
use Rattle.planned_lines.specs.LineYields.{aggregates, no_totals, totals_with_all, rows_of, lines_of}

abbrev pub is_kept : Result Bool ValueFault → Bool
is_kept (Ok kept) = kept
is_kept (Err fault) = false

-- the rows that the condition keeps
abbrev pub kept_rows : Option Bound → List (List Value) → List (List Value)
kept_rows condition rows = filter (λ cells. is_kept (passes condition cells)) rows

-- where no record has a code, the totals behind cuts are those of the rows of the cuts that the condition keeps, added one after the other
abbrev pub TotalsAreOfKeptRows : Type 0
TotalsAreOfKeptRows =
    (format : LineFormat) (columns : Columns) (plan : Plan) (output : Output) (longest : ℕ) (cuts : List Cut)
    → has_fault (yields_of (lines_of format columns plan output longest) longest cuts) ≡ false
    → added_all (aggregates plan.items) (kept_rows plan.filter (rows_of format longest cuts)) (no_totals plan.items)
    ≡ Ok (totals_with_all plan.items plan.filter (rows_of format longest cuts) (no_totals plan.items))
