-- What a row yields under a plan: nothing, the bytes of a record, or one code.
use Rattle.std.specs.Prelude.{ℕ, Bool, true, false, nat_le, List, [], ◌∷◌, ◌++◌, length, map, Option, None, Some, Result, Ok, Err, if◌then◌else◌}
use Rattle.select_request.specs.declared.request.Output.{Output}
use Rattle.sql_timestamp.specs.declared.fault.ValueFault.{ValueFault}
use Rattle.sql_bound.specs.declared.tree.Bound.{Bound}
use Rattle.sql_value.specs.declared.value.Value.{Value}
use Rattle.sql_value.specs.declared.value.Value.TheVariants.{Node}
use Rattle.sql_eval.specs.Evaluated.{condition}
use Rattle.sql_eval.specs.Logic.{kept}
use Rattle.sql_eval.specs.Meaning.{meaning}
use Rattle.sql_eval.specs.Rows.{cell_at}
use Rattle.scan_plan.specs.declared.columns.Columns.{Columns}
use Rattle.scan_plan.specs.declared.columns.Columns.TheVariants as columns
use Rattle.scan_plan.specs.declared.plans.Plan.{Plan}
use Rattle.scan_plan.specs.declared.plans.PlanItems.{PlanItems}
use Rattle.scan_plan.specs.declared.plans.PlanItems.TheVariants as items
use Rattle.select_reply.specs.declared.code.Code.TheVariants.{OverMaxRecordSize}
use Rattle.select_reply.specs.Yields.{Yield, silent, writes, fails}
use Rattle.record_output.specs.Records.{Field, record_text, delimiter_of, delimiter_bytes}
use Rattle.record_yields.specs.Codes.{value_code}
use Rattle.record_yields.specs.Names.{name_at, column_names}
use Rattle.record_yields.specs.Projections.{projections}
use Rattle.record_yields.specs.Whole.{whole_of}

-- a record's text is output with its delimiter; the limit is on the text alone
abbrev pub limited : Output → ℕ → List ℕ → Yield
limited output longest text = if nat_le (length text) longest then writes (text ++ delimiter_bytes (delimiter_of output)) else fails OverMaxRecordSize

-- the record of what is selected: the first fault goes before the record's length
abbrev pub of_fields : Output → ℕ → Result (List Field) ValueFault → Yield
of_fields output longest (Ok fields) = limited output longest (record_text output fields)
of_fields output longest (Err fault) = fails (value_code fault)

-- cells, each under its name
abbrev pub of_cells : List (List ℕ) → Output → ℕ → List Value → Yield
of_cells names output longest cells = of_fields output longest (projections (name_at names) 0 (map Ok cells))

-- `*` on a JSON record
abbrev pub of_json : Output → ℕ → Value → Yield
of_json output longest (Node bytes) = limited output longest (whole_of output bytes)
of_json output longest v = of_cells [] output longest (v ∷ [])

-- `*`: of a JSON record the value as it is, and of every other each cell that the row has
abbrev pub of_all : Columns → Output → ℕ → List Value → Yield
of_all columns.Json output longest cells = of_json output longest (cell_at cells 0)
of_all columns.Document output longest cells = of_json output longest (cell_at cells 0)
of_all columns output longest cells = of_cells (column_names columns) output longest cells

-- expressions, each under its name
abbrev pub of_items : List (List ℕ) → List Bound → Output → ℕ → List Value → Yield
of_items names bounds output longest cells = of_fields output longest (projections (name_at names) 0 (map (meaning cells) bounds))

-- what is selected of a row that the condition keeps. Aggregates take the row's values and give no record of their own
abbrev pub of_selection : Columns → PlanItems → List (List ℕ) → Output → ℕ → List Value → Yield
of_selection columns items.All names output longest cells = of_all columns output longest cells
of_selection columns (items.Rows bounds) names output longest cells = of_items names bounds output longest cells
of_selection columns (items.Totals aggs) names output longest cells = silent

-- whether the condition keeps a row: it is true; without one each row is kept
abbrev pub passes : Option Bound → List Value → Result Bool ValueFault
passes None cells = Ok true
passes (Some filter) cells = kept (condition (meaning cells filter))

-- the condition's fault comes first
abbrev pub where_kept : Result Bool ValueFault → Yield → Yield
where_kept (Ok true) selected = selected
where_kept (Ok false) selected = silent
where_kept (Err fault) selected = fails (value_code fault)

-- what a row yields to a plan over these columns, in this form and under this record limit
unfoldable pub row_yield : Columns → Plan → Output → ℕ → List Value → Yield
row_yield columns plan output longest cells =
    where_kept (passes plan.filter cells) (of_selection columns plan.items plan.names output longest cells)
