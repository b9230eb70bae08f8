-- What rows give to the totals of a query with aggregates, and the record of these totals.
use Rattle.std.specs.Prelude.{◌≡◌, ℕ, Bool, true, false, List, map, Option, None, Some, Result, Ok, Err}
use Rattle.select_request.specs.declared.request.Output.{Output}
use Rattle.sql_timestamp.specs.declared.fault.ValueFault.{ValueFault}
use Rattle.sql_bound.specs.declared.tree.Bound.{Bound}
use Rattle.sql_bound.specs.declared.tree.BoundAgg.{BoundAgg}
use Rattle.sql_value.specs.declared.value.Value.{Value}
use Rattle.sql_totals.specs.declared.fault.TotalFault.{TotalFault}
use Rattle.sql_totals.specs.declared.fault.TotalFault.TheVariants as refused
use Rattle.sql_totals.specs.Partials.{Partial, final}
use Rattle.sql_totals.specs.Stepped.{added}
use Rattle.select_reply.specs.declared.code.Code.{Code}
use Rattle.select_reply.specs.declared.code.Code.TheVariants.{OverMaxRecordSize}
use Rattle.select_reply.specs.Yields.{Yield, silent, fails}
use Rattle.record_yields.specs.Codes.{value_code}
use Rattle.record_yields.specs.Names.{name_at}
use Rattle.record_yields.specs.Projections.{projections}
use Rattle.record_yields.specs.Yields.{of_fields, passes}

-- the code of a row that an aggregate refuses
abbrev pub total_code : TotalFault → Code
total_code (refused.Value fault) = value_code fault
total_code refused.OverMaxRecordSize = OverMaxRecordSize

abbrev pub or_total_code : Result (List Partial) TotalFault → Result (List Partial) Code
or_total_code (Ok ts) = Ok ts
or_total_code (Err fault) = Err (total_code fault)

-- a row that the condition keeps is added; the condition's fault comes first
abbrev pub where_added : Result Bool ValueFault → List BoundAgg → List Value → List Partial → Result (List Partial) Code
where_added (Ok true) aggs cells ts = or_total_code (added cells aggs ts)
where_added (Ok false) aggs cells ts = Ok ts
where_added (Err fault) aggs cells ts = Err (value_code fault)

-- the totals of these aggregates with a row, or the row's code: the condition's, else that of the first aggregate, from the left, whose
-- argument is a fault or which refuses its value
unfoldable pub row_added : Option Bound → List BoundAgg → List Value → List Partial → Result (List Partial) Code
row_added filter aggs cells ts = where_added (passes filter cells) aggs cells ts

-- a row that is added has no output of its own
abbrev pub yield_of_added : Result (List Partial) Code → Yield
yield_of_added (Ok ts) = silent
yield_of_added (Err code) = fails code

-- the record of totals under their names: the first fault of a final value goes before the record's length
unfoldable pub totals_yield : List (List ℕ) → Output → ℕ → List Partial → Yield
totals_yield names output longest ts = of_fields output longest (projections (name_at names) 0 (map final ts))

-- ---- answers

-- no code, and the totals are those with the row; or the row's code
abbrev pub AddsRow : Result (List Partial) Code → Option Code → List Partial → Type 0
AddsRow outcome None new = outcome ≡ Ok new
AddsRow outcome (Some code) new = outcome ≡ Err code
