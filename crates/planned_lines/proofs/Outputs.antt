-- What a record yields is no longer than the record limit and a delimiter.
use Rattle.std.specs.Prelude.{◌≡◌, ℕ, ◌+◌, ◌≤◌, Bool, true, false, nat_le, List, ◌++◌, length, Option, None, Some, Result, Ok, Err, if◌then◌else◌, refl}
use Rattle.std.proofs.Common.{ap, ap₂, ◌∙◌, arith, length-append}
use Rattle.std.proofs.lemmas.Bool.{leb-true}
use Rattle.select_request.specs.declared.request.Output.{Output}
use Rattle.select_request.specs.declared.request.Delimiter.{Delimiter}
use Rattle.select_request.specs.declared.request.Delimiter.TheVariants.{One, Two}
use Rattle.sql_timestamp.specs.declared.fault.ValueFault.{ValueFault}
use Rattle.sql_value.specs.declared.value.Value.{Value}
use Rattle.sql_value.specs.declared.value.Value.TheVariants as value
use Rattle.scan_plan.specs.declared.columns.Columns.{Columns}
use Rattle.scan_plan.specs.declared.columns.Columns.TheVariants as columns
use Rattle.scan_plan.specs.declared.plans.Plan.{Plan}
use Rattle.scan_plan.specs.declared.plans.PlanItems.{PlanItems}
use Rattle.scan_plan.specs.declared.plans.PlanItems.TheVariants as items
use Rattle.select_reply.specs.declared.code.Code.TheVariants.{OverMaxRecordSize}
use Rattle.select_reply.specs.Yields.{Yield, writes, fails, bytes_of}
use Rattle.sql_eval.specs.Rows.{cell_at}
use Rattle.record_output.specs.Records.{Field, delimiter_of, delimiter_bytes}
use Rattle.record_output.specs.Writing.{Writing, HasSettings}
use Rattle.record_rows.specs.Rows.{RowOf, passed, row, faulty}
use Rattle.record_rows.specs.Formats.{content_row}
use Rattle.record_rows.specs.declared.format.LineFormat.{LineFormat}
use Rattle.record_yields.specs.Totals.{row_added, yield_of_added, totals_yield}
use Rattle.sql_totals.specs.Partials.{Partial}
use Rattle.record_yields.specs.Yields.{limited, of_fields, of_json, of_all, of_selection, passes, where_kept, row_yield}
use Rattle.record_stream.specs.Lines.{behind, output_of, IsShort, IsWithoutTotals}
use Rattle.select_reply.specs.declared.code.Code.{Code}
use Rattle.select_reply.specs.declared.outcome.Outcome.{Outcome}
use Rattle.select_ports.specs.declared.outcome.Failed.{Failed}
use Rattle.planned_lines.specs.Turning.{GoesOn}
use Rattle.planned_lines.specs.LineYields.{has_aggregates, no_totals, totals_behind_row, totals_behind, totals_of, yield_by, yield_of_row, totals_record, lines_behind, lines_of}

module _ (output : Output) (longest : ℕ) where
  -- an output of at most so many bytes
  abbrev IsBrief : Yield → Type 0
  IsBrief y = length (bytes_of y) ≤ longest + 2

  delimiter_short : (d : Delimiter) → length (delimiter_bytes d) ≤ 2
  delimiter_short (One a) = omega arith
  delimiter_short (Two a b) = omega arith

  limited_brief : (text : List ℕ) → IsBrief (limited output longest text)
  limited_brief text =
      let end = delimiter_bytes (delimiter_of output) in
      let P : Bool → Type 0 = λ b. nat_le (length text) longest ≡ b → length (bytes_of (if b then writes (text ++ end) else fails OverMaxRecordSize)) ≤ longest + 2 in
      (elim (nat_le (length text) longest) as P [
        | true ↦ λ fits. omega (arith, leb-true (length text) longest fits, length-append text end, delimiter_short (delimiter_of output))
        | false ↦ λ over. omega arith
      ]) refl

  fields_brief : (r : Result (List Field) ValueFault) → IsBrief (of_fields output longest r)
  fields_brief (Ok fields) = limited_brief _
  fields_brief (Err fault) = omega arith

  json_brief : (v : Value) → IsBrief (of_json output longest v)
  json_brief (value.Node bytes) = limited_brief _
  json_brief value.Missing = fields_brief _
  json_brief value.Null = fields_brief _
  json_brief (value.Bool b) = fields_brief _
  json_brief (value.Int n) = fields_brief _
  json_brief (value.Dec d) = fields_brief _
  json_brief (value.Text t) = fields_brief _
  json_brief (value.Stamp s) = fields_brief _
  json_brief (value.Bad fault) = fields_brief _

  all_brief : (columns : Columns) (cells : List Value) → IsBrief (of_all columns output longest cells)
  all_brief columns.Json cells = json_brief (cell_at cells 0)
  all_brief columns.Document cells = json_brief (cell_at cells 0)
  all_brief columns.Positions cells = fields_brief _
  all_brief (columns.Names names) cells = fields_brief _
  all_brief columns.Absent cells = fields_brief _
  all_brief (columns.Parquet file) cells = fields_brief _

  selection_brief : (columns : Columns) (selected : PlanItems) (names : List (List ℕ)) (cells : List Value) → IsBrief (of_selection columns selected names output longest cells)
  selection_brief columns items.All names cells = all_brief columns cells
  selection_brief columns (items.Rows bounds) names cells = fields_brief _
  selection_brief columns (items.Totals aggs) names cells = omega arith

  kept_brief : (kept : Result Bool ValueFault) (y : Yield) → IsBrief y → IsBrief (where_kept kept y)
  kept_brief (Ok true) y brief = brief
  kept_brief (Ok false) y brief = omega arith
  kept_brief (Err fault) y brief = omega arith

  row_brief : (columns : Columns) (plan : Plan) (cells : List Value) → IsBrief (row_yield columns plan output longest cells)
  unfolding row_yield
  row_brief columns plan cells = kept_brief (passes plan.filter cells) _ (selection_brief columns plan.items plan.names cells)

  added_brief : (r : Result (List Partial) Code) → IsBrief (yield_of_added r)
  added_brief (Ok ts) = omega arith
  added_brief (Err code) = omega arith

  by_brief : (columns : Columns) (plan : Plan) (selected : PlanItems) (ts : List Partial) (cells : List Value)
      → IsBrief (yield_by selected columns plan output longest ts cells)
  by_brief columns plan items.All ts cells = row_brief columns plan cells
  by_brief columns plan (items.Rows bounds) ts cells = row_brief columns plan cells
  by_brief columns plan (items.Totals aggs) ts cells = added_brief (row_added plan.filter aggs cells ts)

  read_brief : (columns : Columns) (plan : Plan) (ts : List Partial) (r : RowOf) → length (output_of (yield_of_row columns plan output longest ts r)) ≤ longest + 2
  read_brief columns plan ts passed = omega arith
  read_brief columns plan ts (row cells) = by_brief columns plan plan.items ts cells
  read_brief columns plan ts (faulty code) = omega arith

  totals_brief : (names : List (List ℕ)) (ts : List Partial) → IsBrief (totals_yield names output longest ts)
  unfolding totals_yield
  totals_brief names ts = fields_brief _

  end_brief : (selected : PlanItems) (names : List (List ℕ)) (ts : List Partial) → length (output_of (totals_record selected names output longest ts)) ≤ longest + 2
  end_brief items.All names ts = omega arith
  end_brief (items.Rows bounds) names ts = omega arith
  end_brief (items.Totals aggs) names ts = totals_brief names ts

pub lines_short : (format : LineFormat) (columns : Columns) (plan : Plan) (output : Output) (longest : ℕ) → longest ≤ 16777216
    → IsShort (lines_of format columns plan output longest)
lines_short format columns plan output longest limit = record {
  content = λ seen place bytes short.
      omega (arith, limit, read_brief output longest columns plan (totals_of format plan (no_totals plan.items) seen) (content_row format place bytes));
  end = λ seen. omega (arith, limit, end_brief output longest plan.items plan.names (totals_of format plan (no_totals plan.items) seen));
}

-- ---- a plan without aggregates

by_alone : (selected : PlanItems) → has_aggregates selected ≡ false → (columns : Columns) (plan : Plan) (output : Output) (longest : ℕ) (ts us : List Partial)
    (cells : List Value) → yield_by selected columns plan output longest ts cells ≡ yield_by selected columns plan output longest us cells
by_alone items.All without columns plan output longest ts us cells = refl
by_alone (items.Rows bounds) without columns plan output longest ts us cells = refl
by_alone (items.Totals aggs) without columns plan output longest ts us cells = absurd (cc)

row_alone : (columns : Columns) (plan : Plan) → has_aggregates plan.items ≡ false → (output : Output) (longest : ℕ) (ts us : List Partial) (r : RowOf)
    → yield_of_row columns plan output longest ts r ≡ yield_of_row columns plan output longest us r
row_alone columns plan without output longest ts us passed = refl
row_alone columns plan without output longest ts us (row cells) = ap Some (by_alone plan.items without columns plan output longest ts us cells)
row_alone columns plan without output longest ts us (faulty code) = refl

end_alone : (selected : PlanItems) → has_aggregates selected ≡ false → (names : List (List ℕ)) (output : Output) (longest : ℕ) (ts : List Partial)
    → totals_record selected names output longest ts ≡ None
end_alone items.All without names output longest ts = refl
end_alone (items.Rows bounds) without names output longest ts = refl
end_alone (items.Totals aggs) without names output longest ts = absurd (cc)

pub lines_alone : (format : LineFormat) (columns : Columns) (plan : Plan) (output : Output) (longest : ℕ) → has_aggregates plan.items ≡ false
    → IsWithoutTotals (lines_of format columns plan output longest)
lines_alone format columns plan output longest without = record {
  alone = λ seen place bytes.
      row_alone columns plan without output longest (totals_of format plan (no_totals plan.items) seen) (no_totals plan.items) (content_row format place bytes);
  ends = λ seen. end_alone plan.items without plan.names output longest (totals_of format plan (no_totals plan.items) seen);
}

-- ---- a writer keeps its settings

module _ (format : LineFormat) (columns : Columns) (plan : Plan) (old new : Writing) (same : HasSettings old new) where
  -- the lines behind a line are those of the totals behind it
  pub lines_go_on : (ts us : List Partial) (place : ℕ) (bytes : List ℕ) → us ≡ totals_behind_row plan ts (content_row format place bytes)
      → lines_behind format columns plan new.output new.longest us ≡ behind (lines_behind format columns plan old.output old.longest ts) place bytes
  unfolding totals_behind
  lines_go_on ts us place bytes is =
      ap₂ (λ output longest. lines_behind format columns plan output longest us) same.output same.longest
      ∙ ap (lines_behind format columns plan old.output old.longest) is

pub goes_on_so : {A B : Type 0} (result : Result (Option Outcome) Failed) → (A → B) → GoesOn result A → GoesOn result B
goes_on_so (Ok outcome) follows fact = λ none. follows (fact none)
goes_on_so (Err failed) follows fact = tt
