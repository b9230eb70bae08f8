-- The totals behind lines are those of the rows that the condition keeps.
use Rattle.std.proofs.Common.{◌≡◌, ℕ, Bool, true, false, ◌||◌, List, [], ◌∷◌, ◌++◌, Option, Result, Ok, Err, refl, sym, ap, ◌∙◌, if◌then◌else◌}
use Rattle.std.proofs.lemmas.List.Folds.{list_any-append}
use Rattle.line_window.specs.Cuts.{Cut, content}
use Rattle.select_request.specs.declared.request.Output.{Output}
use Rattle.sql_timestamp.specs.declared.fault.ValueFault.{ValueFault}
use Rattle.sql_bound.specs.declared.tree.Bound.{Bound}
use Rattle.sql_bound.specs.declared.tree.BoundAgg.{BoundAgg}
use Rattle.sql_value.specs.declared.value.Value.{Value}
use Rattle.sql_totals.specs.declared.fault.TotalFault.{TotalFault}
use Rattle.sql_totals.specs.Overall.{and_on, added_all}
use Rattle.sql_totals.specs.Partials.{Partial}
use Rattle.sql_totals.specs.Stepped.{added}
use Rattle.scan_plan.specs.declared.columns.Columns.{Columns}
use Rattle.scan_plan.specs.declared.plans.Plan.{Plan}
use Rattle.scan_plan.specs.declared.plans.PlanItems.{PlanItems}
use Rattle.scan_plan.specs.declared.plans.PlanItems.TheVariants as items
use Rattle.select_reply.specs.Yields.{Yielded, is_fault, has_fault}
use Rattle.record_rows.specs.Rows.{RowOf, passed, row, faulty}
use Rattle.record_rows.specs.Formats.{content_row}
use Rattle.record_rows.specs.declared.format.LineFormat.{LineFormat}
use Rattle.record_yields.specs.Totals.{or_total_code, where_added, row_added, yield_of_added}
use Rattle.record_yields.specs.Yields.{passes}
use Rattle.record_stream.specs.Lines.{Lines, is_too_long, failing, listed, gives, behind_cut, yields_of}
use Rattle.planned_lines.specs.LineYields.{aggregates, no_totals, totals_with, unless_code, totals_with_all, row_in, cut_rows, rows_of, yield_by, yield_of_row, long_code, lines_behind}
use Rattle.planned_lines.specs.KeptRows.{is_kept, kept_rows, TotalsAreOfKeptRows}
use Rattle.planned_lines.proofs.Totalled.{cut_lines}

first_fine : (a b : Bool) → (a || b) ≡ false → a ≡ false
first_fine false b fine = refl
first_fine true b fine = absurd (cc)

second_fine : (a b : Bool) → (a || b) ≡ false → b ≡ false
second_fine false b fine = fine
second_fine true b fine = absurd (cc)

-- the totals with these rows are those of the kept ones
abbrev IsOfKept : PlanItems → Option Bound → List (List Value) → List Partial → Type 0
IsOfKept selected condition rows ts = added_all (aggregates selected) (kept_rows condition rows) ts ≡ Ok (totals_with_all selected condition rows ts)

-- without aggregates nothing is added
none_added : (rows : List (List Value)) (ts : List Partial) → added_all [] rows ts ≡ Ok ts
none_added [] ts = refl
none_added (cells ∷ rows) ts = none_added rows ts

all_same : (condition : Option Bound) (rows : List (List Value)) (ts : List Partial) → totals_with_all items.All condition rows ts ≡ ts
all_same condition [] ts = refl
all_same condition (cells ∷ rows) ts = all_same condition rows ts

rows_same : (bounds : List Bound) (condition : Option Bound) (rows : List (List Value)) (ts : List Partial) → totals_with_all (items.Rows bounds) condition rows ts ≡ ts
rows_same bounds condition [] ts = refl
rows_same bounds condition (cells ∷ rows) ts = rows_same bounds condition rows ts

-- a row that is added
added_by : (aggs : List BoundAgg) (cells : List Value) (kept : List (List Value)) (ts all : List Partial) (r : Result (List Partial) TotalFault)
    → is_fault (yield_of_added (or_total_code r)) ≡ false → added_all aggs kept (unless_code ts (or_total_code r)) ≡ Ok all
    → and_on r (added_all aggs kept) ≡ Ok all
added_by aggs cells kept ts all (Ok us) fine rest = rest
added_by aggs cells kept ts all (Err fault) fine rest = absurd (cc)

step_by : (aggs : List BoundAgg) (cells : List Value) (kept : List (List Value)) (ts all : List Partial) (q : Result Bool ValueFault)
    → is_fault (yield_of_added (where_added q aggs cells ts)) ≡ false → added_all aggs kept (unless_code ts (where_added q aggs cells ts)) ≡ Ok all
    → added_all aggs (if is_kept q then cells ∷ kept else kept) ts ≡ Ok all
step_by aggs cells kept ts all (Ok true) fine rest = added_by aggs cells kept ts all (added cells aggs ts) fine rest
step_by aggs cells kept ts all (Ok false) fine rest = rest
step_by aggs cells kept ts all (Err fault) fine rest = absurd (cc)

module _ (columns : Columns) (plan : Plan) (output : Output) (longest : ℕ) where
  row_step : (selected : PlanItems) (cells : List Value) (rows : List (List Value)) (ts : List Partial)
      → is_fault (yield_by selected columns plan output longest ts cells) ≡ false
      → IsOfKept selected plan.filter rows (unless_code ts (totals_with selected plan.filter cells ts)) → IsOfKept selected plan.filter (cells ∷ rows) ts
  unfolding row_added
  row_step items.All cells rows ts fine rest = none_added (kept_rows plan.filter (cells ∷ rows)) ts ∙ ap Ok (sym (all_same plan.filter (cells ∷ rows) ts))
  row_step (items.Rows bounds) cells rows ts fine rest =
      none_added (kept_rows plan.filter (cells ∷ rows)) ts ∙ ap Ok (sym (rows_same bounds plan.filter (cells ∷ rows) ts))
  row_step (items.Totals aggs) cells rows ts fine rest =
      step_by aggs cells (kept_rows plan.filter rows) ts
      (totals_with_all (items.Totals aggs) plan.filter rows (unless_code ts (where_added (passes plan.filter cells) aggs cells ts))) (passes plan.filter cells) fine rest

  record_step : (start len : ℕ) (r : RowOf) (rows : List (List Value)) (ts : List Partial)
      → has_fault (listed start len (yield_of_row columns plan output longest ts r)) ≡ false
      → IsOfKept plan.items plan.filter rows (totals_with_all plan.items plan.filter (row_in r) ts) → IsOfKept plan.items plan.filter (row_in r ++ rows) ts
  record_step start len passed rows ts fine rest = rest
  record_step start len (row cells) rows ts fine rest =
      row_step plan.items cells rows ts (first_fine (is_fault (yield_by plan.items columns plan output longest ts cells)) false fine) rest
  record_step start len (faulty code) rows ts fine rest = absurd (cc)

  module _ (format : LineFormat) where
    cut_step : (cut : Cut) (rows : List (List Value)) (ts : List Partial)
        → has_fault (gives (lines_behind format columns plan output longest ts) longest cut) ≡ false
        → IsOfKept plan.items plan.filter rows (totals_with_all plan.items plan.filter (cut_rows format longest cut) ts)
        → IsOfKept plan.items plan.filter (cut_rows format longest cut ++ rows) ts
    unfolding gives
    cut_step cut rows ts =
        let r = content_row format cut.start (content cut) in
        let P : Bool → Type 0 = λ b.
        has_fault (listed cut.start cut.whole (if b then failing (long_code format cut.start) else yield_of_row columns plan output longest ts r)) ≡ false
        → IsOfKept plan.items plan.filter rows (totals_with_all plan.items plan.filter (if b then [] else row_in r) ts)
        → IsOfKept plan.items plan.filter ((if b then [] else row_in r) ++ rows) ts in
        elim (is_too_long longest cut) as P [ true ↦ λ fine rest. rest | false ↦ record_step cut.start cut.whole r rows ts ]

    kept_from : (ts : List Partial) (cuts : List Cut) → has_fault (yields_of (lines_behind format columns plan output longest ts) longest cuts) ≡ false
        → IsOfKept plan.items plan.filter (rows_of format longest cuts) ts
    kept_from ts [] fine = refl
    kept_from ts (cut ∷ cuts) fine =
        let lines = lines_behind format columns plan output longest in
        let here = gives (lines ts) longest cut in
        let us = totals_with_all plan.items plan.filter (cut_rows format longest cut) ts in
        let later = yields_of (behind_cut (lines ts) longest cut) longest cuts in
        let two : (has_fault here || has_fault later) ≡ false = sym (list_any-append (λ (y : Yielded). is_fault y.gives) here later) ∙ fine in
        let behind_fine : has_fault (yields_of (lines us) longest cuts) ≡ false =
        ap (λ (l : Lines). has_fault (yields_of l longest cuts)) (sym (cut_lines format columns plan output longest ts cut)) ∙ second_fine (has_fault here) (has_fault later) two in
        cut_step cut (rows_of format longest cuts) ts (first_fine (has_fault here) (has_fault later) two) (kept_from us cuts behind_fine)

pub totals_of_kept : TotalsAreOfKeptRows
totals_of_kept format columns plan output longest cuts fine = kept_from columns plan output longest format (no_totals plan.items) cuts fine
