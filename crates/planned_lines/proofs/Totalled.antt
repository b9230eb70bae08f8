-- The totals behind the lines of an object.
use Rattle.std.proofs.Common.{◌≡◌, ℕ, Bool, true, false, List, [], ◌∷◌, ◌++◌, Option, refl, sym, ap, ◌∙◌, if◌then◌else◌}
use Rattle.line_window.specs.Cuts.{Cut, content}
use Rattle.select_request.specs.declared.request.Output.{Output}
use Rattle.sql_bound.specs.declared.tree.Bound.{Bound}
use Rattle.sql_value.specs.declared.value.Value.{Value}
use Rattle.sql_totals.specs.Partials.{Partial}
use Rattle.scan_plan.specs.declared.columns.Columns.{Columns}
use Rattle.scan_plan.specs.declared.plans.Plan.{Plan}
use Rattle.scan_plan.specs.declared.plans.PlanItems.{PlanItems}
use Rattle.record_rows.specs.Formats.{content_row}
use Rattle.record_rows.specs.declared.format.LineFormat.{LineFormat}
use Rattle.record_stream.specs.Lines.{Lines, behind, is_too_long, behind_cut, behind_all, end_of}
use Rattle.planned_lines.specs.LineYields.{no_totals, totals_with, unless_code, totals_with_all, row_in, totals_behind, cut_rows, rows_of, totals_record, lines_behind, PlannedLinesEndWithTotals}

pub totals_with-append : (selected : PlanItems) (filter : Option Bound) (xs ys : List (List Value)) (ts : List Partial)
    → totals_with_all selected filter (xs ++ ys) ts ≡ totals_with_all selected filter ys (totals_with_all selected filter xs ts)
totals_with-append selected filter [] ys ts = refl
totals_with-append selected filter (cells ∷ xs) ys ts = totals_with-append selected filter xs ys (unless_code ts (totals_with selected filter cells ts))

module _ (format : LineFormat) (columns : Columns) (plan : Plan) (output : Output) (longest : ℕ) where
  -- behind a cut stand the lines behind the totals with its row
  pub cut_lines : (ts : List Partial) (cut : Cut) → behind_cut (lines_behind format columns plan output longest ts) longest cut
      ≡ lines_behind format columns plan output longest (totals_with_all plan.items plan.filter (cut_rows format longest cut) ts)
  unfolding behind_cut totals_behind
  cut_lines ts cut =
      let here = lines_behind format columns plan output longest in
      let P : Bool → Type 0 = λ b. (if b then here ts else behind (here ts) cut.start (content cut))
      ≡ here (totals_with_all plan.items plan.filter (if b then [] else row_in (content_row format cut.start (content cut))) ts) in
      elim (is_too_long longest cut) as P [ true ↦ refl | false ↦ refl ]

  ends_with : (ts : List Partial) (cuts : List Cut) → end_of (lines_behind format columns plan output longest ts) longest cuts
      ≡ totals_record plan.items plan.names output longest (totals_with_all plan.items plan.filter (rows_of format longest cuts) ts)
  ends_with ts [] = refl
  ends_with ts (cut ∷ cuts) =
      let rows = cut_rows format longest cut in
      ap (λ (l : Lines). (behind_all l longest cuts).of_end []) (cut_lines ts cut)
      ∙ ends_with (totals_with_all plan.items plan.filter rows ts) cuts
      ∙ ap (totals_record plan.items plan.names output longest) (sym (totals_with-append plan.items plan.filter rows (rows_of format longest cuts) ts))

pub lines_end : PlannedLinesEndWithTotals
lines_end format columns plan output longest cuts = ends_with format columns plan output longest (no_totals plan.items) cuts
