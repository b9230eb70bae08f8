-- The plan of a lawful query is lawful.
use Rattle.std.proofs.Common.{◌≡◌, ℕ, Bool, true, false, ◌&&◌, List, [], ◌∷◌, map, Option, Some, None, Result, Ok, Err, refl, sym, ap, ◌∙◌, subst}
use Rattle.std.specs.List.{list_all}
use Rattle.sql_grammar.specs.Faults.{source_name}
use Rattle.sql_grammar.specs.declared.tree.Name.{Name}
use Rattle.sql_grammar.specs.declared.tree.PathStep.{PathStep}
use Rattle.sql_grammar.specs.declared.tree.Expr.{Expr}
use Rattle.sql_grammar.specs.declared.tree.Agg.{Agg}
use Rattle.sql_grammar.specs.declared.tree.Agg.TheVariants as agg
use Rattle.sql_grammar.specs.declared.tree.Item.{Item}
use Rattle.sql_grammar.specs.declared.tree.Total.{Total}
use Rattle.sql_grammar.specs.declared.tree.Selection.{Selection}
use Rattle.sql_grammar.specs.declared.tree.Selection.TheVariants as selection
use Rattle.sql_grammar.specs.declared.tree.Query.{Query}
use Rattle.sql_bound.specs.declared.tree.Bound.TheVariants as bound
use Rattle.sql_bound.specs.declared.tree.Bound.TheOpen.{Bound-F}
use Rattle.sql_bound.specs.declared.tree.Bound.TheFolds.{fold-roll-Bound}
use Rattle.sql_lawful.specs.Lawful as old
use Rattle.sql_lawful.specs.Lawful.{IsLawful}
use Rattle.sql_bound.specs.Lawful as new
use Rattle.scan_plan.specs.declared.columns.Columns.{Columns}
use Rattle.scan_plan.specs.declared.paths.Found.{Found}
use Rattle.scan_plan.specs.declared.paths.Found.TheVariants as find
use Rattle.scan_plan.specs.declared.plans.BindFault.{BindFault}
use Rattle.scan_plan.specs.declared.plans.Plan.{Plan}
use Rattle.scan_plan.specs.Paths.{rest_of, found}
use Rattle.scan_plan.specs.Bounds.{cell_index, bound_found, bound_path, bound_expr}
use Rattle.scan_plan.specs.Finds.{bind_fault, query_finds, used_columns}
use Rattle.scan_plan.specs.Plans.{bound_agg, bound_item, bound_total, bound_selection, bound_filter, plan_with, planned_unless, planned, are_lawful_items, is_lawful_filter, IsLawfulPlan}
use Rattle.scan_plan.proofs.LawfulBounds.{lawful_kept, left, right, both}

missing_lawful : new.is_lawful_bound bound.Missing ≡ true
missing_lawful =
    ap new.is_lawful_bound (sym bound.rolls-Missing) ∙ fold-roll-Bound Bool Bool Bool Bool new.lawful_step new.lawful_arm_step new.lawful_prod_part_step new.lawful_sum_part_step Bound-F.Missing

cell_lawful : (index : ℕ) (steps : List PathStep) → new.is_lawful_bound (bound.Cell index steps) ≡ true
cell_lawful index steps =
    ap new.is_lawful_bound (sym (bound.rolls-Cell index steps)) ∙ fold-roll-Bound Bool Bool Bool Bool new.lawful_step new.lawful_arm_step new.lawful_prod_part_step new.lawful_sum_part_step (Bound-F.Cell index steps)

found_lawful : (columns : Columns) (used : List ℕ) (rest : List PathStep) (r : Result Found BindFault) → new.is_lawful_bound (bound_found columns used rest r) ≡ true
found_lawful columns used rest (Ok (find.Column place)) = cell_lawful (cell_index columns used place) []
found_lawful columns used rest (Ok find.Record) = cell_lawful 0 rest
found_lawful columns used rest (Ok find.Missing) = missing_lawful
found_lawful columns used rest (Err f) = missing_lawful

path_lawful : (columns : Columns) (source : Name) (used : List ℕ) (path : List PathStep) → new.is_lawful_bound (bound_path columns source used path) ≡ true
unfolding bound_path
path_lawful columns source used path = found_lawful columns used (rest_of source path) (found columns source path)

module _ (columns : Columns) (alias : Option Name) (used : List ℕ) where
  expr_lawful : (e : Expr) → old.is_lawful_expression e ≡ true → new.is_lawful_bound (bound_expr columns alias used e) ≡ true
  expr_lawful e h = lawful_kept (bound_path columns (source_name alias) used) (path_lawful columns (source_name alias) used) e h

  agg_lawful : (a : Agg) → old.is_lawful_agg a ≡ true → new.is_lawful_agg (bound_agg columns alias used a) ≡ true
  agg_lawful agg.CountAll h = refl
  agg_lawful (agg.Count e) h = expr_lawful e h
  agg_lawful (agg.Sum e) h = expr_lawful e h
  agg_lawful (agg.Min e) h = expr_lawful e h
  agg_lawful (agg.Max e) h = expr_lawful e h
  agg_lawful (agg.Avg e) h = expr_lawful e h

  items_lawful : (items : List Item) → list_all old.is_lawful_item items ≡ true → list_all new.is_lawful_bound (map (bound_item columns alias used) items) ≡ true
  items_lawful [] h = refl
  items_lawful (i ∷ items) h =
      both (new.is_lawful_bound (bound_item columns alias used i)) (list_all new.is_lawful_bound (map (bound_item columns alias used) items))
      (expr_lawful i.expr (left (old.is_lawful_item i) (list_all old.is_lawful_item items) h)) (items_lawful items (right (old.is_lawful_item i) (list_all old.is_lawful_item items) h))

  totals_lawful : (totals : List Total) → list_all old.is_lawful_total totals ≡ true → list_all new.is_lawful_agg (map (bound_total columns alias used) totals) ≡ true
  totals_lawful [] h = refl
  totals_lawful (t ∷ totals) h =
      both (new.is_lawful_agg (bound_total columns alias used t)) (list_all new.is_lawful_agg (map (bound_total columns alias used) totals))
      (agg_lawful t.agg (left (old.is_lawful_total t) (list_all old.is_lawful_total totals) h)) (totals_lawful totals (right (old.is_lawful_total t) (list_all old.is_lawful_total totals) h))

  selection_lawful : (s : Selection) → old.is_lawful_selection s ≡ true → are_lawful_items (bound_selection columns alias used s) ≡ true
  selection_lawful selection.All h = refl
  selection_lawful (selection.Rows items) h = items_lawful items h
  selection_lawful (selection.Totals totals) h = totals_lawful totals h

  filter_lawful : (o : Option Expr) → old.is_lawful_filter o ≡ true → is_lawful_filter (bound_filter columns alias used o) ≡ true
  filter_lawful None h = refl
  filter_lawful (Some e) h = expr_lawful e h

with_lawful : (columns : Columns) (q : Query) (used : List ℕ) → IsLawful q → IsLawfulPlan (plan_with columns q used)
with_lawful columns q used h = record {
  items = selection_lawful columns q.alias used q.items h.items;
  filter = filter_lawful columns q.alias used q.filter h.filter;
}

the_plan : (p plan : Plan) → planned_unless None p ≡ Ok plan → p ≡ plan
the_plan p plan e = cc

unless_lawful : (f : Option BindFault) (p plan : Plan) → IsLawfulPlan p → planned_unless f p ≡ Ok plan → IsLawfulPlan plan
unless_lawful None p plan h is = subst IsLawfulPlan (the_plan p plan is) h
unless_lawful (Some f) p plan h is = cc

pub planned_is_lawful : (columns : Columns) (q : Query) (plan : Plan) → IsLawful q → planned columns q ≡ Ok plan → IsLawfulPlan plan
unfolding planned
planned_is_lawful columns q plan h is =
    unless_lawful (bind_fault columns q) (plan_with columns q (used_columns columns (query_finds columns q))) plan
    (with_lawful columns q (used_columns columns (query_finds columns q)) h) is
