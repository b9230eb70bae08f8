-- The plan of a query for an input, or why it has none.
use Rattle.std.specs.Prelude.{◌≡◌, ℕ, suc, ◌-◌, Bool, true, List, [], ◌∷◌, ◌++◌, length, map, Option, Some, None, Result, Ok, Err, codes, decimal, slice_get}
use Rattle.std.specs.List.{list_all}
use Rattle.std.specs.Option.{option_or}
use Rattle.sql_grammar.specs.Faults.{source_name}
use Rattle.sql_grammar.specs.declared.tree.Name.{Name}
use Rattle.sql_grammar.specs.declared.tree.PathStep.{PathStep}
use Rattle.sql_grammar.specs.declared.tree.PathStep.TheVariants as step
use Rattle.sql_grammar.specs.declared.tree.Expr.{Expr}
use Rattle.sql_grammar.specs.declared.tree.Expr.TheOpen.{Expr-F}
use Rattle.sql_grammar.specs.declared.tree.Expr.TheFolds.{fold-Expr}
use Rattle.sql_grammar.specs.declared.tree.Agg.{Agg}
use Rattle.sql_grammar.specs.declared.tree.Agg.TheVariants as agg
use Rattle.sql_grammar.specs.declared.tree.Item.{Item}
use Rattle.sql_grammar.specs.declared.tree.Total.{Total}
use Rattle.sql_grammar.specs.declared.tree.Selection.{Selection}
use Rattle.sql_grammar.specs.declared.tree.Selection.TheVariants as selection
use Rattle.sql_grammar.specs.declared.tree.Query.{Query}
use Rattle.sql_bound.specs.declared.tree.Bound.{Bound}
use Rattle.sql_bound.specs.declared.tree.BoundAgg.{BoundAgg}
use Rattle.sql_bound.specs.declared.tree.BoundAgg.TheVariants as bound
use Rattle.sql_bound.specs.Lawful.{is_lawful_bound, is_lawful_agg}
use Rattle.scan_plan.specs.declared.columns.Columns.{Columns}
use Rattle.scan_plan.specs.declared.plans.BindFault.{BindFault}
use Rattle.scan_plan.specs.declared.plans.BindError.{BindError}
use Rattle.scan_plan.specs.declared.plans.BindError.TheVariants as error
use Rattle.scan_plan.specs.declared.plans.PlanItems.{PlanItems}
use Rattle.scan_plan.specs.declared.plans.PlanItems.TheVariants as items
use Rattle.scan_plan.specs.declared.plans.Plan.{Plan}
use Rattle.scan_plan.specs.Bounds.{bound_expr}
use Rattle.scan_plan.specs.Finds.{query_finds, used_columns, bind_fault}

-- ---- names of what is selected

abbrev pub step_name : Option PathStep → Option (List ℕ)
step_name None = None
step_name (Some (step.Member name)) = Some name.text
step_name (Some (step.Element place)) = None

-- the name at a path's end, as the query writes it
abbrev pub last_name : List PathStep → Option (List ℕ)
last_name steps = step_name (slice_get steps (length steps - 1))

abbrev pub Nothing : Type 0
Nothing = Unit {0}

abbrev pub path_name_step : Expr-F (Option (List ℕ)) Nothing Nothing Nothing → Option (List ℕ)
path_name_step (Expr-F.Path steps) = last_name steps
path_name_step _ = None

-- an expression that is a path may have a name of its own
abbrev pub path_name : Expr → Option (List ℕ)
path_name = fold-Expr (Option (List ℕ)) Nothing Nothing Nothing path_name_step (λ a. tt) (λ p. tt) (λ p. tt)

abbrev pub given_name : Option Name → Option (List ℕ)
given_name None = None
given_name (Some name) = Some name.text

-- else it is `_` and its number
abbrev pub name_or_number : ℕ → Option (List ℕ) → List ℕ
name_or_number number None = codes "_" ++ decimal number
name_or_number number (Some name) = name

-- the name after AS, else the path's
abbrev pub item_name : ℕ → Item → List ℕ
item_name number i = name_or_number number (option_or (given_name i.name) (path_name i.expr))

abbrev pub total_name : ℕ → Total → List ℕ
total_name number t = name_or_number number (given_name t.name)

-- the first of these has that number
abbrev pub item_names : ℕ → List Item → List (List ℕ)
item_names number [] = []
item_names number (i ∷ items) = item_name number i ∷ item_names (suc number) items

abbrev pub total_names : ℕ → List Total → List (List ℕ)
total_names number [] = []
total_names number (t ∷ totals) = total_name number t ∷ total_names (suc number) totals

abbrev pub selection_names : Selection → List (List ℕ)
selection_names selection.All = []
selection_names (selection.Rows items) = item_names 1 items
selection_names (selection.Totals totals) = total_names 1 totals

-- ---- plans

abbrev pub bound_agg : Columns → Option Name → List ℕ → Agg → BoundAgg
bound_agg columns alias used agg.CountAll = bound.CountAll
bound_agg columns alias used (agg.Count e) = bound.Count (bound_expr columns alias used e)
bound_agg columns alias used (agg.Sum e) = bound.Sum (bound_expr columns alias used e)
bound_agg columns alias used (agg.Min e) = bound.Min (bound_expr columns alias used e)
bound_agg columns alias used (agg.Max e) = bound.Max (bound_expr columns alias used e)
bound_agg columns alias used (agg.Avg e) = bound.Avg (bound_expr columns alias used e)

abbrev pub bound_item : Columns → Option Name → List ℕ → Item → Bound
bound_item columns alias used i = bound_expr columns alias used i.expr

abbrev pub bound_total : Columns → Option Name → List ℕ → Total → BoundAgg
bound_total columns alias used t = bound_agg columns alias used t.agg

abbrev pub bound_selection : Columns → Option Name → List ℕ → Selection → PlanItems
bound_selection columns alias used selection.All = items.All
bound_selection columns alias used (selection.Rows rows) = items.Rows (map (bound_item columns alias used) rows)
bound_selection columns alias used (selection.Totals totals) = items.Totals (map (bound_total columns alias used) totals)

abbrev pub bound_filter : Columns → Option Name → List ℕ → Option Expr → Option Bound
bound_filter columns alias used None = None
bound_filter columns alias used (Some e) = Some (bound_expr columns alias used e)

abbrev pub plan_with : Columns → Query → List ℕ → Plan
plan_with columns q used = record {
  items = bound_selection columns q.alias used q.items;
  filter = bound_filter columns q.alias used q.filter;
  limit = q.limit;
  used = used;
  names = selection_names q.items;
}

abbrev pub planned_unless : Option BindFault → Plan → Result Plan BindFault
planned_unless None plan = Ok plan
planned_unless (Some f) plan = Err f

-- the plan of a query, or the first reason why it has none
unfoldable pub planned : Columns → Query → Result Plan BindFault
planned columns q = planned_unless (bind_fault columns q) (plan_with columns q (used_columns columns (query_finds columns q)))

-- the answer is the plan or the fault, or memory was wanting
abbrev pub Binds : Result Plan BindFault → Result Plan BindError → Type 0
Binds planned (Ok plan) = planned ≡ Ok plan
Binds planned (Err (error.Fault f)) = planned ≡ Err f
Binds planned (Err error.OutOfMemory) = Unit {0}

-- ---- lawful plans

abbrev pub are_lawful_items : PlanItems → Bool
are_lawful_items items.All = true
are_lawful_items (items.Rows bounds) = list_all is_lawful_bound bounds
are_lawful_items (items.Totals aggs) = list_all is_lawful_agg aggs

abbrev pub is_lawful_filter : Option Bound → Bool
is_lawful_filter None = true
is_lawful_filter (Some e) = is_lawful_bound e

-- each expression of the plan is lawful, as evaluating it needs
pub record IsLawfulPlan (plan : Plan) : Type 0 where
  pub items : are_lawful_items plan.items ≡ true
  pub filter : is_lawful_filter plan.filter ≡ true
