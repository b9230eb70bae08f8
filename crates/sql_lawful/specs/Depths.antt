-- How deep an expression is: how many of its nodes stand in one another.
use Rattle.std.specs.Prelude.{ℕ, suc, max, List, [], ◌∷◌, Option, Some, None, ◌≤◌}
use Rattle.sql_grammar.specs.declared.tree.Expr.{Expr}
use Rattle.sql_grammar.specs.declared.tree.Expr.TheOpen.{Expr-F, SumPart-F, ProdPart-F, Arm-F}
use Rattle.sql_grammar.specs.declared.tree.Expr.TheFolds.{fold-Expr, fold-SumPart, fold-ProdPart, fold-Arm}
use Rattle.sql_grammar.specs.declared.tree.SumPart.{SumPart}
use Rattle.sql_grammar.specs.declared.tree.ProdPart.{ProdPart}
use Rattle.sql_grammar.specs.declared.tree.Arm.{Arm}
use Rattle.sql_grammar.specs.declared.tree.Agg.{Agg}
use Rattle.sql_grammar.specs.declared.tree.Agg.TheVariants as agg
use Rattle.sql_grammar.specs.declared.tree.Item.{Item}
use Rattle.sql_grammar.specs.declared.tree.Total.{Total}
use Rattle.sql_grammar.specs.declared.tree.Selection.{Selection}
use Rattle.sql_grammar.specs.declared.tree.Selection.TheVariants as selection
use Rattle.sql_grammar.specs.declared.tree.Query.{Query}
use Rattle.grammar_rules.specs.Spelled.{All}

-- ---- expressions

-- the greatest, 0 of none
abbrev pub deepest : List ℕ → ℕ
deepest [] = 0
deepest (n ∷ ns) = max n (deepest ns)

abbrev pub depth_or_none : Option ℕ → ℕ
depth_or_none None = 0
depth_or_none (Some n) = n

-- one more than the deepest of its parts
abbrev pub depth_step : Expr-F ℕ ℕ ℕ ℕ → ℕ
depth_step (Expr-F.Or members) = suc (deepest members)
depth_step (Expr-F.And members) = suc (deepest members)
depth_step (Expr-F.Not a) = suc a
depth_step (Expr-F.Compare op left right) = suc (max left right)
depth_step (Expr-F.Between negated value low high) = suc (max value (max low high))
depth_step (Expr-F.Among negated value members) = suc (max value (deepest members))
depth_step (Expr-F.Like negated value pattern escape) = suc value
depth_step (Expr-F.IsNull negated value) = suc value
depth_step (Expr-F.IsMissing negated value) = suc value
depth_step (Expr-F.Sum first rest) = suc (max first (deepest rest))
depth_step (Expr-F.Prod first rest) = suc (max first (deepest rest))
depth_step (Expr-F.Minus a) = suc a
depth_step (Expr-F.Text text) = 1
depth_step (Expr-F.Number number) = 1
depth_step (Expr-F.Bool truth) = 1
depth_step Expr-F.Null = 1
depth_step Expr-F.Missing = 1
depth_step (Expr-F.Path steps) = 1
depth_step (Expr-F.Cast value target) = suc value
depth_step (Expr-F.Case operand arms otherwise) = suc (max (depth_or_none operand) (max (deepest arms) (depth_or_none otherwise)))
depth_step (Expr-F.Coalesce members) = suc (deepest members)
depth_step (Expr-F.NullIf a b) = suc (max a b)
depth_step (Expr-F.CharLength a) = suc a
depth_step (Expr-F.Lower a) = suc a
depth_step (Expr-F.Upper a) = suc a
depth_step (Expr-F.Substring text start count) = suc (max text (max start (depth_or_none count)))
depth_step (Expr-F.Trim side set text) = suc (max (depth_or_none set) text)
depth_step (Expr-F.Extract part value) = suc value
depth_step (Expr-F.DateAdd part count value) = suc (max count value)
depth_step (Expr-F.ToTimestamp a) = suc a

-- an arm, and what stands behind an operator, are no nodes of their own
abbrev pub depth_arm_step : Arm-F ℕ ℕ ℕ ℕ → ℕ
depth_arm_step a = max a.when a.then

abbrev pub depth_prod_part_step : ProdPart-F ℕ ℕ ℕ ℕ → ℕ
depth_prod_part_step p = p.member

abbrev pub depth_sum_part_step : SumPart-F ℕ ℕ ℕ ℕ → ℕ
depth_sum_part_step p = p.member

-- how many nodes of the expression stand in one another, itself among them
abbrev pub depth_of : Expr → ℕ
depth_of = fold-Expr ℕ ℕ ℕ ℕ depth_step depth_arm_step depth_prod_part_step depth_sum_part_step

abbrev pub depth_of_arm : Arm → ℕ
depth_of_arm = fold-Arm ℕ ℕ ℕ ℕ depth_step depth_arm_step depth_prod_part_step depth_sum_part_step

abbrev pub depth_of_prod_part : ProdPart → ℕ
depth_of_prod_part = fold-ProdPart ℕ ℕ ℕ ℕ depth_step depth_arm_step depth_prod_part_step depth_sum_part_step

abbrev pub depth_of_sum_part : SumPart → ℕ
depth_of_sum_part = fold-SumPart ℕ ℕ ℕ ℕ depth_step depth_arm_step depth_prod_part_step depth_sum_part_step

-- ---- queries

-- the fact holds of the expression in it
abbrev pub OfAgg : (Expr → Type 0) → Agg → Type 0
OfAgg F agg.CountAll = Unit {0}
OfAgg F (agg.Count e) = F e
OfAgg F (agg.Sum e) = F e
OfAgg F (agg.Min e) = F e
OfAgg F (agg.Max e) = F e
OfAgg F (agg.Avg e) = F e

abbrev pub OfItem : (Expr → Type 0) → Item → Type 0
OfItem F i = F i.expr

abbrev pub OfTotal : (Expr → Type 0) → Total → Type 0
OfTotal F t = OfAgg F t.agg

abbrev pub OfSelection : (Expr → Type 0) → Selection → Type 0
OfSelection F selection.All = Unit {0}
OfSelection F (selection.Rows items) = All (OfItem F) items
OfSelection F (selection.Totals totals) = All (OfTotal F) totals

abbrev pub OfFilter : (Expr → Type 0) → Option Expr → Type 0
OfFilter F None = Unit {0}
OfFilter F (Some e) = F e

-- the most nodes that stand in one another: eight forms between two of 65 brackets
abbrev pub most_nodes : ℕ
most_nodes = 520

-- no expression of the query is deeper
pub record IsShallow (q : Query) : Type 0 where
  pub items : OfSelection (λ e. depth_of e ≤ most_nodes) q.items
  pub filter : OfFilter (λ e. depth_of e ≤ most_nodes) q.filter
