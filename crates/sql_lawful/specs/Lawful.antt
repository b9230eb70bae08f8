-- What a lawful query is: each LIKE pattern fits its escape, each DECIMAL has digits and a scale in its range, each DATE_ADD has a part
-- that can be moved, and the path in FROM has at most 64 steps. Binding a query to columns and evaluating it need no more of it.
use Rattle.std.specs.Prelude.{◌≡◌, ℕ, ◌≤◌, nat_le, Bool, true, false, ◌&&◌, List, length, Option, Some, None, is_some, chars}
use Rattle.std.specs.List.{list_all}
use Rattle.text_view.specs.LikePattern.{pattern_parts}
use Rattle.sql_grammar.specs.declared.tree.Expr.{Expr}
use Rattle.sql_grammar.specs.declared.tree.Expr.TheOpen.{Expr-F, SumPart-F, ProdPart-F, Arm-F}
use Rattle.sql_grammar.specs.declared.tree.Expr.TheFolds.{fold-Expr, fold-SumPart, fold-ProdPart, fold-Arm}
use Rattle.sql_grammar.specs.declared.tree.SumPart.{SumPart}
use Rattle.sql_grammar.specs.declared.tree.ProdPart.{ProdPart}
use Rattle.sql_grammar.specs.declared.tree.Arm.{Arm}
use Rattle.sql_grammar.specs.declared.tree.CastTarget.{CastTarget}
use Rattle.sql_grammar.specs.declared.tree.CastTarget.TheVariants as target
use Rattle.sql_grammar.specs.declared.tree.DatePart.{DatePart}
use Rattle.sql_grammar.specs.declared.tree.DatePart.TheVariants as part
use Rattle.sql_grammar.specs.declared.tree.Agg.{Agg}
use Rattle.sql_grammar.specs.declared.tree.Agg.TheVariants as agg
use Rattle.sql_grammar.specs.declared.tree.Item.{Item}
use Rattle.sql_grammar.specs.declared.tree.Total.{Total}
use Rattle.sql_grammar.specs.declared.tree.Selection.{Selection}
use Rattle.sql_grammar.specs.declared.tree.Selection.TheVariants as selection
use Rattle.sql_grammar.specs.declared.tree.Query.{Query}

-- ---- patterns, types and parts of timestamps

-- each escape in the pattern stands before `%`, `_` or an escape; a pattern without an escape always fits
abbrev pub fits_escape : List ℕ → Option ℕ → Bool
fits_escape pattern escape = is_some (pattern_parts escape (chars pattern))

-- DECIMAL's digits are 1 to 38, and its scale is at most the digits
abbrev pub is_lawful_target : CastTarget → Bool
is_lawful_target target.Bool = true
is_lawful_target target.Int = true
is_lawful_target target.Decimal = true
is_lawful_target (target.DecimalOf digits scale) = nat_le 1 digits && (nat_le digits 38 && nat_le scale digits)
is_lawful_target target.Text = true
is_lawful_target target.Timestamp = true

-- the parts of a timestamp that DATE_ADD moves: YEAR, MONTH, DAY, HOUR, MINUTE and SECOND
abbrev pub can_be_moved : DatePart → Bool
can_be_moved part.Year = true
can_be_moved part.Month = true
can_be_moved part.Day = true
can_be_moved part.Hour = true
can_be_moved part.Minute = true
can_be_moved part.Second = true
can_be_moved part.TimezoneHour = false
can_be_moved part.TimezoneMinute = false

-- ---- expressions

-- all of these are
abbrev pub each : List Bool → Bool
each ts = list_all (λ t. t) ts

-- it is, where it is there
abbrev pub if_there : Option Bool → Bool
if_there None = true
if_there (Some t) = t

-- an expression by its form, where its parts are told
abbrev pub lawful_step : Expr-F Bool Bool Bool Bool → Bool
lawful_step (Expr-F.Or members) = each members
lawful_step (Expr-F.And members) = each members
lawful_step (Expr-F.Not a) = a
lawful_step (Expr-F.Compare op left right) = left && right
lawful_step (Expr-F.Between negated value low high) = value && (low && high)
lawful_step (Expr-F.Among negated value members) = value && each members
lawful_step (Expr-F.Like negated value pattern escape) = value && fits_escape pattern escape
lawful_step (Expr-F.IsNull negated value) = value
lawful_step (Expr-F.IsMissing negated value) = value
lawful_step (Expr-F.Sum first rest) = first && each rest
lawful_step (Expr-F.Prod first rest) = first && each rest
lawful_step (Expr-F.Minus a) = a
lawful_step (Expr-F.Text text) = true
lawful_step (Expr-F.Number number) = true
lawful_step (Expr-F.Bool truth) = true
lawful_step Expr-F.Null = true
lawful_step Expr-F.Missing = true
lawful_step (Expr-F.Path steps) = true
lawful_step (Expr-F.Cast value target) = value && is_lawful_target target
lawful_step (Expr-F.Case operand arms otherwise) = if_there operand && (each arms && if_there otherwise)
lawful_step (Expr-F.Coalesce members) = each members
lawful_step (Expr-F.NullIf a b) = a && b
lawful_step (Expr-F.CharLength a) = a
lawful_step (Expr-F.Lower a) = a
lawful_step (Expr-F.Upper a) = a
lawful_step (Expr-F.Substring text start count) = text && (start && if_there count)
lawful_step (Expr-F.Trim side set text) = if_there set && text
lawful_step (Expr-F.Extract part value) = value
lawful_step (Expr-F.DateAdd part count value) = can_be_moved part && (count && value)
lawful_step (Expr-F.ToTimestamp a) = a

abbrev pub lawful_arm_step : Arm-F Bool Bool Bool Bool → Bool
lawful_arm_step a = a.when && a.then

abbrev pub lawful_prod_part_step : ProdPart-F Bool Bool Bool Bool → Bool
lawful_prod_part_step p = p.member

abbrev pub lawful_sum_part_step : SumPart-F Bool Bool Bool Bool → Bool
lawful_sum_part_step p = p.member

-- the expression's patterns, types and parts of timestamps are lawful, at any depth
abbrev pub is_lawful_expression : Expr → Bool
is_lawful_expression = fold-Expr Bool Bool Bool Bool lawful_step lawful_arm_step lawful_prod_part_step lawful_sum_part_step

abbrev pub is_lawful_arm : Arm → Bool
is_lawful_arm = fold-Arm Bool Bool Bool Bool lawful_step lawful_arm_step lawful_prod_part_step lawful_sum_part_step

abbrev pub is_lawful_prod_part : ProdPart → Bool
is_lawful_prod_part = fold-ProdPart Bool Bool Bool Bool lawful_step lawful_arm_step lawful_prod_part_step lawful_sum_part_step

abbrev pub is_lawful_sum_part : SumPart → Bool
is_lawful_sum_part = fold-SumPart Bool Bool Bool Bool lawful_step lawful_arm_step lawful_prod_part_step lawful_sum_part_step

-- ---- queries

abbrev pub is_lawful_agg : Agg → Bool
is_lawful_agg agg.CountAll = true
is_lawful_agg (agg.Count e) = is_lawful_expression e
is_lawful_agg (agg.Sum e) = is_lawful_expression e
is_lawful_agg (agg.Min e) = is_lawful_expression e
is_lawful_agg (agg.Max e) = is_lawful_expression e
is_lawful_agg (agg.Avg e) = is_lawful_expression e

abbrev pub is_lawful_item : Item → Bool
is_lawful_item i = is_lawful_expression i.expr

abbrev pub is_lawful_total : Total → Bool
is_lawful_total t = is_lawful_agg t.agg

abbrev pub is_lawful_selection : Selection → Bool
is_lawful_selection selection.All = true
is_lawful_selection (selection.Rows items) = list_all is_lawful_item items
is_lawful_selection (selection.Totals totals) = list_all is_lawful_total totals

abbrev pub is_lawful_filter : Option Expr → Bool
is_lawful_filter None = true
is_lawful_filter (Some e) = is_lawful_expression e

-- the most steps that the path in FROM has
abbrev pub most_steps : ℕ
most_steps = 64

-- a lawful query
pub record IsLawful (q : Query) : Type 0 where
  pub items : is_lawful_selection q.items ≡ true
  pub filter : is_lawful_filter q.filter ≡ true
  pub steps : length q.source ≤ most_steps
