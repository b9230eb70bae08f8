-- The tree of a bound expression: the same form, with what each path is bound to in its place, and a made pattern in place of its text.
use Rattle.std.specs.Prelude.{ℕ, List, [], Option, unwrap_or, chars}
use Rattle.text_view.specs.LikePattern.{pattern_parts}
use Rattle.sql_grammar.specs.declared.tree.PathStep.{PathStep}
use Rattle.sql_grammar.specs.declared.tree.Expr.{Expr}
use Rattle.sql_grammar.specs.declared.tree.Expr.TheOpen.{Expr-F, SumPart-F, ProdPart-F, Arm-F}
use Rattle.sql_grammar.specs.declared.tree.Expr.TheFolds.{fold-Expr, fold-SumPart, fold-ProdPart, fold-Arm}
use Rattle.sql_grammar.specs.declared.tree.SumPart.{SumPart}
use Rattle.sql_grammar.specs.declared.tree.ProdPart.{ProdPart}
use Rattle.sql_grammar.specs.declared.tree.Arm.{Arm}
use Rattle.sql_bound.specs.declared.tree.Bound.{Bound}
use Rattle.sql_bound.specs.declared.tree.Bound.TheVariants as bound
use Rattle.sql_bound.specs.declared.tree.BoundSumPart.{BoundSumPart, roll-BoundSumPart}
use Rattle.sql_bound.specs.declared.tree.BoundProdPart.{BoundProdPart, roll-BoundProdPart}
use Rattle.sql_bound.specs.declared.tree.BoundArm.{BoundArm, roll-BoundArm}

-- an expression by its form, where its parts are bound, with what its paths are
abbrev pub bound_step : (List PathStep → Bound) → Expr-F Bound BoundArm BoundProdPart BoundSumPart → Bound
bound_step of_path (Expr-F.Or members) = bound.Or members
bound_step of_path (Expr-F.And members) = bound.And members
bound_step of_path (Expr-F.Not a) = bound.Not a
bound_step of_path (Expr-F.Compare op left right) = bound.Compare op left right
bound_step of_path (Expr-F.Between negated value low high) = bound.Between negated value low high
bound_step of_path (Expr-F.Among negated value members) = bound.Among negated value members
bound_step of_path (Expr-F.Like negated value pattern escape) =
    bound.Like negated value (unwrap_or (pattern_parts escape (chars pattern)) [])
bound_step of_path (Expr-F.IsNull negated value) = bound.IsNull negated value
bound_step of_path (Expr-F.IsMissing negated value) = bound.IsMissing negated value
bound_step of_path (Expr-F.Sum first rest) = bound.Sum first rest
bound_step of_path (Expr-F.Prod first rest) = bound.Prod first rest
bound_step of_path (Expr-F.Minus a) = bound.Minus a
bound_step of_path (Expr-F.Text text) = bound.Text text
bound_step of_path (Expr-F.Number number) = bound.Number number
bound_step of_path (Expr-F.Bool truth) = bound.Bool truth
bound_step of_path Expr-F.Null = bound.Null
bound_step of_path Expr-F.Missing = bound.Missing
bound_step of_path (Expr-F.Path steps) = of_path steps
bound_step of_path (Expr-F.Cast value target) = bound.Cast value target
bound_step of_path (Expr-F.Case operand arms otherwise) = bound.Case operand arms otherwise
bound_step of_path (Expr-F.Coalesce members) = bound.Coalesce members
bound_step of_path (Expr-F.NullIf a b) = bound.NullIf a b
bound_step of_path (Expr-F.CharLength a) = bound.CharLength a
bound_step of_path (Expr-F.Lower a) = bound.Lower a
bound_step of_path (Expr-F.Upper a) = bound.Upper a
bound_step of_path (Expr-F.Substring text start count) = bound.Substring text start count
bound_step of_path (Expr-F.Trim side set text) = bound.Trim side set text
bound_step of_path (Expr-F.Extract part value) = bound.Extract part value
bound_step of_path (Expr-F.DateAdd part count value) = bound.DateAdd part count value
bound_step of_path (Expr-F.ToTimestamp a) = bound.ToTimestamp a

abbrev pub bound_arm_step : Arm-F Bound BoundArm BoundProdPart BoundSumPart → BoundArm
bound_arm_step a = roll-BoundArm (record { when = a.when; then = a.then })

abbrev pub bound_prod_part_step : ProdPart-F Bound BoundArm BoundProdPart BoundSumPart → BoundProdPart
bound_prod_part_step p = roll-BoundProdPart (record { op = p.op; member = p.member })

abbrev pub bound_sum_part_step : SumPart-F Bound BoundArm BoundProdPart BoundSumPart → BoundSumPart
bound_sum_part_step p = roll-BoundSumPart (record { op = p.op; member = p.member })

-- the expression, with what its paths are
abbrev pub with_paths : (List PathStep → Bound) → Expr → Bound
with_paths of_path =
    fold-Expr Bound BoundArm BoundProdPart BoundSumPart (bound_step of_path) bound_arm_step bound_prod_part_step bound_sum_part_step

abbrev pub arm_with_paths : (List PathStep → Bound) → Arm → BoundArm
arm_with_paths of_path =
    fold-Arm Bound BoundArm BoundProdPart BoundSumPart (bound_step of_path) bound_arm_step bound_prod_part_step bound_sum_part_step

abbrev pub prod_part_with_paths : (List PathStep → Bound) → ProdPart → BoundProdPart
prod_part_with_paths of_path =
    fold-ProdPart Bound BoundArm BoundProdPart BoundSumPart (bound_step of_path) bound_arm_step bound_prod_part_step bound_sum_part_step

abbrev pub sum_part_with_paths : (List PathStep → Bound) → SumPart → BoundSumPart
sum_part_with_paths of_path =
    fold-SumPart Bound BoundArm BoundProdPart BoundSumPart (bound_step of_path) bound_arm_step bound_prod_part_step bound_sum_part_step
