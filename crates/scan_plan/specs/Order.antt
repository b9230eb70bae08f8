-- The paths of an expression, in the order in which they stand in its text.
use Rattle.std.specs.Prelude.{List, [], ◌∷◌, ◌++◌, Option, Some, None}
use Rattle.sql_grammar.specs.declared.tree.PathStep.{PathStep}
use Rattle.sql_grammar.specs.declared.tree.Expr.{Expr}
use Rattle.sql_grammar.specs.declared.tree.Expr.TheOpen.{Expr-F, SumPart-F, ProdPart-F, Arm-F}
use Rattle.sql_grammar.specs.declared.tree.Expr.TheFolds.{fold-Expr, fold-SumPart, fold-ProdPart, fold-Arm}
use Rattle.sql_grammar.specs.declared.tree.SumPart.{SumPart}
use Rattle.sql_grammar.specs.declared.tree.ProdPart.{ProdPart}
use Rattle.sql_grammar.specs.declared.tree.Arm.{Arm}

-- one list after the other
abbrev pub joined : {X : Type 0} → List (List X) → List X
joined [] = []
joined (xs ∷ rest) = xs ++ joined rest

abbrev pub or_none : {X : Type 0} → Option (List X) → List X
or_none None = []
or_none (Some xs) = xs

-- what each path is, in order, by the form of the expression, where it is told for its parts
abbrev pub order_step : {X : Type 0} → (List PathStep → X) → Expr-F (List X) (List X) (List X) (List X) → List X
order_step of (Expr-F.Or members) = joined members
order_step of (Expr-F.And members) = joined members
order_step of (Expr-F.Not a) = a
order_step of (Expr-F.Compare op left right) = left ++ right
order_step of (Expr-F.Between negated value low high) = value ++ (low ++ high)
order_step of (Expr-F.Among negated value members) = value ++ joined members
order_step of (Expr-F.Like negated value pattern escape) = value
order_step of (Expr-F.IsNull negated value) = value
order_step of (Expr-F.IsMissing negated value) = value
order_step of (Expr-F.Sum first rest) = first ++ joined rest
order_step of (Expr-F.Prod first rest) = first ++ joined rest
order_step of (Expr-F.Minus a) = a
order_step of (Expr-F.Text text) = []
order_step of (Expr-F.Number number) = []
order_step of (Expr-F.Bool truth) = []
order_step of Expr-F.Null = []
order_step of Expr-F.Missing = []
order_step of (Expr-F.Path steps) = of steps ∷ []
order_step of (Expr-F.Cast value target) = value
order_step of (Expr-F.Case operand arms otherwise) = or_none operand ++ (joined arms ++ or_none otherwise)
order_step of (Expr-F.Coalesce members) = joined members
order_step of (Expr-F.NullIf a b) = a ++ b
order_step of (Expr-F.CharLength a) = a
order_step of (Expr-F.Lower a) = a
order_step of (Expr-F.Upper a) = a
order_step of (Expr-F.Substring text start count) = text ++ (start ++ or_none count)
order_step of (Expr-F.Trim side set text) = or_none set ++ text
order_step of (Expr-F.Extract part value) = value
order_step of (Expr-F.DateAdd part count value) = count ++ value
order_step of (Expr-F.ToTimestamp a) = a

abbrev pub order_arm_step : {X : Type 0} → Arm-F (List X) (List X) (List X) (List X) → List X
order_arm_step a = a.when ++ a.then

abbrev pub order_prod_part_step : {X : Type 0} → ProdPart-F (List X) (List X) (List X) (List X) → List X
order_prod_part_step p = p.member

abbrev pub order_sum_part_step : {X : Type 0} → SumPart-F (List X) (List X) (List X) (List X) → List X
order_sum_part_step p = p.member

-- what `of` says of each path of the expression, in the order of its text
abbrev pub of_paths : {X : Type 0} → (List PathStep → X) → Expr → List X
of_paths {X} of =
    fold-Expr (List X) (List X) (List X) (List X) (order_step of) order_arm_step order_prod_part_step order_sum_part_step

abbrev pub of_arm : {X : Type 0} → (List PathStep → X) → Arm → List X
of_arm {X} of =
    fold-Arm (List X) (List X) (List X) (List X) (order_step of) order_arm_step order_prod_part_step order_sum_part_step

abbrev pub of_prod_part : {X : Type 0} → (List PathStep → X) → ProdPart → List X
of_prod_part {X} of =
    fold-ProdPart (List X) (List X) (List X) (List X) (order_step of) order_arm_step order_prod_part_step order_sum_part_step

abbrev pub of_sum_part : {X : Type 0} → (List PathStep → X) → SumPart → List X
of_sum_part {X} of =
    fold-SumPart (List X) (List X) (List X) (List X) (order_step of) order_arm_step order_prod_part_step order_sum_part_step
