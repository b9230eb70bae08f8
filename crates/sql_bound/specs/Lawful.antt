-- What a lawful bound is: each DECIMAL has digits and a scale in its range, and each DATE_ADD has a part that can be moved. Evaluating it
-- needs no more of it.
use Rattle.std.specs.Prelude.{nat_le, Bool, true, false, ◌&&◌, List, Option, Some, None}
use Rattle.std.specs.List.{list_all}
use Rattle.sql_grammar.specs.declared.tree.CastTarget.{CastTarget}
use Rattle.sql_grammar.specs.declared.tree.CastTarget.TheVariants as target
use Rattle.sql_grammar.specs.declared.tree.DatePart.{DatePart}
use Rattle.sql_grammar.specs.declared.tree.DatePart.TheVariants as part
use Rattle.sql_bound.specs.declared.tree.Bound.{Bound}
use Rattle.sql_bound.specs.declared.tree.Bound.TheOpen.{Bound-F, BoundSumPart-F, BoundProdPart-F, BoundArm-F}
use Rattle.sql_bound.specs.declared.tree.Bound.TheFolds.{fold-Bound, fold-BoundSumPart, fold-BoundProdPart, fold-BoundArm}
use Rattle.sql_bound.specs.declared.tree.BoundSumPart.{BoundSumPart}
use Rattle.sql_bound.specs.declared.tree.BoundProdPart.{BoundProdPart}
use Rattle.sql_bound.specs.declared.tree.BoundArm.{BoundArm}
use Rattle.sql_bound.specs.declared.tree.BoundAgg.{BoundAgg}
use Rattle.sql_bound.specs.declared.tree.BoundAgg.TheVariants as agg

-- ---- types and parts of timestamps

-- DECIMAL's digits are 1 to 38, and its scale is at most the digits
abbrev pub is_lawful_target : CastTarget → Bool
is_lawful_target target.Bool = true
is_lawful_target target.Int = true
is_lawful_target target.Decimal = true
is_lawful_target (target.DecimalOf digits scale) = nat_le 1 digits && (nat_le digits 38 && nat_le scale digits)
is_lawful_target target.Text = true
is_lawful_target target.Timestamp = true

-- the parts of a timestamp that DATE_ADD moves: YEAR, MONTH, DAY, HOUR, MINUTE and SECOND
abbrev pub can_be_moved : DatePart → Bool
can_be_moved part.Year = true
can_be_moved part.Month = true
can_be_moved part.Day = true
can_be_moved part.Hour = true
can_be_moved part.Minute = true
can_be_moved part.Second = true
can_be_moved part.TimezoneHour = false
can_be_moved part.TimezoneMinute = false

-- ---- expressions

-- all of these are
abbrev pub each : List Bool → Bool
each ts = list_all (λ t. t) ts

-- it is, where it is there
abbrev pub if_there : Option Bool → Bool
if_there None = true
if_there (Some t) = t

-- an expression by its form, where its parts are told
abbrev pub lawful_step : Bound-F Bool Bool Bool Bool → Bool
lawful_step (Bound-F.Or members) = each members
lawful_step (Bound-F.And members) = each members
lawful_step (Bound-F.Not a) = a
lawful_step (Bound-F.Compare op left right) = left && right
lawful_step (Bound-F.Between negated value low high) = value && (low && high)
lawful_step (Bound-F.Among negated value members) = value && each members
lawful_step (Bound-F.Like negated value pattern) = value
lawful_step (Bound-F.IsNull negated value) = value
lawful_step (Bound-F.IsMissing negated value) = value
lawful_step (Bound-F.Sum first rest) = first && each rest
lawful_step (Bound-F.Prod first rest) = first && each rest
lawful_step (Bound-F.Minus a) = a
lawful_step (Bound-F.Text text) = true
lawful_step (Bound-F.Number number) = true
lawful_step (Bound-F.Bool truth) = true
lawful_step Bound-F.Null = true
lawful_step Bound-F.Missing = true
lawful_step (Bound-F.Cell index steps) = true
lawful_step (Bound-F.Cast value target) = value && is_lawful_target target
lawful_step (Bound-F.Case operand arms otherwise) = if_there operand && (each arms && if_there otherwise)
lawful_step (Bound-F.Coalesce members) = each members
lawful_step (Bound-F.NullIf a b) = a && b
lawful_step (Bound-F.CharLength a) = a
lawful_step (Bound-F.Lower a) = a
lawful_step (Bound-F.Upper a) = a
lawful_step (Bound-F.Substring text start count) = text && (start && if_there count)
lawful_step (Bound-F.Trim side set text) = if_there set && text
lawful_step (Bound-F.Extract part value) = value
lawful_step (Bound-F.DateAdd part count value) = can_be_moved part && (count && value)
lawful_step (Bound-F.ToTimestamp a) = a

abbrev pub lawful_arm_step : BoundArm-F Bool Bool Bool Bool → Bool
lawful_arm_step a = a.when && a.then

abbrev pub lawful_prod_part_step : BoundProdPart-F Bool Bool Bool Bool → Bool
lawful_prod_part_step p = p.member

abbrev pub lawful_sum_part_step : BoundSumPart-F Bool Bool Bool Bool → Bool
lawful_sum_part_step p = p.member

-- the bound expression's types and parts of timestamps are lawful, at any depth
abbrev pub is_lawful_bound : Bound → Bool
is_lawful_bound = fold-Bound Bool Bool Bool Bool lawful_step lawful_arm_step lawful_prod_part_step lawful_sum_part_step

abbrev pub is_lawful_arm : BoundArm → Bool
is_lawful_arm = fold-BoundArm Bool Bool Bool Bool lawful_step lawful_arm_step lawful_prod_part_step lawful_sum_part_step

abbrev pub is_lawful_prod_part : BoundProdPart → Bool
is_lawful_prod_part = fold-BoundProdPart Bool Bool Bool Bool lawful_step lawful_arm_step lawful_prod_part_step lawful_sum_part_step

abbrev pub is_lawful_sum_part : BoundSumPart → Bool
is_lawful_sum_part = fold-BoundSumPart Bool Bool Bool Bool lawful_step lawful_arm_step lawful_prod_part_step lawful_sum_part_step

-- ---- aggregates

abbrev pub is_lawful_agg : BoundAgg → Bool
is_lawful_agg agg.CountAll = true
is_lawful_agg (agg.Count e) = is_lawful_bound e
is_lawful_agg (agg.Sum e) = is_lawful_bound e
is_lawful_agg (agg.Min e) = is_lawful_bound e
is_lawful_agg (agg.Max e) = is_lawful_bound e
is_lawful_agg (agg.Avg e) = is_lawful_bound e
