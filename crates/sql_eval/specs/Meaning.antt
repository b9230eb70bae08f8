-- What a bound expression means over the cells of a row: a value, or the first fault that is met (docs/PROFILE.md, values).
use Rattle.std.specs.Prelude.{ℕ, Bool, true, false, List, map, Option, None, Some, Result, Ok, Err, chars}
use Rattle.sql_timestamp.specs.declared.fault.ValueFault.{ValueFault}
use Rattle.sql_bound.specs.declared.tree.Bound.{Bound, out-Bound}
use Rattle.sql_bound.specs.declared.tree.Bound.TheOpen.{Bound-F, BoundSumPart-F, BoundProdPart-F, BoundArm-F}
use Rattle.sql_bound.specs.declared.tree.Bound.TheFolds.{fold-Bound, fold-BoundSumPart, fold-BoundProdPart, fold-BoundArm}
use Rattle.sql_bound.specs.declared.tree.BoundSumPart.{BoundSumPart}
use Rattle.sql_bound.specs.declared.tree.BoundProdPart.{BoundProdPart}
use Rattle.sql_bound.specs.declared.tree.BoundArm.{BoundArm}
use Rattle.sql_value.specs.declared.value.Value.{Value}
use Rattle.sql_value.specs.declared.value.Value.TheVariants as value
use Rattle.sql_value.specs.Outcomes.{Outcome}
use Rattle.sql_functions.specs.Logic.{minus}
use Rattle.sql_functions.specs.Texts.{char_length_of, lower_of, upper_of}
use Rattle.sql_functions.specs.Times.{extract_of, to_timestamp_of}
use Rattle.sql_eval.specs.Evaluated.{Truth, as_value, condition}
use Rattle.sql_eval.specs.Rows.{cell_at}
use Rattle.sql_eval.specs.Paths.{value_at}
use Rattle.sql_eval.specs.Logic.{until, negated_if, comparison, between, among, liked, is_null, is_missing}
use Rattle.sql_eval.specs.Choices.{WhenThen, case, coalesce, null_if}
use Rattle.sql_eval.specs.Operations.{Operated, number_value, sum_operation, product_operation, arithmetic, cast_to, part_of, of_one, of_two, substring, trim, moved}

-- an expression by its form, where the meanings of its parts are told
abbrev pub node : List Value → Bound-F Outcome WhenThen Operated Operated → Outcome
node cells (Bound-F.Or members) = as_value (until condition true false members)
node cells (Bound-F.And members) = as_value (until condition false false members)
node cells (Bound-F.Not a) = as_value (negated_if true (condition a))
node cells (Bound-F.Compare op left right) = as_value (comparison op left right)
node cells (Bound-F.Between negated a low high) = as_value (negated_if negated (between a low high))
node cells (Bound-F.Among negated a members) = as_value (negated_if negated (among a members))
node cells (Bound-F.Like negated a pattern) = as_value (negated_if negated (liked a pattern))
node cells (Bound-F.IsNull negated a) = as_value (negated_if negated (is_null a))
node cells (Bound-F.IsMissing negated a) = as_value (negated_if negated (is_missing a))
node cells (Bound-F.Sum first rest) = arithmetic first rest
node cells (Bound-F.Prod first rest) = arithmetic first rest
node cells (Bound-F.Minus a) = of_one minus a
node cells (Bound-F.Text text) = Ok (value.Text (chars text))
node cells (Bound-F.Number number) = Ok (number_value number)
node cells (Bound-F.Bool truth) = Ok (value.Bool truth)
node cells Bound-F.Null = Ok value.Null
node cells Bound-F.Missing = Ok value.Missing
node cells (Bound-F.Cell index steps) = Ok (value_at steps (cell_at cells index))
node cells (Bound-F.Cast a target) = of_one (cast_to target) a
node cells (Bound-F.Case operand arms otherwise) = case operand arms otherwise
node cells (Bound-F.Coalesce members) = coalesce members
node cells (Bound-F.NullIf a b) = null_if a b
node cells (Bound-F.CharLength a) = of_one char_length_of a
node cells (Bound-F.Lower a) = of_one lower_of a
node cells (Bound-F.Upper a) = of_one upper_of a
node cells (Bound-F.Substring text start count) = substring text start count
node cells (Bound-F.Trim side set text) = trim side set text
node cells (Bound-F.Extract part a) = of_one (extract_of (part_of part)) a
node cells (Bound-F.DateAdd part count a) = of_two (moved part) count a
node cells (Bound-F.ToTimestamp a) = of_one to_timestamp_of a

abbrev pub arm_node : BoundArm-F Outcome WhenThen Operated Operated → WhenThen
arm_node a = record { when = a.when; answer = a.then }

abbrev pub prod_part_node : BoundProdPart-F Outcome WhenThen Operated Operated → Operated
prod_part_node p = record { op = product_operation p.op; operand = p.member }

abbrev pub sum_part_node : BoundSumPart-F Outcome WhenThen Operated Operated → Operated
sum_part_node p = record { op = sum_operation p.op; operand = p.member }

-- what an expression means over a row's cells
abbrev pub meaning : List Value → Bound → Outcome
meaning cells = fold-Bound Outcome WhenThen Operated Operated (node cells) arm_node prod_part_node sum_part_node

abbrev pub arm_meaning : List Value → BoundArm → WhenThen
arm_meaning cells = fold-BoundArm Outcome WhenThen Operated Operated (node cells) arm_node prod_part_node sum_part_node

abbrev pub prod_part_meaning : List Value → BoundProdPart → Operated
prod_part_meaning cells = fold-BoundProdPart Outcome WhenThen Operated Operated (node cells) arm_node prod_part_node sum_part_node

abbrev pub sum_part_meaning : List Value → BoundSumPart → Operated
sum_part_meaning cells = fold-BoundSumPart Outcome WhenThen Operated Operated (node cells) arm_node prod_part_node sum_part_node

-- ---- forms

-- a form that gives a truth
abbrev pub is_condition_form : {A B C D : Type 0} → Bound-F A B C D → Bool
is_condition_form (Bound-F.Or members) = true
is_condition_form (Bound-F.And members) = true
is_condition_form (Bound-F.Not a) = true
is_condition_form (Bound-F.Compare op left right) = true
is_condition_form (Bound-F.Between negated a low high) = true
is_condition_form (Bound-F.Among negated a members) = true
is_condition_form (Bound-F.Like negated a pattern) = true
is_condition_form (Bound-F.IsNull negated a) = true
is_condition_form (Bound-F.IsMissing negated a) = true
is_condition_form _ = false

abbrev pub is_condition : Bound → Bool
is_condition e = is_condition_form (out-Bound e)
