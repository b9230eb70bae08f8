-- What is left of a list, judged or evaluated from here on, gives what all of it gives.
use Rattle.std.specs.Prelude.{◌≡◌, false, drop, map}
use Rattle.sql_eval.specs.Logic.{until}
use Rattle.sql_eval.specs.Choices.{judged_by, chosen, coalesce}
use Rattle.sql_eval.specs.Operations.{operated}
use Rattle.sql_eval.specs.Meaning.{meaning, arm_meaning, prod_part_meaning, sum_part_meaning}
use Rattle.sql_eval.proofs.evaluate.+eval.Given as goal

abbrev pub invariant-first_of-members : goal.invariant-first_of-members
invariant-first_of-members g l =
    until (judged_by l.operand) l.stop l.unknown (map (meaning (g.R.Row.cells l.row)) (drop l.member-index l.members))
    ≡ until (judged_by l.operand) l.stop false (map (meaning (g.R.Row.cells l.row)) l.members)

abbrev pub invariant-arms_into-arms : goal.invariant-arms_into-arms
invariant-arms_into-arms g l =
    chosen (judged_by l.operand) (map (arm_meaning (g.R.Row.cells l.row)) (drop l.arm-index l.arms))
    ≡ chosen (judged_by l.operand) (map (arm_meaning (g.R.Row.cells l.row)) l.arms)

abbrev pub invariant-coalesce_into-members : goal.invariant-coalesce_into-members
invariant-coalesce_into-members g l =
    coalesce (map (meaning (g.R.Row.cells l.row)) (drop l.member-index l.members)) ≡ coalesce (map (meaning (g.R.Row.cells l.row)) l.members)

abbrev pub invariant-sum_into-parts : goal.invariant-sum_into-parts
invariant-sum_into-parts g l =
    operated l.out (map (sum_part_meaning (g.R.Row.cells l.row)) (drop l.part-index l.parts))
    ≡ operated l.fn.out (map (sum_part_meaning (g.R.Row.cells l.row)) l.parts)

abbrev pub invariant-product_into-parts : goal.invariant-product_into-parts
invariant-product_into-parts g l =
    operated l.out (map (prod_part_meaning (g.R.Row.cells l.row)) (drop l.part-index l.parts))
    ≡ operated l.fn.out (map (prod_part_meaning (g.R.Row.cells l.row)) l.parts)
