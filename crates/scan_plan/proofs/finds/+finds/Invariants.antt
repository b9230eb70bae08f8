-- What was found, then what is left finds, is what all find.
use Rattle.std.specs.Prelude.{◌≡◌, ◌++◌, drop, map}
use Rattle.scan_plan.specs.Order.{joined}
use Rattle.scan_plan.specs.Finds.{expr_finds, sum_part_finds, prod_part_finds, arm_finds}
use Rattle.scan_plan.proofs.finds.+finds.Given as goal

abbrev pub invariant-of_members-members : goal.invariant-of_members-members
invariant-of_members-members l = l.finds ++ joined (map (expr_finds l.columns l.alias) (drop l.member-index l.members)) ≡ l.fn.finds ++ joined (map (expr_finds l.columns l.alias) l.members)

abbrev pub invariant-of_sum_parts-parts : goal.invariant-of_sum_parts-parts
invariant-of_sum_parts-parts l = l.finds ++ joined (map (sum_part_finds l.columns l.alias) (drop l.part-index l.parts)) ≡ l.fn.finds ++ joined (map (sum_part_finds l.columns l.alias) l.parts)

abbrev pub invariant-of_prod_parts-parts : goal.invariant-of_prod_parts-parts
invariant-of_prod_parts-parts l = l.finds ++ joined (map (prod_part_finds l.columns l.alias) (drop l.part-index l.parts)) ≡ l.fn.finds ++ joined (map (prod_part_finds l.columns l.alias) l.parts)

abbrev pub invariant-of_arms-arms : goal.invariant-of_arms-arms
invariant-of_arms-arms l = l.finds ++ joined (map (arm_finds l.columns l.alias) (drop l.arm-index l.arms)) ≡ l.fn.finds ++ joined (map (arm_finds l.columns l.alias) l.arms)
