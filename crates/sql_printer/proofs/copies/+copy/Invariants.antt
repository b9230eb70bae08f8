-- What was copied, then what is left, is all.
use Rattle.std.specs.Prelude.{◌≡◌, ◌++◌, drop}
use Rattle.sql_printer.proofs.copies.+copy.Given as goal

abbrev pub invariant-copy_members-members : goal.invariant-copy_members-members
invariant-copy_members-members l = l.copies ++ drop l.member-index l.members ≡ l.members

abbrev pub invariant-copy_sum_parts-parts : goal.invariant-copy_sum_parts-parts
invariant-copy_sum_parts-parts l = l.copies ++ drop l.part-index l.parts ≡ l.parts

abbrev pub invariant-copy_prod_parts-parts : goal.invariant-copy_prod_parts-parts
invariant-copy_prod_parts-parts l = l.copies ++ drop l.part-index l.parts ≡ l.parts

abbrev pub invariant-copy_arms-arms : goal.invariant-copy_arms-arms
invariant-copy_arms-arms l = l.copies ++ drop l.arm-index l.arms ≡ l.arms
