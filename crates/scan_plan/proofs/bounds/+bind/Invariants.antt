-- What was bound, then what is left, bound, is all; what is left is lawful.
use Rattle.std.specs.Prelude.{◌≡◌, ◌++◌, true, drop, map}
use Rattle.sql_lawful.specs.Lawful.{each, is_lawful_expression, is_lawful_arm, is_lawful_prod_part, is_lawful_sum_part}
use Rattle.scan_plan.specs.Bounds.{bound_expr, bound_arm, bound_prod_part, bound_sum_part}
use Rattle.scan_plan.proofs.bounds.+bind.Given as goal

abbrev pub invariant-bind_members-members : goal.invariant-bind_members-members
invariant-bind_members-members l = record {
  lawful : each (map is_lawful_expression (drop l.member-index l.members)) ≡ true;
  bound : l.bounds ++ map (bound_expr l.at.columns.now l.at.alias.now l.at.used.now) (drop l.member-index l.members) ≡ map (bound_expr l.at.columns.now l.at.alias.now l.at.used.now) l.members;
}

abbrev pub invariant-bind_sum_parts-parts : goal.invariant-bind_sum_parts-parts
invariant-bind_sum_parts-parts l = record {
  lawful : each (map is_lawful_sum_part (drop l.part-index l.parts)) ≡ true;
  bound : l.bounds ++ map (bound_sum_part l.at.columns.now l.at.alias.now l.at.used.now) (drop l.part-index l.parts) ≡ map (bound_sum_part l.at.columns.now l.at.alias.now l.at.used.now) l.parts;
}

abbrev pub invariant-bind_prod_parts-parts : goal.invariant-bind_prod_parts-parts
invariant-bind_prod_parts-parts l = record {
  lawful : each (map is_lawful_prod_part (drop l.part-index l.parts)) ≡ true;
  bound : l.bounds ++ map (bound_prod_part l.at.columns.now l.at.alias.now l.at.used.now) (drop l.part-index l.parts) ≡ map (bound_prod_part l.at.columns.now l.at.alias.now l.at.used.now) l.parts;
}

abbrev pub invariant-bind_arms-arms : goal.invariant-bind_arms-arms
invariant-bind_arms-arms l = record {
  lawful : each (map is_lawful_arm (drop l.arm-index l.arms)) ≡ true;
  bound : l.bounds ++ map (bound_arm l.at.columns.now l.at.alias.now l.at.used.now) (drop l.arm-index l.arms) ≡ map (bound_arm l.at.columns.now l.at.alias.now l.at.used.now) l.arms;
}
