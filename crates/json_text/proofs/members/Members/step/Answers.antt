use Rattle.std.proofs.Common.{sym, subst, ◌∙◌, refl}
use Rattle.json_text.specs.Naming.{Coming}
use Rattle.json_text.proofs.Membered.{name_order, name_begins, name_ends, value_order, value_begins, value_ends, value_node, goes_within, member_goes, member_first}
use Rattle.json_text.proofs.Walking.{walk_shorter}
use Rattle.json_text.proofs.members.Members.step.Goals as goal

pub range-name-requires-clause-start_le_end : goal.range-name-requires-clause-start_le_end
range-name-requires-clause-start_le_end c = name_order c.self.inside.text.now c.self.inside.at _ _ _ _ _ c.in-Some.ensures.split c.self.invariant.1

pub range-name-requires-clause-start_boundary : goal.range-name-requires-clause-start_boundary
range-name-requires-clause-start_boundary c = λ h. name_begins c.self.inside.text.now c.self.inside.at _ _ _ _ _ c.in-Some.ensures.split c.self.invariant.1

pub range-name-requires-clause-end_boundary : goal.range-name-requires-clause-end_boundary
range-name-requires-clause-end_boundary c = name_ends c.self.inside.text.now c.self.inside.at _ _ _ _ _ c.in-Some.ensures.split c.self.invariant.1

pub range-requires-clause-start_le_end : goal.range-requires-clause-start_le_end
range-requires-clause-start_le_end c = value_order c.self.inside.text.now c.self.inside.at _ _ _ _ _ c.in-Some.ensures.split c.self.invariant.1

pub range-requires-clause-start_boundary : goal.range-requires-clause-start_boundary
range-requires-clause-start_boundary c = λ h. value_begins c.self.inside.text.now c.self.inside.at _ _ _ _ _ c.in-Some.ensures.split c.self.invariant.1

pub range-requires-clause-end_boundary : goal.range-requires-clause-end_boundary
range-requires-clause-end_boundary c = value_ends c.self.inside.text.now c.self.inside.at _ _ _ _ _ c.in-Some.ensures.split c.self.invariant.1

pub of-node-requires : goal.of-node-requires
of-node-requires c = value_node c.self.inside.text.now c.self.inside.at _ _ _ _ _ c.in-Some.ensures.split _ c.range.ensures.value c.self.invariant.1

pub invariant_of-self : goal.invariant_of-self
invariant_of-self c = (goes_within c.self.inside.text.now c.self.inside.at _ _ _ _ _ c.in-Some.ensures.split c.self.invariant.1, member_goes c.self.inside.text.now c.self.inside.at _ _ _ _ _ c.in-Some.ensures.split c.self.invariant.1)

pub returns-in-Some-clause-member : goal.returns-in-Some-clause-member
returns-in-Some-clause-member c = member_first c.self.inside.text.now c.self.inside.at _ _ _ _ _ c.in-Some.ensures.split c.args.self.now c.range-name.result.now c.of-node.result c.self.view_is c.range-name.ensures.value (c.of-node.ensures ∙ c.range.ensures.value)

pub returns-in-None-clause-member : goal.returns-in-None-clause-member
returns-in-None-clause-member c = λ items x. (c.in-None.ensures.split items (subst (λ k. Coming k items) (sym c.self.view_is) x), refl)

pub returns-in-Some-clause-shorter : goal.returns-in-Some-clause-shorter
returns-in-Some-clause-shorter c =
    walk_shorter c.self.inside.text.now c.self.inside.at _ c.args.self.now c.self.view_is c.in-Some.ensures.after
    (goes_within c.self.inside.text.now c.self.inside.at _ _ _ _ _ c.in-Some.ensures.split c.self.invariant.1)
