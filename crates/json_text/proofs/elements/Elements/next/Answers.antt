use Rattle.std.proofs.Common.{sym, subst, ◌∙◌, refl}
use Rattle.json_text.specs.Walks.{Ahead}
use Rattle.json_text.proofs.Walking.{part_order, part_begins, part_ends, part_node, part_within, part_goes, part_first, walk_shorter}
use Rattle.json_text.proofs.elements.Elements.next.Goals as goal

pub range-requires-clause-start_le_end : goal.range-requires-clause-start_le_end
range-requires-clause-start_le_end c =
    part_order c.self.inside.text.now c.self.inside.at _ _ _ (rw c.as_bytes.ensures.value at c.in-Some.ensures.split) c.self.invariant.1

pub range-requires-clause-start_boundary : goal.range-requires-clause-start_boundary
range-requires-clause-start_boundary c =
    λ h. part_begins c.self.inside.text.now c.self.inside.at _ _ _ (rw c.as_bytes.ensures.value at c.in-Some.ensures.split) c.self.invariant.1

pub range-requires-clause-end_boundary : goal.range-requires-clause-end_boundary
range-requires-clause-end_boundary c =
    part_ends c.self.inside.text.now c.self.inside.at _ _ _ (rw c.as_bytes.ensures.value at c.in-Some.ensures.split) c.self.invariant.1

pub of-node-requires : goal.of-node-requires
of-node-requires c =
    part_node c.self.inside.text.now c.self.inside.at _ _ _ (rw c.as_bytes.ensures.value at c.in-Some.ensures.split) _ c.range.ensures.value c.self.invariant.1

pub invariant_of-self : goal.invariant_of-self
invariant_of-self c =
    let f = rw c.as_bytes.ensures.value at c.in-Some.ensures.split in
    (part_within c.self.inside.text.now c.self.inside.at _ _ _ f c.self.invariant.1, part_goes c.self.inside.text.now c.self.inside.at _ _ _ f c.self.invariant.1)

pub returns-in-Some-clause-element : goal.returns-in-Some-clause-element
returns-in-Some-clause-element c =
    part_first c.self.inside.text.now c.self.inside.at _ _ _ (rw c.as_bytes.ensures.value at c.in-Some.ensures.split) c.args.self.now c.of-node.result c.self.view_is (c.of-node.ensures ∙ c.range.ensures.value)

pub returns-in-None-clause-element : goal.returns-in-None-clause-element
returns-in-None-clause-element c =
    λ items x. ((rw c.as_bytes.ensures.value at c.in-None.ensures.split) items (subst (λ k. Ahead k items) (sym c.self.view_is) x), refl)

pub returns-in-Some-clause-shorter : goal.returns-in-Some-clause-shorter
returns-in-Some-clause-shorter c =
    walk_shorter c.self.inside.text.now c.self.inside.at _ c.args.self.now c.self.view_is c.in-Some.ensures.after
    (part_within c.self.inside.text.now c.self.inside.at _ _ _ (rw c.as_bytes.ensures.value at c.in-Some.ensures.split) c.self.invariant.1)
