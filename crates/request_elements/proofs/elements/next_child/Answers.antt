-- The child in sight is taken, or it is free.
use Rattle.std.proofs.Common.{◌∙◌, sym, ap, not}
use Rattle.request_elements.specs.Readers.{free_of, first_child}
use Rattle.request_elements.proofs.ChildLaws.{child_in_sight, free_is, where_free_not, where_free_so}
use Rattle.request_elements.proofs.elements.next_child.Goals as goal

pub returns-then-taken-number : goal.returns-then-taken-number
returns-then-taken-number c =
    where_free_not (free_of c.args.taken.now) (first_child c.args.parent c.args.pieces.now) c.in_ok-child.child
    (child_in_sight c.args.parent c.args.pieces.now c.in_ok-name.name.now c.in_ok-name.ensures ∙ (sym c.child_named.ensures ∙ c.in_ok-child.was))
    (free_is c.args.taken.now c.in_ok-child.child c.number.result c.number.ensures.value ∙ ap not c.if-taken-number.true)

pub returns-else-taken-number : goal.returns-else-taken-number
returns-else-taken-number c =
    where_free_so (free_of c.args.taken.now) (first_child c.args.parent c.args.pieces.now) c.in_ok-child.child
    (child_in_sight c.args.parent c.args.pieces.now c.in_ok-name.name.now c.in_ok-name.ensures ∙ (sym c.child_named.ensures ∙ c.in_ok-child.was))
    (free_is c.args.taken.now c.in_ok-child.child c.number.result c.number.ensures.value ∙ ap not c.if-taken-number.false)
