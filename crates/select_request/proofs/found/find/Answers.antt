use Rattle.std.specs.Prelude.{◌≡◌, true, false}
use Rattle.std.proofs.Common.{sym, ◌∙◌}
use Rattle.select_request.proofs.Finding.{same_is, find_here, find_later}
use Rattle.request_elements.specs.Elements.{same_element}
use Rattle.select_request.proofs.found.find.Goals as goal

pub returns-then-eq : goal.returns-then-eq
returns-then-eq c =
    let same : same_element c.one-item.result.element c.args.element ≡ true = sym (same_is _ _) ∙ sym c.if-eq.ensures in
    sym (find_here c.args.element c.args.found.now c.loop-one.one-index c.one-item.result c.loop-one-test.true c.one-item.is same) ∙ c.loop-one.invariant

pub loop-one-preserved : goal.loop-one-preserved
loop-one-preserved c =
    let other : same_element c.one-item.result.element c.args.element ≡ false = sym (same_is _ _) ∙ sym c.if-eq.ensures in
    sym (find_later c.args.element c.args.found.now c.loop-one.one-index c.one-item.result c.loop-one-test.true c.one-item.is other) ∙ c.loop-one.invariant
