use Rattle.std.specs.Prelude.{◌≡◌, true, false, length}
use Rattle.std.proofs.Common.{sym, ap, ◌∙◌, rules}
use Rattle.select_request.proofs.Finding.{same_is, nothing_left, one_less, left_here, left_later}
use Rattle.request_elements.specs.Elements.{same_element}
use Rattle.select_request.specs.Request.{find, text_at}
use Rattle.select_request.proofs.found.take_text.Goals as goal

pub loop-one-init : goal.loop-one-init
loop-one-init c =
    let given = c.into_iter-one-iterator.ensures.into_iter_gives in
    (given.1 ∙ (search rules) ∙ sym (ap length given.0), ap (find c.args.element) given.0)

pub returns-then-eq : goal.returns-then-eq
returns-then-eq c =
    let same : same_element c.in-Some.one.element c.args.element ≡ true = sym (same_is _ _) ∙ sym c.if-eq.ensures in
    ap text_at (sym (left_here c.args.element _ _ c.in-Some.one c.in-Some.ensures.steps.0 same) ∙ c.loop-one.invariant.1)

pub loop-one-preserved : goal.loop-one-preserved
loop-one-preserved c =
    let other : same_element c.in-Some.one.element c.args.element ≡ false = sym (same_is _ _) ∙ sym c.if-eq.ensures in
    let steps = c.in-Some.ensures.steps in (
      one_less _ _ c.in-Some.one _ _ c.loop-one.invariant.0 steps.0 steps.1,
      sym (left_later c.args.element _ _ c.in-Some.one steps.0 other) ∙ c.loop-one.invariant.1,
    )

pub returns : goal.returns
returns c = ap text_at (sym (nothing_left c.args.element _ _ c.loop-one.invariant.0 c.in-None.ensures.steps.0) ∙ c.loop-one.invariant.1)
