use Rattle.event_frame.proofs.CountsLaws.{left_early}
use Rattle.event_frame.proofs.CountsElement.{no_opening-angle, no_opening-name, spells-spaced, opening-last}
use Rattle.event_frame.proofs.counts_text.read_opening.Goals as goal

pub returns-in_err-after : goal.returns-in_err-after
returns-in_err-after c = left_early _ _ _ c.from_residual.ensures (no_opening-angle _ _ c.in_err-after.ensures)

pub returns-in_err-rest : goal.returns-in_err-rest
returns-in_err-rest c =
    left_early _ _ _ c.from_residual-in_err-rest.ensures
    (no_opening-name _ _ c.in_ok-after.field-0.now c.in_ok-after.ensures c.in_err-rest.ensures)

pub returns-in-Some : goal.returns-in-Some
returns-in-Some c =
    spells-spaced _ _ c.in_ok-after.field-0.now c.in_ok-rest.rest.now c.in-Some.rest.now c.in_ok-after.ensures c.in_ok-rest.ensures c.in-Some.ensures

pub returns : goal.returns
returns c =
    opening-last _ _ c.in_ok-after.field-0.now c.in_ok-rest.rest.now c.after-4.result c.in_ok-after.ensures c.in_ok-rest.ensures
    c.in_default.ensures c.after-4.ensures
