use Rattle.event_frame.proofs.CountsLaws.{left_early}
use Rattle.event_frame.proofs.CountsElement.{no_field-number, no_field-behind, spells-field}
use Rattle.event_frame.proofs.counts_text.read_field.Goals as goal

pub returns-in_err-number : goal.returns-in_err-number
returns-in_err-number c = left_early _ _ _ c.from_residual.ensures (no_field-number _ _ c.requires c.in_err-number.ensures)

pub returns-in_err-rest : goal.returns-in_err-rest
returns-in_err-rest c =
    left_early _ _ _ c.from_residual-in_err-rest.ensures
    (no_field-behind _ _ _ c.in_ok-number.number c.requires c.in_ok-number.ensures c.in_err-rest.ensures)

pub returns : goal.returns
returns c = spells-field _ _ _ _ c.in_ok-number.number c.in_ok-number.ensures c.in_ok-rest.ensures
