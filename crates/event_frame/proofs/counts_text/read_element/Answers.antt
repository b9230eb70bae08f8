use Rattle.event_frame.proofs.CountsLaws.{left_early}
use Rattle.event_frame.proofs.CountsElement.{no_element-opening, no_element-scanned, no_element-processed, no_element-returned, no_element-name, no_element-end, reads-element}
use Rattle.event_frame.proofs.HeaderList.{bytes_eq-true, bytes_eq-differs}
use Rattle.std.proofs.Common.{sym}
use Rattle.event_frame.proofs.counts_text.read_element.Goals as goal

pub returns-in_err-rest : goal.returns-in_err-rest
returns-in_err-rest c = left_early _ _ _ c.from_residual.ensures (no_element-opening _ _ c.in_err-rest.ensures)

pub returns-in_err-scanned : goal.returns-in_err-scanned
returns-in_err-scanned c =
    left_early _ _ _ c.from_residual-in_err-scanned.ensures
    (no_element-scanned _ _ c.in_ok-rest.rest.now c.in_ok-rest.ensures c.in_err-scanned.ensures)

pub returns-in_err-processed : goal.returns-in_err-processed
returns-in_err-processed c =
    left_early _ _ _ c.from_residual-in_err-processed.ensures
    (no_element-processed _ _ c.in_ok-rest.rest.now c.in_ok-scanned.rest.now c.in_ok-scanned.scanned c.in_ok-rest.ensures c.in_ok-scanned.ensures
    c.in_err-processed.ensures)

pub returns-in_err-returned : goal.returns-in_err-returned
returns-in_err-returned c =
    left_early _ _ _ c.from_residual-in_err-returned.ensures
    (no_element-returned _ _ c.in_ok-rest.rest.now c.in_ok-scanned.rest.now c.in_ok-processed.rest.now c.in_ok-scanned.scanned c.in_ok-processed.processed
    c.in_ok-rest.ensures c.in_ok-scanned.ensures c.in_ok-processed.ensures c.in_err-returned.ensures)

pub returns-in_err-rest-2 : goal.returns-in_err-rest-2
returns-in_err-rest-2 c =
    left_early _ _ _ c.from_residual-in_err-rest-2.ensures
    (no_element-name _ _ c.in_ok-rest.rest.now c.in_ok-scanned.rest.now c.in_ok-processed.rest.now c.in_ok-returned.rest.now c.in_ok-scanned.scanned
    c.in_ok-processed.processed c.in_ok-returned.returned c.in_ok-rest.ensures c.in_ok-scanned.ensures c.in_ok-processed.ensures
    c.in_ok-returned.ensures c.in_err-rest-2.ensures)

pub returns-else-eq : goal.returns-else-eq
returns-else-eq c =
    no_element-end _ _ c.in_ok-rest.rest.now c.in_ok-scanned.rest.now c.in_ok-processed.rest.now c.in_ok-returned.rest.now c.in_ok-rest-2.rest.now
    c.in_ok-scanned.scanned c.in_ok-processed.processed c.in_ok-returned.returned c.in_ok-rest.ensures c.in_ok-scanned.ensures
    c.in_ok-processed.ensures c.in_ok-returned.ensures c.in_ok-rest-2.ensures (bytes_eq-differs _ _ c.if-eq.ensures)

pub returns-then-eq : goal.returns-then-eq
returns-then-eq c =
    reads-element _ _ c.in_ok-rest.rest.now c.in_ok-scanned.rest.now c.in_ok-processed.rest.now c.in_ok-returned.rest.now c.in_ok-rest-2.rest.now _
    c.in_ok-rest.ensures c.in_ok-scanned.ensures c.in_ok-processed.ensures c.in_ok-returned.ensures c.in_ok-rest-2.ensures (bytes_eq-true _ _ (sym c.if-eq.ensures))
