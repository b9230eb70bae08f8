-- The root stands behind a declaration and blanks, and blanks behind it.
use Rattle.std.proofs.Common.{◌∙◌, ap}
use Rattle.std.proofs.lemmas.Result.{err_from_is_err_and}
use Rattle.request_elements.specs.declared.element.Element.TheVariants.{Request}
use Rattle.request_elements.specs.Readers.{behind_blanks, read_element, read_body, onto}
use Rattle.request_elements.proofs.ReaderSteps.{fails_on, document_reads, document_fails}
use Rattle.request_elements.proofs.elements.document.Goals as goal

pub returns-in_err-element : goal.returns-in_err-element
returns-in_err-element c =
    let p = err_from_is_err_and c.from_residual.result c.from_residual.ensures.1 in
    let at = c.skip_blanks.ensures ∙ ap behind_blanks c.skip_declaration.ensures in
    rw (p.1, p.2)
    (fails_on (Unit {0}) (onto c.args.found.now.items (read_element 3 Request c.skip_blanks.new.pieces)) (onto c.args.found.now.items (read_body c.args.pieces.now)) c.in_err-element.field-0.0 c.element.new.found.items c.element.new.found.items c.element.new.pieces
    (λ h. document_fails c.args.found.now.items c.args.pieces.now c.element.new.pieces (rw at at h))
    c.in_err-element.ensures)

pub returns : goal.returns
returns c =
    let at = c.skip_blanks.ensures ∙ ap behind_blanks c.skip_declaration.ensures in
    rw c.skip_blanks-2.ensures (document_reads c.args.found.now.items c.args.pieces.now c.element.new.found.items c.element.new.pieces (rw at at c.in_ok-element.ensures))
