use Rattle.std.specs.Prelude.{◌++◌, IsUtf8}
use Rattle.std.proofs.Common.{◌∙◌, ap, subst}
use Rattle.select_request.specs.Printed.{printed}
use Rattle.select_request.proofs.Printing.{spells_printed}
use Rattle.select_request.proofs.Printables.{printable}
use Rattle.select_request.proofs.printer.print.Goals as goal

pub request-requires-clause-input : goal.request-requires-clause-input
request-requires-clause-input c = (printable c.args.request.now c.requires).input

pub request-requires-clause-output : goal.request-requires-clause-output
request-requires-clause-output c = (printable c.args.request.now c.requires).output

pub returns-clause-spells : goal.returns-clause-spells
returns-clause-spells c =
    spells_printed c.finish.result c.args.request.now (subst IsUtf8 c.text.ensures c.text.utf8) c.requires
    (c.finish.ensures ∙ c.in_ok-request.ensures ∙ ap (λ t. t ++ printed c.args.request.now) c.in_ok-printer.ensures)
