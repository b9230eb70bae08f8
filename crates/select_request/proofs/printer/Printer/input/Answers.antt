use Rattle.select_request.proofs.printer.Printer.input.Goals as goal

pub returns-in-JsonDocument : goal.returns-in-JsonDocument
returns-in-JsonDocument c = rw c.in-JsonDocument.is c.json_input-in-JsonDocument.ensures
