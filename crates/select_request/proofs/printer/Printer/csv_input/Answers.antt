use Rattle.select_request.proofs.Parts.{on_ok, adds, adds_last}
use Rattle.select_request.proofs.printer.Printer.csv_input.Goals as goal

pub returns : goal.returns
returns c =
    on_ok c.close.result
    (λ closed.
    adds c.args.self.now _ _ c.in_ok-open.ensures (
    adds c.open.new.self _ _ c.in_ok-truth.ensures (
    adds c.truth.new.self _ _ c.in_ok-character.ensures (
    adds c.character.new.self _ _ c.in_ok-character-2.ensures (
    adds c.character-2.new.self _ _ c.in_ok-header.ensures (
    adds c.header.new.self _ _ c.in_ok-character-3.ensures (
    adds c.character-3.new.self _ _ c.in_ok-character-4.ensures (
    adds c.character-4.new.self _ _ c.in_ok-delimiter.ensures (
    adds_last c.delimiter.new.self _ closed)))))))))
    c.close.ensures
