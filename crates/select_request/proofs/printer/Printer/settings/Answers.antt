use Rattle.select_request.proofs.Parts.{on_ok, adds, adds_parts, adds_last}
use Rattle.select_request.specs.Printed.{input_parts, output_parts}
use Rattle.select_request.proofs.printer.Printer.settings.Goals as goal

pub returns : goal.returns
returns c =
    on_ok c.close-3.result
    (λ closed.
    adds c.args.self.now _ _ c.in_ok-open.ensures (
    adds c.open.new.self _ _ c.in_ok-truth.ensures (
    adds c.truth.new.self _ _ c.in_ok-close.ensures (
    adds c.close.new.self _ _ c.in_ok-open-2.ensures (
    adds c.open-2.new.self _ _ c.in_ok-leaf.ensures (
    adds_parts c.leaf.new.self (input_parts c.args.request.now.input) _ c.in_ok-input.ensures (
    adds c.input.new.self _ _ c.in_ok-close-2.ensures (
    adds c.close-2.new.self _ _ c.in_ok-open-3.ensures (
    adds_parts c.open-3.new.self (output_parts c.args.request.now.output) _ c.in_ok-output.ensures (
    adds_last c.output.new.self _ closed))))))))))
    c.close-3.ensures
