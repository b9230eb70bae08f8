use Rattle.std.specs.Prelude.{◌++◌}
use Rattle.std.proofs.Common.{◌∙◌, ap}
use Rattle.select_request.specs.Printed.{settings_parts, range_parts}
use Rattle.select_request.proofs.Parts.{on_ok, adds, adds_parts, adds_last, printed_is}
use Rattle.select_request.proofs.printer.Printer.request.Goals as goal

pub returns : goal.returns
returns c =
    let expression = rw c.text.ensures at c.in_ok-leaf.ensures in
    on_ok c.close.result
    (λ closed.
    adds c.args.self.now _ _ c.in_ok-open.ensures (
    adds c.open.new.self _ _ expression (
    adds c.leaf.new.self _ _ c.in_ok-leaf-2.ensures (
    adds_parts c.leaf-2.new.self (settings_parts c.args.request.now) _ c.in_ok-settings.ensures (
    adds_parts c.settings.new.self (range_parts c.args.request.now.range) _ c.in_ok-optional_range.ensures (
    adds_last c.optional_range.new.self _ closed)))))
    ∙ ap (λ t. c.args.self.now ++ t) (printed_is c.args.request.now))
    c.close.ensures
