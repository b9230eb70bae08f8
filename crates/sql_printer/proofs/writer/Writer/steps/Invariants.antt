-- What was written, then the text of the steps that are left, is the text of all.
use Rattle.std.specs.Prelude.{◌≡◌, ◌++◌, drop}
use Rattle.grammar_rules.specs.Spelled.{print_all}
use Rattle.sql_printed.specs.Printed.{step_text}
use Rattle.sql_printer.proofs.writer.Writer.steps.Given as goal

abbrev pub invariant-steps : goal.invariant-steps
invariant-steps l = l.self ++ print_all step_text (drop l.step-index l.steps) ≡ l.fn.self ++ print_all step_text l.steps
