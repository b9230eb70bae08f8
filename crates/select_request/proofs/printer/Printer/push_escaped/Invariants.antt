use Rattle.std.specs.Prelude.{◌≡◌, ◌++◌, length}
use denote.Text.{Utf8}
use denote.Shadow.{shadow}
use Rattle.select_request.specs.Printed.{escaped}
use Rattle.select_request.proofs.printer.Printer.push_escaped.Given as goal

abbrev pub invariant-loop-front : goal.invariant-loop-front
invariant-loop-front l = shadow (Utf8 l.rest) × (l.self ++ escaped l.rest ≡ l.fn.self ++ escaped l.text)

abbrev pub decreases-loop-front : goal.decreases-loop-front
decreases-loop-front l = length l.rest
