use Rattle.std.specs.Prelude.{◌≡◌, drop}
use Rattle.select_request.specs.Request.{find}
use Rattle.select_request.proofs.found.find.Given as goal

abbrev pub invariant-loop-one : goal.invariant-loop-one
invariant-loop-one l = find l.element (drop l.one-index l.found) ≡ find l.element l.found
