use Rattle.std.specs.Prelude.{◌≡◌, drop}
use Rattle.select_request.specs.Checks.{first_unmet}
use Rattle.select_request.proofs.checks.first_unmet.Given as goal

abbrev pub invariant-loop-check : goal.invariant-loop-check
invariant-loop-check l = first_unmet l.found (drop l.check-index l.checks) ≡ first_unmet l.found l.checks
