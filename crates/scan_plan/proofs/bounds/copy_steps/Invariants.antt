-- What was copied, then what is left, is all.
use Rattle.std.specs.Prelude.{◌≡◌, ◌++◌, drop}
use Rattle.scan_plan.proofs.bounds.copy_steps.Given as goal

abbrev pub invariant-steps : goal.invariant-steps
invariant-steps l = l.copies ++ drop l.step-index l.steps ≡ l.steps
