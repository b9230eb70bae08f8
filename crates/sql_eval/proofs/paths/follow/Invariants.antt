-- The steps that are left lead from here to where all lead from the start.
use Rattle.std.specs.Prelude.{◌≡◌, drop}
use Rattle.sql_eval.specs.Paths.{value_at}
use Rattle.sql_eval.proofs.paths.follow.Given as goal

abbrev pub invariant-steps : goal.invariant-steps
invariant-steps l = value_at (drop l.step-index l.steps) l.out ≡ value_at l.steps l.fn.out
