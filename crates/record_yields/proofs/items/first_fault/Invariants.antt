-- The first fault from here on is the first of all.
use Rattle.std.specs.Prelude.{◌≡◌, drop, map}
use Rattle.sql_eval.specs.Meaning.{meaning}
use Rattle.record_yields.specs.Projections.{first_fault}
use Rattle.record_yields.proofs.items.first_fault.Given as goal

abbrev pub invariant-bounds : goal.invariant-bounds
invariant-bounds g l = first_fault (map (meaning (g.R.Row.cells l.row)) (drop l.bound-index l.bounds)) ≡ first_fault (map (meaning (g.R.Row.cells l.row)) l.bounds)
