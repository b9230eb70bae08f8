-- The first fault from here on is the first of all.
use Rattle.std.specs.Prelude.{◌≡◌, ◌-◌, drop, map, Ok}
use Rattle.record_yields.specs.Projections.{first_fault}
use Rattle.record_yields.proofs.cells.first_fault.Given as goal

abbrev pub invariant-rest : goal.invariant-rest
invariant-rest g l = first_fault (map Ok (drop l.k (g.R.Row.cells l.row))) ≡ first_fault (map Ok (drop l.fn.from (g.R.Row.cells l.row)))

abbrev pub decreases-rest : goal.decreases-rest
decreases-rest g l = l.width - l.k
