-- The first fault from here on is the first of all.
use Rattle.std.specs.Prelude.{◌≡◌, ◌-◌, drop, map}
use Rattle.sql_totals.specs.Partials.{final}
use Rattle.record_yields.specs.Projections.{first_fault}
use Rattle.record_yields.proofs.totals.first_fault.Given as goal

abbrev pub invariant-rest : goal.invariant-rest
invariant-rest l = first_fault (map final (drop l.k l.fn.totals)) ≡ first_fault (map final (drop l.fn.from l.fn.totals))

abbrev pub decreases-rest : goal.decreases-rest
decreases-rest l = l.count - l.k
