-- The totals before the place stand in the record.
use Rattle.std.specs.Prelude.{◌-◌, drop, map}
use Rattle.sql_totals.specs.Partials.{final}
use Rattle.record_output.specs.Writing.{HasSettings}
use Rattle.record_yields.specs.Names.{name_at}
use Rattle.record_yields.proofs.Selecting.{Passed}
use Rattle.record_yields.proofs.totals.write_totals.Given as goal

abbrev pub invariant-totals : goal.invariant-totals
invariant-totals l = record {
  settings : HasSettings l.fn.out l.out;
  passed : Passed (name_at l.names) (map final l.fn.totals) (map final (drop l.k l.fn.totals)) l.k l.out;
}

abbrev pub decreases-totals : goal.decreases-totals
decreases-totals l = l.count - l.k
