-- The cells before the place stand in the record.
use Rattle.std.specs.Prelude.{◌-◌, drop, map, Ok}
use Rattle.record_output.specs.Writing.{HasSettings}
use Rattle.record_yields.specs.Names.{name_at, column_names}
use Rattle.record_yields.proofs.Selecting.{Passed}
use Rattle.record_yields.proofs.cells.write_cells.Given as goal

abbrev pub invariant-cells : goal.invariant-cells
invariant-cells g l = record {
  settings : HasSettings l.fn.out l.out;
  passed : Passed (name_at (column_names l.columns)) (map Ok (g.R.Row.cells l.row)) (map Ok (drop l.k (g.R.Row.cells l.row))) l.k l.out;
}

abbrev pub decreases-cells : goal.decreases-cells
decreases-cells g l = l.width - l.k
