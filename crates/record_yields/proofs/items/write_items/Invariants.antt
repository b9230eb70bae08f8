-- The values before the place stand in the record.
use Rattle.std.specs.Prelude.{◌≡◌, drop, map}
use Rattle.sql_eval.specs.Meaning.{meaning}
use Rattle.record_output.specs.Writing.{HasSettings}
use Rattle.record_yields.specs.Names.{name_at}
use Rattle.record_yields.proofs.Selecting.{Passed}
use Rattle.record_yields.proofs.items.write_items.Given as goal

abbrev pub invariant-bounds : goal.invariant-bounds
invariant-bounds g l = record {
  at : l.k ≡ l.bound-index;
  settings : HasSettings l.fn.out l.out;
  passed : Passed (name_at l.names) (map (meaning (g.R.Row.cells l.row)) l.bounds) (map (meaning (g.R.Row.cells l.row)) (drop l.bound-index l.bounds)) l.k l.out;
}
