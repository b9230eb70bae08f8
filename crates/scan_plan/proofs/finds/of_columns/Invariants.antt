-- What was added, then what is left, is each column.
use Rattle.std.specs.Prelude.{◌≡◌, ◌++◌, drop}
use Rattle.scan_plan.specs.Finds.{each_column}
use Rattle.scan_plan.proofs.finds.of_columns.Given as goal

abbrev pub invariant-columns : goal.invariant-columns
invariant-columns l = (l.place ≡ l.column-index) × (l.finds ++ each_column l.place (drop l.column-index l.columns) ≡ l.fn.finds ++ each_column 0 l.columns)
