use Rattle.std.proofs.Common.{◌≡◌, ◌++◌, length}
use Rattle.parquet_footer.specs.Columns.{groups_of}
use Rattle.parquet_footer.proofs.group.groups_of.Given as goal

abbrev pub invariant-loop-left : goal.invariant-loop-left
invariant-loop-left l =
    groups_of l.columns l.orders.told.now l.orders.leaves l.groups ≡ l.made ++ groups_of l.columns l.orders.told.now l.orders.leaves l.left

abbrev pub decreases-loop-left : goal.decreases-loop-left
decreases-loop-left l = length l.left
