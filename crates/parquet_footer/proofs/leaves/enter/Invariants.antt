use Rattle.std.proofs.Common.{◌≡◌, [], length}
use Rattle.parquet_footer.specs.Walks.{entered}
use Rattle.parquet_footer.specs.Open.{levels_of}
use Rattle.parquet_footer.proofs.leaves.enter.Given as goal

abbrev pub invariant-loop-group : goal.invariant-loop-group
invariant-loop-group l =
    entered (levels_of [] l.initial.open.items) ≡ entered (levels_of [] l.open.items)

abbrev pub decreases-loop-group : goal.decreases-loop-group
decreases-loop-group l = length l.open.items
