use Rattle.std.proofs.Common.{◌≡◌, [], length}
use Rattle.parquet_footer.specs.Groups.{are_leaves}
use Rattle.parquet_footer.specs.Walks.{leaves_by}
use Rattle.parquet_footer.specs.Open.{levels_of}
use Rattle.parquet_footer.proofs.leaves.are_leaves.Given as goal

abbrev pub invariant-loop-left : goal.invariant-loop-left
invariant-loop-left l =
    are_leaves l.chunks (leaves_by [] l.below) ≡ are_leaves l.chunks_left (leaves_by (levels_of [] l.open.items) l.left)

abbrev pub decreases-loop-left : goal.decreases-loop-left
decreases-loop-left l = length l.left
