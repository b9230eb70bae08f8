use Rattle.std.proofs.Common.{◌≡◌, ◌≤◌, ◌+◌, length}
use Rattle.parquet_footer.specs.Walks.{leaf_number}
use Rattle.parquet_footer.proofs.schema.leaf_number.Given as goal

abbrev pub invariant-loop-left : goal.invariant-loop-left
invariant-loop-left l =
    (l.number + leaf_number l.left ≡ leaf_number l.elements)
    × (l.number + length l.left ≤ length l.elements)

abbrev pub decreases-loop-left : goal.decreases-loop-left
decreases-loop-left l = length l.left
