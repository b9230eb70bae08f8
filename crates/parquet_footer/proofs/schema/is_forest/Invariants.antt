use Rattle.std.proofs.Common.{◌≡◌, ◌≤◌, length}
use Rattle.parquet_footer.specs.Walks.{is_forest}
use Rattle.parquet_footer.proofs.schema.is_forest.Given as goal

abbrev pub invariant-loop-left : goal.invariant-loop-left
invariant-loop-left l =
    (is_forest l.fn.count l.elements ≡ is_forest l.due l.left) × (length l.left ≤ length l.elements)

abbrev pub decreases-loop-left : goal.decreases-loop-left
decreases-loop-left l = length l.left
