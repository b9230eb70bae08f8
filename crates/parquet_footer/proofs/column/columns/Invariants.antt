use Rattle.std.proofs.Common.{◌≡◌, ◌≤◌, ◌+◌, ◌++◌, length}
use Rattle.parquet_footer.specs.Walks.{columns_by}
use Rattle.parquet_footer.proofs.ColumnLaws.{AreDue}
use Rattle.parquet_footer.proofs.column.columns.Given as goal

abbrev pub invariant-loop-element : goal.invariant-loop-element
invariant-loop-element l =
    (columns_by l.groups 0 0 l.below ≡ l.columns ++ columns_by l.groups l.leaves l.due l.left)
    × (l.leaves + length l.left ≤ length l.below)
    × AreDue l.due l.left

abbrev pub decreases-loop-element : goal.decreases-loop-element
decreases-loop-element l = length l.left
