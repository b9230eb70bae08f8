use Rattle.std.proofs.Common.{◌≡◌, ◌++◌, map, length}
use Rattle.parquet_footer.specs.declared.column.Column.{Column}
use Rattle.parquet_footer.specs.Columns.{chunk_at}
use Rattle.parquet_footer.proofs.group.chunks_of.Given as goal

abbrev pub invariant-loop-left : goal.invariant-loop-left
invariant-loop-left l =
    map (λ (column : Column). chunk_at l.orders.told.now l.orders.leaves l.chunks column.leaf) l.columns ≡ l.made ++ map (λ (column : Column). chunk_at l.orders.told.now l.orders.leaves l.chunks column.leaf) l.left

abbrev pub decreases-loop-left : goal.decreases-loop-left
decreases-loop-left l = length l.left
