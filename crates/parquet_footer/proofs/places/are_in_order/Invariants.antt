use Rattle.std.proofs.Common.{◌≡◌, map, length}
use Rattle.parquet_footer.specs.Groups.{rises, kept, group_start}
use Rattle.parquet_footer.proofs.places.are_in_order.Given as goal

abbrev pub invariant-loop-left : goal.invariant-loop-left
invariant-loop-left l =
    rises 0 (map group_start (kept l.groups)) ≡ rises l.least (map group_start (kept l.left))

abbrev pub decreases-loop-left : goal.decreases-loop-left
decreases-loop-left l = length l.left
