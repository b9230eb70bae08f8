use Rattle.std.proofs.Common.{◌≡◌, [], length}
use Rattle.std.specs.List.{list_all}
use Rattle.parquet_footer.specs.Groups.{is_placed}
use Rattle.parquet_footer.specs.Walks.{leaves_by}
use Rattle.parquet_footer.proofs.places.are_placed.Given as goal

abbrev pub invariant-loop-left : goal.invariant-loop-left
invariant-loop-left l =
    list_all (is_placed l.footer (leaves_by [] l.below)) l.groups ≡ list_all (is_placed l.footer (leaves_by [] l.below)) l.left

abbrev pub decreases-loop-left : goal.decreases-loop-left
decreases-loop-left l = length l.left
