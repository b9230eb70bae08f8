use Rattle.std.proofs.Common.{◌≡◌, ◌≤◌, length}
use Rattle.parquet_runs.specs.Hybrid.{are_there}
use Rattle.parquet_runs.proofs.cursor.are_there.Given as goal

abbrev pub invariant-loop-left : goal.invariant-loop-left
invariant-loop-left l = record {
  there : are_there l.width l.left 0 l.rest ≡ are_there l.width l.count 0 l.bytes;
  few : length l.rest ≤ 4294967295;
}

abbrev pub decreases-loop-left : goal.decreases-loop-left
decreases-loop-left l = length l.rest
