use Rattle.std.proofs.Common.{◌≡◌, ◌≤◌, ◌+◌, ◌-◌, length}
use Rattle.parquet_runs.specs.Hybrid.{count_from}
use Rattle.parquet_runs.specs.Cursors.{numbers_left, IsReady}
use Rattle.parquet_runs.proofs.cursor.RunCursor.count_from.Given as goal

abbrev pub invariant-loop-cursor : goal.invariant-loop-cursor
invariant-loop-cursor l = record {
  count : count_from l.least (numbers_left l.self l.bytes) ≡ l.count + count_from l.least (numbers_left l.cursor l.bytes);
  ready : IsReady l.cursor l.bytes;
  none : l.cursor.inside ≡ 0;
  few : l.count + l.cursor.behind ≤ l.self.inside + l.self.behind;
  many : l.self.inside + l.self.behind ≤ 4294967295;
}

abbrev pub decreases-loop-cursor : goal.decreases-loop-cursor
decreases-loop-cursor l = length l.bytes - l.cursor.at
