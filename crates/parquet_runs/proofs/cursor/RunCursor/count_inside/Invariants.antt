use Rattle.std.proofs.Common.{◌≡◌, ◌≤◌, ◌+◌}
use Rattle.parquet_runs.specs.Hybrid.{count_from}
use Rattle.parquet_runs.specs.Cursors.{numbers_left, IsReady}
use Rattle.parquet_runs.proofs.cursor.RunCursor.count_inside.Given as goal

abbrev pub invariant-loop-self : goal.invariant-loop-self
invariant-loop-self l = record {
  count : count_from l.least (numbers_left l.fn.self l.bytes) ≡ l.count + count_from l.least (numbers_left l.self l.bytes);
  ready : IsReady l.self l.bytes;
  few : l.count + l.self.inside ≤ l.fn.self.inside;
  behind : l.self.behind ≡ l.fn.self.behind;
  at : l.self.at ≡ l.fn.self.at;
}

abbrev pub decreases-loop-self : goal.decreases-loop-self
decreases-loop-self l = l.self.inside
