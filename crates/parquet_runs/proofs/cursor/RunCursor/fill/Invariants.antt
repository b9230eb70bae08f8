use Rattle.std.proofs.Common.{◌≡◌, ◌-◌, length}
use Rattle.parquet_runs.specs.Cursors.{numbers_left, IsReady}
use Rattle.parquet_runs.proofs.cursor.RunCursor.fill.Given as goal

abbrev pub invariant-loop-self : goal.invariant-loop-self
invariant-loop-self l = record {
  numbers : numbers_left l.self l.bytes ≡ numbers_left l.fn.self l.bytes;
  ready : IsReady l.self l.bytes;
}

abbrev pub decreases-loop-self : goal.decreases-loop-self
decreases-loop-self l = length l.bytes - l.self.at
