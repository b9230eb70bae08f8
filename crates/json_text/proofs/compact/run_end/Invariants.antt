use Rattle.std.proofs.Common.{◌≤◌, ◌-◌, length}
use Rattle.json_text.proofs.Squeezing.{Passed}
use Rattle.json_text.proofs.compact.run_end.Given as goal

abbrev pub invariant-each : goal.invariant-each
invariant-each l = record {
  same : Passed l.bytes l.from l.at;
  after : l.from ≤ l.at;
  within : l.at ≤ length l.bytes;
}

abbrev pub decreases-each : goal.decreases-each
decreases-each l = length l.bytes - l.at
