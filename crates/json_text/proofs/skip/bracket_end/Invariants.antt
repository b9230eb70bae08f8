use Rattle.std.proofs.Common.{◌≡◌, ◌≤◌, ◌-◌, length, drop}
use Rattle.json_text.specs.Skipped.{skip, outside}
use Rattle.json_text.proofs.skip.bracket_end.Given as goal

abbrev pub invariant-each : goal.invariant-each
invariant-each l = record {
  same : skip l.others outside (drop l.at l.bytes) ≡ skip 0 outside (drop l.from l.bytes);
  after : l.from ≤ l.at;
  within : l.at ≤ length l.bytes;
  few : l.others ≤ l.at;
}

abbrev pub decreases-each : goal.decreases-each
decreases-each l = length l.bytes - l.at
