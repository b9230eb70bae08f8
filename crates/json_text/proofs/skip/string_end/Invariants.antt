use Rattle.std.proofs.Common.{◌≡◌, ◌≤◌, ◌-◌, length, drop, false}
use Rattle.json_text.specs.Skipped.{string_rest}
use Rattle.json_text.proofs.skip.string_end.Given as goal

abbrev pub invariant-each : goal.invariant-each
invariant-each l = record {
  same : string_rest false (drop l.at l.bytes) ≡ string_rest false (drop l.from l.bytes);
  after : l.from ≤ l.at;
  within : l.at ≤ length l.bytes;
}

abbrev pub decreases-each : goal.decreases-each
decreases-each l = length l.bytes - l.at
