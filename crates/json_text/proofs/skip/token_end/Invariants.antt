use Rattle.std.proofs.Common.{◌≡◌, ◌≤◌, ◌-◌, length, drop}
use Rattle.json_text.specs.Skipped.{token_rest}
use Rattle.json_text.proofs.skip.token_end.Given as goal

abbrev pub invariant-each : goal.invariant-each
invariant-each l = record {
  same : token_rest (drop l.at l.bytes) ≡ token_rest (drop l.from l.bytes);
  after : l.from ≤ l.at;
  within : l.at ≤ length l.bytes;
}

abbrev pub decreases-each : goal.decreases-each
decreases-each l = length l.bytes - l.at
