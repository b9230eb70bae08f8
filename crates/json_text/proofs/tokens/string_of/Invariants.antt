use Rattle.std.proofs.Common.{◌-◌, ◌≤◌, length}
use Rattle.json_text.specs.declared.tokens.StringEnd.{StringEnd}
use Rattle.json_text.specs.Judged.{Closes}
use Rattle.json_text.proofs.tokens.string_of.Given as goal

abbrev pub invariant-each : goal.invariant-each
invariant-each l = record {
  same : (e : StringEnd) → Closes l.bytes l.read l.at e → Closes l.bytes l.fn.part l.from e;
  after : l.from ≤ l.at;
  within : l.at ≤ length l.bytes;
}

abbrev pub decreases-each : goal.decreases-each
decreases-each l = length l.bytes - l.at
