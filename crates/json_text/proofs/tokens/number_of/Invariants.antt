use Rattle.std.proofs.Common.{◌-◌, ◌≤◌, length}
use Rattle.json_text.specs.declared.machine.Mode.TheVariants.{InNumber}
use Rattle.json_text.specs.declared.tokens.Taken.{Taken}
use Rattle.json_text.specs.Judged.{Takes}
use Rattle.json_text.proofs.tokens.number_of.Given as goal

abbrev pub invariant-each : goal.invariant-each
invariant-each l = record {
  same : (t : Taken) → Takes t l.bytes (InNumber l.read) l.at → Takes t l.bytes (InNumber l.fn.digits) l.from;
  after : l.from ≤ l.at;
  within : l.at ≤ length l.bytes;
}

abbrev pub decreases-each : goal.decreases-each
decreases-each l = length l.bytes - l.at
