use Rattle.std.proofs.Common.{◌-◌, ◌≤◌, length}
use Rattle.json_text.specs.declared.machine.Mode.TheVariants.{InWord}
use Rattle.json_text.specs.declared.tokens.Taken.{Taken}
use Rattle.json_text.specs.Judged.{Takes}
use Rattle.json_text.proofs.tokens.word_of.Given as goal

abbrev pub invariant-each : goal.invariant-each
invariant-each l = record {
  same : (t : Taken) → Takes t l.bytes (InWord l.left) l.at → Takes t l.bytes (InWord l.fn.letters) l.from;
  after : l.from ≤ l.at;
  within : l.at ≤ length l.bytes;
}

abbrev pub decreases-each : goal.decreases-each
decreases-each l = length l.bytes - l.at
