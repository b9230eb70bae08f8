use Rattle.std.proofs.Common.{◌≡◌, ◌≤◌, ◌-◌, [], drop, length}
use Rattle.json_text.specs.Machine.{verdict}
use Rattle.json_text.specs.Judged.{mode_of}
use Rattle.json_text.specs.declared.machine.Mode.TheVariants.{ValueDue}
use Rattle.json_text.proofs.judge.judge.Given as goal

abbrev pub invariant-each : goal.invariant-each
invariant-each l = record {
  same : verdict (drop l.at l.bytes) (mode_of l.due) l.nest l.at ≡ verdict l.bytes ValueDue [] 0;
  within : l.at ≤ length l.bytes;
}

abbrev pub decreases-each : goal.decreases-each
decreases-each l = length l.bytes - l.at
