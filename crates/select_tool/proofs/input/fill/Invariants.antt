use Rattle.std.proofs.Common.{length, ◌+◌, ◌-◌, ◌≤◌, take}
use Rattle.std.specs.Io.KnownBytes.{Consumes}
use Rattle.select_tool.proofs.input.fill.Given as goal

abbrev pub invariant-loop-len : goal.invariant-loop-len
invariant-loop-len g l = record {
  within : l.len ≤ length l.buffer;
  taken : Consumes (g.I.Source.left l.initial.input) (g.I.Source.left l.input) (take l.len l.buffer);
  count : g.I.Source.taken l.input ≤ g.I.Source.taken l.initial.input + l.len;
  faults : g.I.Source.faults l.initial.input ≤ g.I.Source.faults l.input;
}

abbrev pub decreases-loop-len : goal.decreases-loop-len
decreases-loop-len g l = length l.initial.buffer - l.len
