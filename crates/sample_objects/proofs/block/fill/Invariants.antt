use Rattle.std.proofs.Common.{◌-◌, ◌≡◌, ◌≤◌, [], ◌++◌}
use Rattle.sample_objects.specs.Objects.{lines_below}
use Rattle.sample_objects.proofs.block.fill.Given as goal

abbrev pub invariant-loop-next : goal.invariant-loop-next
invariant-loop-next l = record {
  lines : lines_below l.kind l.next ≡ lines_below l.kind l.first ++ l.block.bytes;
  some : l.next ≡ l.first → l.block.bytes ≡ [];
  from : l.first ≤ l.next;
  within : l.next ≤ l.count;
}

abbrev pub decreases-loop-next : goal.decreases-loop-next
decreases-loop-next l = l.count - l.next
