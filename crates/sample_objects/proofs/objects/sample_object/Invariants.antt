use Rattle.std.proofs.Common.{◌-◌, ◌≡◌, ◌≤◌, [], ◌++◌}
use Rattle.sample_objects.specs.Objects.{head_of, lines_below}
use Rattle.sample_objects.proofs.objects.sample_object.Given as goal

abbrev pub invariant-loop-next : goal.invariant-loop-next
invariant-loop-next l = record {
  bytes : l.object.items ≡ head_of l.kind ++ lines_below l.kind l.next;
  empty : l.block.bytes ≡ [];
  within : l.next ≤ l.count;
}

abbrev pub decreases-loop-next : goal.decreases-loop-next
decreases-loop-next l = l.count - l.next
