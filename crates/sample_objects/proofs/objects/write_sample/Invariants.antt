use Rattle.std.proofs.Common.{◌-◌, ◌≡◌, ◌≤◌, [], ◌++◌}
use Rattle.std.specs.Io.KnownBytes.{Appends}
use Rattle.sample_objects.specs.Objects.{head_of, lines_below}
use Rattle.sample_objects.proofs.objects.write_sample.Given as goal

abbrev pub invariant-loop-next : goal.invariant-loop-next
invariant-loop-next g l = record {
  bytes : Appends (g.K.Sink.written l.fn.sink) (g.K.Sink.written l.sink) (head_of l.kind ++ lines_below l.kind l.next);
  empty : l.block.bytes ≡ [];
  within : l.next ≤ l.count;
  faults : g.K.Sink.faults l.fn.sink ≤ g.K.Sink.faults l.sink;
}

abbrev pub decreases-loop-next : goal.decreases-loop-next
decreases-loop-next g l = l.count - l.next
