use Rattle.std.proofs.Common.{◌≡◌, ◌≤◌, length}
use Rattle.thrift_compact.specs.Opens.{ended}
use Rattle.thrift_compact.proofs.stack.OpenStack.end_value.Given as goal

abbrev pub invariant-loop-kind : goal.invariant-loop-kind
invariant-loop-kind l =
    (ended l.self ≡ ended l.initial.self) × (length l.self ≤ length l.initial.self)

abbrev pub decreases-loop-kind : goal.decreases-loop-kind
decreases-loop-kind l = length l.self
