use Rattle.thrift_compact.proofs.StackLemmas.{stack_len}
use Rattle.thrift_compact.proofs.stack.OpenStack.top.Goals as goal

pub returns-else-self-eq0-clause-bound : goal.returns-else-self-eq0-clause-bound
returns-else-self-eq0-clause-bound c =
    rw (← c.self.view_is, stack_len c.self.inside.frames c.self.inside.len) c.self.invariant.0
