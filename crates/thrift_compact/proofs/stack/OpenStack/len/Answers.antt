use Rattle.thrift_compact.proofs.StackLemmas.{stack_len}
use Rattle.thrift_compact.proofs.stack.OpenStack.len.Goals as goal

pub returns-clause-len : goal.returns-clause-len
returns-clause-len c = rw (← c.self.view_is, stack_len c.self.inside.frames c.self.inside.len)
