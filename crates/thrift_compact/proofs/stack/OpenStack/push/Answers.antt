use Rattle.std.proofs.Common.{◌<◌, length, arith}
use Rattle.thrift_compact.proofs.StackLemmas.{stack_push, stack_len}
use Rattle.thrift_compact.proofs.stack.OpenStack.push.Goals as goal

pub returns : goal.returns
returns c =
    let len = rw (← c.self.view_is, stack_len c.self.inside.frames c.self.inside.len) at c.requires in
    let room : c.self.inside.len < length c.self.inside.frames = omega (arith, c.self.invariant.1, len) in
    rw (stack_push c.self.inside.frames c.self.inside.len c.args.frame room, c.self.view_is)
