use Rattle.std.proofs.Common.{arith}
use Rattle.line_window.proofs.window.Window.scan.Goals as goal

pub overflow_add-self-inside-else-len-self : goal.overflow_add-self-inside-else-len-self
overflow_add-self-inside-else-len-self c = omega (arith, c.self.invariant.sound.read)
