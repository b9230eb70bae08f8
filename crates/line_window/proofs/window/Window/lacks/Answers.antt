use Rattle.std.proofs.Common.{arith}
use Rattle.line_window.proofs.window.Window.lacks.Goals as goal

pub overflow_add-self-inside : goal.overflow_add-self-inside
overflow_add-self-inside c = omega (arith, c.self.invariant.sound.read)
