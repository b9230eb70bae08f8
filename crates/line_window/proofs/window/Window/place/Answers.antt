use Rattle.std.proofs.Common.{arith}
use Rattle.line_window.proofs.window.Window.place.Goals as goal

pub overflow_add-result : goal.overflow_add-result
overflow_add-result c = omega (arith, c.self.invariant.sound.here)
