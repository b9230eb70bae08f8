use Rattle.line_window.proofs.InsideLaws.{ahead_slice}
use Rattle.line_window.proofs.window.Window.bytes_ahead.Goals as goal

pub returns-clause-value : goal.returns-clause-value
returns-clause-value c = rw (← c.self.view_is) (ahead_slice c.self.inside c.deref.result.now c.min.result c.self.invariant c.deref.ensures.value c.min.ensures)
