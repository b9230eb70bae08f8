use Rattle.std.proofs.Common.{◌≡◌, ◌+◌, refl, arith}
use Rattle.line_window.specs.Buffered.{view_of}
use Rattle.line_window.proofs.KeptLaws.{ahead_len}
use Rattle.line_window.proofs.InsideLaws.{moves_to}
use Rattle.line_window.proofs.StepLaws.{passes}
use Rattle.line_window.proofs.window.Window.pass.Goals as goal

pub returns : goal.returns
returns c =
    let w = c.self.inside in
    let i = c.self.invariant in
    let fits = rw (← c.self.view_is) at c.requires in
    let len = ahead_len (view_of w) i.sound in
    let behind = i.behind in
    let at = moves_to w (w.from + c.args.n) i (omega arith) (omega arith) in
    let place : w.base + (w.from + c.args.n) ≡ w.base + w.from + c.args.n = omega arith in
    rw (← c.self.view_is)
    (passes (view_of w) _ c.args.n _ i.sound (record { size = refl; stop = refl; longest = refl; delimiter = refl }) refl refl place at.place at.kept fits)
