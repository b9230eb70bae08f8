use Rattle.std.proofs.Common.{◌≡◌, ◌+◌, ◌-◌, ◌≤◌, length, drop, ap, subst, arith}
use Rattle.line_window.specs.Delimiters.{StandsAt}
use Rattle.line_window.specs.Spelled.{spelled}
use Rattle.line_window.specs.Buffered.{view_of}
use Rattle.line_window.specs.Sliding.{View, kept_from}
use Rattle.line_window.proofs.DelimiterLaws.{width, stands_of_front, stands_of_behind}
use Rattle.line_window.proofs.StartLaws.{start_behind}
use Rattle.line_window.proofs.KeptLaws.{stands_kept}
use Rattle.line_window.proofs.InsideLaws.{kept_place}
use Rattle.line_window.proofs.window.Window.is_at_start.Goals as goal

pub returns : goal.returns
returns c = λ is.
    let w = c.self.inside in
    let i = c.self.invariant in
    let d = spelled w.delimiter in
    let seen = c.is_before.ensures is in
    let range = ap (λ (v : View). v.stop) c.self.view_is in
    let place = ap (λ (v : View). v.place) c.self.view_is in
    let upto = ap (λ (v : View). v.upto) c.self.view_is in
    let near = c.requires.range in
    let read = c.requires.read in
    let room : length d ≤ w.from = seen.0 in
    let some = (width d i.sound.delimiter).0 in
    let at : w.from - length d ≡ (w.from - length d) + 0 = omega arith in
    let here : StandsAt d w.buffer.items (w.from - length d) = subst (λ l. StandsAt d l (w.from - length d)) c.deref.ensures.value seen.1 in
    let rest : StandsAt d (drop (w.from - length d) w.buffer.items) 0 =
    stands_of_behind d w.buffer.items (w.from - length d) 0 (subst (StandsAt d w.buffer.items) at here) in
    let kept : StandsAt d (view_of w).kept 0 =
    stands_of_front d (drop (w.from - length d) w.buffer.items) (w.end - (w.from - length d)) 0 (omega arith) rest in
    rw (← c.self.view_is) (λ object h.
    let size = h.size in
    let stop = i.sound.range in
    let first = kept_place w i in
    let back : kept_from (view_of w) + 0 ≡ w.base + w.from - length d = omega arith in
    start_behind d object (w.base + w.from) (omega arith) (omega arith)
    (subst (StandsAt d object) back (stands_kept object d (view_of w) 0 h some kept)))
