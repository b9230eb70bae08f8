use Rattle.std.proofs.Common.{◌≡◌, ◌≤◌, length, take, sym, ap, ◌∙◌, subst, arith}
use Rattle.std.proofs.lemmas.List.{length-take-le}
use Rattle.byte_masks.specs.Walks.{IsFirst, StandsAt}
use Rattle.line_window.specs.Spelled.{spelled}
use Rattle.line_window.proofs.DelimiterLaws.{one_byte}
use Rattle.line_window.proofs.InsideLaws.{end_ahead}
use Rattle.line_window.proofs.window.Window.next_end.Goals as goal

pub returns-clause-first : goal.returns-clause-first
returns-clause-first c =
    let w = c.self.inside in
    let i = c.self.invariant in
    let near = rw (← c.self.view_is) at c.requires.near in
    let one = rw (← c.self.view_is) at c.requires.one in
    let read : w.from ≤ w.end = omega (arith, near.read) in
    let shown : take w.end c.deref.result.now ≡ take w.end w.buffer.items = ap (take w.end) c.deref.ensures.value in
    let long : length (take w.end w.buffer.items) ≡ w.end = length-take-le w.end w.buffer.items i.within in
    let stands : StandsAt c.walk_to.new.walk (take w.end w.buffer.items) w.from = c.walk_to.ensures.stands _ (omega arith) i.walk in
    let stood : StandsAt c.walk_to.new.walk (take w.end c.deref.result.now) w.from = subst (λ l. StandsAt c.walk_to.new.walk l w.from) (sym shown) stands in
    let given = c.in-Some.ensures.first w.from stood in
    rw (← c.self.view_is) (end_ahead w c.walk_to.new.walk.byte c.in-Some.at i read (one_byte (spelled w.delimiter) _ one (c.walk_to.ensures.byte ∙ i.byte))
    (subst (λ l. IsFirst c.walk_to.new.walk.byte l w.from c.in-Some.at) shown given.0))
