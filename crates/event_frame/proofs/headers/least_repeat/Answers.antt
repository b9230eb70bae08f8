use Rattle.std.proofs.Common.{◌+◌, sym, ◌∙◌, arith, subst}
use Rattle.event_frame.proofs.HeaderList.{bytes_eq-true, bytes_eq-differs}
use Rattle.event_frame.proofs.HeaderSort.{RepeatSoFar, repeat-yes, repeat-no}
use Rattle.event_frame.proofs.headers.least_repeat.Goals as goal
use Rattle.event_frame.proofs.headers.least_repeat.Goals.{then-eq, else-eq}

pub loop-i-preserved : goal.loop-i-preserved
loop-i-preserved c =
    elim c.if-eq.branch [
      | then-eq w ↦
          repeat-yes _ _ c.args.end c.loop-i.i c.loop-i.least c.if-eq.least c.loop-i.invariant (omega arith) (omega arith)
          (sym c.name_at.ensures ∙ bytes_eq-true _ _ (sym c.eq.ensures ∙ w.if-eq.true) ∙ c.name_at-in-loop-i.ensures) (w.least-is ∙ w.min-least.ensures)
      | else-eq w ↦
          subst (RepeatSoFar c.args.headers.now c.args.places.now c.args.end (c.loop-i.i + 1)) (sym w.least-is)
          (repeat-no _ _ c.args.end c.loop-i.i c.loop-i.least c.loop-i.invariant (omega arith) (omega arith)
          (λ same. bytes_eq-differs _ _ (sym w.if-eq.false ∙ c.eq.ensures) (c.name_at.ensures ∙ same ∙ sym c.name_at-in-loop-i.ensures)))
    ]
