use Rattle.std.proofs.Common.{refl}
use Rattle.text_view.proofs.Trims.{marked_step}
use Rattle.text_view.proofs.trim.mark.Goals as goal

pub each-preserved : goal.each-preserved
each-preserved c = λ d. marked_step c.each.marks _ _ c.in-Some.c _ d _ c.in-Some.ensures.value c.if-place-marks.false refl (c.each.invariant d)
