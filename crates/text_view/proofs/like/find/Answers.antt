use Rattle.std.proofs.Common.{◌∙◌}
use Rattle.text_view.proofs.Likes.{find_ended, find_over}
use Rattle.text_view.proofs.like.find.Goals as goal

pub returns-in-Some-next-2-clause-told : goal.returns-in-Some-next-2-clause-told
returns-in-Some-next-2-clause-told c =
    c.each.invariant.same ∙ find_over _ _ _ _ c.in_default.ensures.cases c.in-Some-next-2.ensures.value

pub returns-in-None-next-clause-told : goal.returns-in-None-next-clause-told
returns-in-None-next-clause-told c =
    c.each.invariant.same ∙ find_ended _ _ c.in_default.ensures.cases c.in-None-next.ensures.value.0
