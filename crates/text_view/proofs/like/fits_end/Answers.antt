use Rattle.std.proofs.Common.{sym, ◌∙◌}
use Rattle.text_view.proofs.Likes.{end_found, find_any_end, nothing_left, nothing_here, none_wanted}
use Rattle.text_view.proofs.like.fits_end.Goals as goal

pub returns-in-End : goal.returns-in-End
returns-in-End c = sym (end_found _ _ c.in-End.ensures.told) ∙ c.seek-rest.ensures.same ∙ c.each.invariant

pub each-preserved-in-Behind : goal.each-preserved-in-Behind
each-preserved-in-Behind c = sym (find_any_end _ _ _ _ c.in-Behind.ensures.told) ∙ c.seek-rest.ensures.same ∙ c.each.invariant

pub returns-in-None : goal.returns-in-None
returns-in-None c = sym (nothing_left _ _ c.in-Nothing.ensures.told c.in-None.ensures.value.0) ∙ c.seek-rest.ensures.same ∙ c.each.invariant

pub each-preserved : goal.each-preserved
each-preserved c = sym (nothing_here _ _ _ _ c.in-Nothing.ensures.told c.in-Some.ensures.value) ∙ c.seek-rest.ensures.same ∙ c.each.invariant

pub returns : goal.returns
returns c = sym (none_wanted _ _ c.each-test.ensures) ∙ c.each.invariant
