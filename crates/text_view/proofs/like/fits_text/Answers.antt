use Rattle.std.proofs.Common.{sym, ◌∙◌}
use Rattle.text_view.proofs.Likes.{find_nothing, find_end, find_any}
use Rattle.text_view.proofs.like.fits_text.Goals as goal

pub returns-in-Nothing : goal.returns-in-Nothing
returns-in-Nothing c = sym (find_nothing _ _ c.in-Nothing.ensures.told)

pub returns-in-End : goal.returns-in-End
returns-in-End c = sym (find_end _ _ c.in-End.ensures.told)

pub returns-in-Behind : goal.returns-in-Behind
returns-in-Behind c = c.fits_end.ensures ∙ sym (find_any _ _ _ _ c.in-Behind.ensures.told)
