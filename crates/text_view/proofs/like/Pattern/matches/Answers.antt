use Rattle.text_view.proofs.Likes.{like_decides}
use Rattle.text_view.proofs.like.Pattern.matches.Goals as goal

pub returns-in-None : goal.returns-in-None
returns-in-None c =
    let test = rw (c.as_slice.ensures.value, c.self.view_is, c.cursor.ensures.value) at c.fits_text.ensures in
    like_decides _ _ _ test
