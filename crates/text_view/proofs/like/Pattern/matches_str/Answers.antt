use Rattle.text_view.proofs.Likes.{like_decides}
use Rattle.text_view.proofs.like.Pattern.matches_str.Goals as goal

pub returns : goal.returns
returns c =
    let test = rw (c.as_slice.ensures.value, c.self.view_is) at c.fits_str.ensures in
    like_decides _ _ _ test
