use Rattle.text_view.proofs.Likes.{like_end_seek}
use Rattle.text_view.proofs.like.seek.Goals as goal

pub returns-clause-same : goal.returns-clause-same
returns-clause-same c =
    let first = rw c.in-Some-Char.field-0-is at c.in-Some-Char.ensures.value in
    rw (c.plain.ensures.value, c.range_from.ensures.value, c.in-Some.ensures.0)
    (like_end_seek _ c.in-Some-Char.wanted _ _ first c.place_of-place.ensures.utf8 c.place_of-place.ensures.own)
