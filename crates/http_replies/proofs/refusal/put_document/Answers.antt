use Rattle.http_replies.specs.Replies.{document}
use Rattle.http_replies.proofs.Sizes.{five_parts}
use Rattle.http_replies.proofs.refusal.put_document.Goals as goal

pub returns-clause-bytes : goal.returns-clause-bytes
unfolding document
returns-clause-bytes c =
    five_parts _ _ _ _ _ _ _ _ _ _ _ c.put.ensures.bytes c.put-2.ensures.bytes c.put-3.ensures.bytes c.put-4.ensures.bytes c.put-5.ensures.bytes
