use Rattle.std.proofs.Common.{subst, ◌∙◌}
use Rattle.network_ports.specs.Sent.{SendsAll}
use Rattle.http_replies.proofs.Sending.{chunk_is, sent_front, sent_then}
use Rattle.http_replies.proofs.chunk.send_parts.Goals as goal

pub returns-in-Ok : goal.returns-in-Ok
returns-in-Ok g c =
    subst (SendsAll _ _ c.send_both-in-Ok.result) (chunk_is c.args.bytes.now c.digits.result.now (c.digits.ensures.value ∙ c.of-size.ensures))
    (sent_then _ _ _ _ c.send_both-in-Ok.result _ _ c.in-Ok.ensures c.send_both-in-Ok.ensures)

pub returns-in-Err : goal.returns-in-Err
returns-in-Err g c =
    subst (SendsAll _ _ _) (chunk_is c.args.bytes.now c.digits.result.now (c.digits.ensures.value ∙ c.of-size.ensures))
    (sent_front _ _ _ _ _ c.in-Err.ensures)
