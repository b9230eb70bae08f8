use Rattle.select_ports.proofs.Told.{appends-front-after}
use Rattle.select_http.proofs.Sending.{adds_then}
use Rattle.select_http.proofs.chunked.send_answer.Goals as goal

pub returns-in-Ok-send_chunks-clause-sent : goal.returns-in-Ok-send_chunks-clause-sent
returns-in-Ok-send_chunks-clause-sent g c = λ object tells.
    adds_then _ _ _ _ _ _ c.in-Ok.ensures.sent.written
    (adds_then _ _ _ _ _ _ (c.in-Ok-send_chunks.ensures.sent object tells) c.end_chunks.ensures.sent.written)

pub returns-in-Err-send_chunks-clause-sent : goal.returns-in-Err-send_chunks-clause-sent
returns-in-Err-send_chunks-clause-sent g c = λ object tells.
    appends-front-after _ _ _ _ _ _ c.in-Ok.ensures.sent.written (c.in-Err-send_chunks.ensures.sent object tells)
