use Rattle.std.proofs.Common.{refl}
use Rattle.select_http.proofs.Sending.{sends_known}
use Rattle.select_http.proofs.answer.answer.Goals as goal

pub returns-in-Err-clause-sends : goal.returns-in-Err-clause-sends
returns-in-Err-clause-sends g c =
    sends_known (g.S.Store.held c.args.store.now) _ _ c.send_refusal.result _ _ (rw c.in-Err.is refl) c.send_refusal.ensures.sent.written
