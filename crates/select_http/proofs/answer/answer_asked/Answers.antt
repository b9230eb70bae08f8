use Rattle.std.proofs.Common.{refl}
use Rattle.select_http.proofs.Sending.{sends_known}
use Rattle.select_http.proofs.answer.answer_asked.Goals as goal

pub returns-in-Refused-clause-sends : goal.returns-in-Refused-clause-sends
returns-in-Refused-clause-sends g c =
    sends_known (g.S.Store.held c.args.store.now) _ _ c.send_fault.result _ _ (rw c.in-Refused.is refl) c.send_fault.ensures.sent.written
