use Rattle.std.proofs.Common.{arith, ◌-◌, ◌≤◌, length, length-take, length-drop}
use Rattle.std.proofs.lemmas.Result.{err_from_is_err_and}
use Rattle.network_ports.proofs.Sending.{sent_all, sent_failed, sent_more, sent_nothing}
use Rattle.network_ports.proofs.send.send_all.Goals as goal

pub loop-done-init : goal.loop-done-init
loop-done-init g c = (omega arith, sent_nothing _)

pub returns-in_err-done : goal.returns-in_err-done
returns-in_err-done g c =
    let p = err_from_is_err_and c.from_residual.result c.from_residual.ensures.1 in
    rw p.1 (sent_failed _ _ _ c.args.bytes.now _ c.loop-done.done _ _ c.loop-done.invariant.1 c.in_err-done.ensures.seen)

pub loop-done-preserved : goal.loop-done-preserved
loop-done-preserved g c =
    let within : c.in_ok-done.field-0 ≤ length c.args.bytes.now - c.loop-done.done =
    omega (arith, simp (length-take, length-drop) at c.in_ok-done.ensures.within) in (
      omega arith,
      sent_more _ _ _ c.args.bytes.now c.loop-done.done c.in_ok-done.field-0 within c.loop-done.invariant.1 c.in_ok-done.ensures.seen,
    )

pub returns : goal.returns
returns g c = sent_all _ _ c.args.bytes.now c.loop-done.done _ c.loop-done-test.false c.loop-done.invariant.1
