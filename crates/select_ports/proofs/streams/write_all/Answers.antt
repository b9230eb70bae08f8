use Rattle.std.proofs.Common.{arith, ◌-◌, ◌≤◌, length, length-take, length-drop}
use Rattle.std.proofs.lemmas.Result.{err_from_is_err_and}
use Rattle.select_ports.proofs.Told.{appends-piece, appends-front}
use Rattle.select_ports.proofs.streams.write_all.Goals as goal

pub returns-in_err-done-clause-bytes : goal.returns-in_err-done-clause-bytes
returns-in_err-done-clause-bytes g c =
    let p = err_from_is_err_and c.from_residual.result c.from_residual.ensures.1 in
    rw p.1 (appends-front _ _ _ c.args.bytes.now c.loop-done.done c.loop-done.invariant.1 c.in_err-done.ensures.bytes)

pub loop-done-preserved : goal.loop-done-preserved
loop-done-preserved g c =
    let within : c.in_ok-done.field-0 ≤ length c.args.bytes.now - c.loop-done.done =
    omega (arith, simp (length-take, length-drop) at c.in_ok-done.ensures.within) in (
      omega arith,
      appends-piece _ _ _ c.args.bytes.now c.loop-done.done c.in_ok-done.field-0 within c.loop-done.invariant.1 c.in_ok-done.ensures.bytes,
      omega (arith, c.loop-done.invariant.2, c.in_ok-done.ensures.faults.kept),
    )
