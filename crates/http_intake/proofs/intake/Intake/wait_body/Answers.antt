use Rattle.std.proofs.lemmas.Result.{err_from_is_err_and}
use Rattle.http_intake.proofs.Reading.{halts_after}
use Rattle.http_intake.proofs.intake.Intake.wait_body.Goals as goal

pub returns-in_err-fill-clause-err : goal.returns-in_err-fill-clause-err
returns-in_err-fill-clause-err g c =
    let p = err_from_is_err_and c.from_residual.result c.from_residual.ensures.1 in
    rw (p.1, p.2)
    (halts_after _ _ _ c.args.self.now.kept.items c.loop-self.self.kept.items c.fill.new.kept.items c.in_err-fill.field-0.0 c.loop-self.invariant.0
    c.in_err-fill.ensures.err)
