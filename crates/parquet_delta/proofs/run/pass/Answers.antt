use Rattle.std.proofs.Common.{◌∙◌, ap, sym, Some, arith}
use Rattle.parquet_delta.proofs.Turns.{passed, stopped, ended}
use Rattle.parquet_delta.proofs.run.pass.Goals as goal

pub returns-in_err-next : goal.returns-in_err-next
returns-in_err-next c =
    rw c.from_residual.ensures
    (sym c.loop-place.invariant
    ∙ stopped c.args.minis c.loop-place._place c.loop-place.blocks c.loop-place-test.true c.in_err-next.ensures.mini)

pub loop-place-preserved : goal.loop-place-preserved
loop-place-preserved c =
    sym (passed c.args.minis c.loop-place._place c.loop-place.blocks _ c.loop-place-test.true c.in_ok-next.ensures.mini) ∙ c.loop-place.invariant

pub returns : goal.returns
returns c =
    sym c.loop-place.invariant ∙ ended c.args.minis c.loop-place._place c.loop-place.blocks (omega (arith, c.loop-place-test.false))
    ∙ ap (λ r. Some r) (sym c.rest.ensures)
