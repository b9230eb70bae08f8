use Rattle.std.proofs.Common.{◌≡◌, subst, Some}
use Rattle.parquet_delta.specs.Blocks.{end_of}
use Rattle.parquet_delta.proofs.Behind.{behind_both, behind_head, behind_end, no_longer}
use Rattle.parquet_delta.proofs.Counts.{enough_deltas}
use Rattle.parquet_delta.proofs.deltas.Deltas.read.Goals as goal

pub overflow_sub-result : goal.overflow_sub-result
overflow_sub-result c =
    let end = subst (λ p. end_of c.div_ceil-minis.result p ≡ Some c.in-Some-pass.rest.now) c.again.ensures c.in-Some-pass.ensures in
    no_longer _ _
    (behind_both _ _ _ (behind_end c.div_ceil-minis.result c.in-Some.head.start _ end) (behind_head c.args.count c.args.bytes.now _ c.in-Some.ensures))

pub invariant_of-result : goal.invariant_of-result
invariant_of-result c =
    let end = subst (λ p. end_of c.div_ceil-minis.result p ≡ Some c.in-Some-pass.rest.now) c.again.ensures c.in-Some-pass.ensures in
    enough_deltas c.args.count c.div_ceil-minis.result c.values.result c.in-Some.head.start _ _ c.values.ensures.some c.values.ensures.value
    c.div_ceil-minis.ensures end c.new.ensures
