use Rattle.std.proofs.Common.{◌∙◌, arith}
use Rattle.parquet_runs.proofs.Counts.{counted_one}
use Rattle.parquet_runs.proofs.cursor.RunCursor.count_inside.Goals as goal

pub loop-self-preserved : goal.loop-self-preserved
loop-self-preserved c =
    let one = counted_one c.args.least c.take.result _ _ c.take.ensures.number in
    let is = c.one_from-count.ensures.value in
    let before = c.loop-self.invariant.count in
    let few = c.loop-self.invariant.few in
    let most = c.one_from-count.ensures.few in
    let fewer = c.take.ensures.fewer in
    record {
      count = omega (arith, one, is, before);
      ready = c.take.ensures.ready;
      few = omega (arith, few, most, fewer);
      behind = c.take.ensures.behind ∙ c.loop-self.invariant.behind;
      at = c.take.ensures.at ∙ c.loop-self.invariant.at;
    }
