use Rattle.std.proofs.Common.{arith}
use Rattle.parquet_runs.proofs.Turns.{emptied}
use Rattle.parquet_runs.proofs.Counts.{none_counted}
use Rattle.parquet_runs.proofs.cursor.RunCursor.count_from.Goals as goal

pub returns : goal.returns
returns c =
    let last = c.loop-cursor-test.false in
    let end = none_counted c.args.least _ (emptied c.loop-cursor.cursor c.args.bytes.now c.loop-cursor.invariant.none (omega (arith, last))) in
    let all = c.loop-cursor.invariant.count in
    record { value = omega (arith, end, all) }
