use Rattle.std.proofs.Common.{arith}
use Rattle.sql_decimal.proofs.ReadingBytes.{spaces_more}
use Rattle.sql_decimal.proofs.short.past_spaces.Goals as goal

pub loop-at-preserved : goal.loop-at-preserved
loop-at-preserved c =
    (omega arith, omega arith, spaces_more c.args.bytes.now c.args.from c.loop-at.at c.loop-at.invariant.2 c.loop-at-test.true c.if-bytes-at-eq32.true)
