use Rattle.std.proofs.Common.{arith}
use Rattle.parquet_metadata.proofs.MemberLemmas.{one_passed, one_faulty, whole_passed}
use Rattle.parquet_metadata.proofs.members.pass_members.Goals as goal

pub returns-in-Err-clause-seen : goal.returns-in-Err-clause-seen
returns-in-Err-clause-seen c =
    λ below items answer at. rw c.faulty.ensures (one_faulty c.args.kind c.args.size c.loop-left.left c.args.reader.now c.loop-left.reader c.skip.new.self c.in-Err.fault c.loop-left.invariant (omega arith) c.in-Err.ensures.seen below items answer at, tt)

pub loop-left-preserved : goal.loop-left-preserved
loop-left-preserved c =
    one_passed c.args.kind c.args.size c.loop-left.left c.args.reader.now c.loop-left.reader c.skip.new.self c.loop-left.invariant (omega arith) c.in-Ok.ensures.seen (record { bytes = c.skip.ensures.moves.bytes; sound = c.in-Ok.ensures.sound; nesting = c.in-Ok.ensures.nesting }) c.skip.ensures.moves.forward c.skip.ensures.moves.within

pub returns-clause-seen : goal.returns-clause-seen
returns-clause-seen c =
    whole_passed c.args.kind c.args.size c.loop-left.left c.args.reader.now c.loop-left.reader c.loop-left.invariant (omega arith)
