use Rattle.std.proofs.Common.{arith}
use Rattle.parquet_metadata.proofs.MemberLemmas.{gathered, gathered_faulty, all_gathered}
use Rattle.parquet_metadata.proofs.members.read_members.Goals as goal

pub returns-in-Err-clause-seen : goal.returns-in-Err-clause-seen
returns-in-Err-clause-seen g c =
    gathered_faulty g.T.Member.read c.loop-left.first c.args.kind c.args.size c.loop-left.left c.args.reader.now c.loop-left.reader c.read.new.reader c.loop-left.items c.in-Err.fault c.loop-left.invariant (omega arith) (λ d answer at. c.in-Err.ensures.seen c.args.kind d answer c.requires.kind at)

pub loop-left-preserved : goal.loop-left-preserved
loop-left-preserved g c =
    rw c.in-Ok-push.ensures.ok (gathered g.T.Member.read c.loop-left.first c.args.kind c.args.size c.loop-left.left c.args.reader.now c.loop-left.reader c.read.new.reader c.loop-left.items c.in-Ok.item c.loop-left.invariant (omega arith) (λ d answer at. c.in-Ok.ensures.seen c.args.kind d answer c.requires.kind at) c.in-Ok.ensures.passed c.read.ensures.moves.forward c.read.ensures.moves.within)

pub returns-clause-seen : goal.returns-clause-seen
returns-clause-seen g c =
    all_gathered g.T.Member.read c.loop-left.first c.args.kind c.args.size c.loop-left.left c.args.reader.now c.loop-left.reader c.loop-left.items c.loop-left.invariant (omega arith)
