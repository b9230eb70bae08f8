use Rattle.parquet_metadata.proofs.MemberLemmas.{Gathering}
use Rattle.parquet_metadata.proofs.members.read_members.Given as goal

abbrev pub invariant-loop-left : goal.invariant-loop-left
invariant-loop-left g l = Gathering g.T.Member.read l.first l.fn.kind l.fn.size l.left l.initial.reader l.reader l.items

abbrev pub decreases-loop-left : goal.decreases-loop-left
decreases-loop-left g l = l.left
