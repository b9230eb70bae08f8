use Rattle.parquet_metadata.proofs.MemberLemmas.{Passing}
use Rattle.parquet_metadata.proofs.members.pass_members.Given as goal

abbrev pub invariant-loop-left : goal.invariant-loop-left
invariant-loop-left l = Passing l.fn.kind l.fn.size l.left l.initial.reader l.reader

abbrev pub decreases-loop-left : goal.decreases-loop-left
decreases-loop-left l = l.left
