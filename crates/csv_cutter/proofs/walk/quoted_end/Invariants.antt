use Rattle.std.proofs.Common.{length, ◌-◌}
use Rattle.csv_cutter.specs.Walk.{Comes}
use Rattle.csv_cutter.specs.declared.walk.State.TheVariants.{Inside}
use Rattle.csv_cutter.proofs.walk.quoted_end.Given as goal

abbrev pub invariant-loop-i : goal.invariant-loop-i
invariant-loop-i l = Comes l.dialect l.line Inside l.from Inside l.i

abbrev pub decreases-loop-i : goal.decreases-loop-i
decreases-loop-i l = length l.line - l.i
