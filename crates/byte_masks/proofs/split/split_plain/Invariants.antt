use Rattle.std.proofs.Common.{length, ◌-◌}
use Rattle.byte_masks.proofs.Cutting.{Splitting}
use Rattle.byte_masks.proofs.split.split_plain.Given as goal

abbrev pub invariant-loop-i : goal.invariant-loop-i
invariant-loop-i l = Splitting l.field l.quote l.line l.i l.cut l.spans

abbrev pub decreases-loop-i : goal.decreases-loop-i
decreases-loop-i l = length l.line - l.i
