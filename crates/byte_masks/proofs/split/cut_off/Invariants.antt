use Rattle.std.proofs.Common.{length}
use Rattle.byte_masks.specs.Masks.{marked}
use Rattle.byte_masks.proofs.Cutting.{Cutting}
use Rattle.byte_masks.proofs.split.cut_off.Given as goal

abbrev pub invariant-loop-left : goal.invariant-loop-left
invariant-loop-left l = Cutting l.base l.mask l.fn.from l.fn.spans l.left l.start l.count l.spans

abbrev pub decreases-loop-left : goal.decreases-loop-left
decreases-loop-left l = length (marked l.base l.left)
