use Rattle.std.proofs.Common.{take}
use Rattle.byte_masks.specs.Sights.{Sees}
use Rattle.byte_masks.proofs.sight.see_bytes.Given as goal

abbrev pub invariant-loop-k : goal.invariant-loop-k
invariant-loop-k l = Sees l.field l.quote (take l.k l.line) l.sight
