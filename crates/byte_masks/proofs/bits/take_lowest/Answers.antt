use Rattle.std.proofs.Common.{arith}
use Rattle.byte_masks.proofs.SetBits.{marked-lowest}
use Rattle.byte_masks.proofs.bits.take_lowest.Goals as goal

pub returns-clause-first : goal.returns-clause-first
returns-clause-first c s = marked-lowest s c.args.mask.now c.requires (omega arith)
