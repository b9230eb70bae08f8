use Rattle.std.proofs.Common.{refl, arith}
use Rattle.byte_masks.proofs.SetBits.{marked-zero}
use Rattle.byte_masks.proofs.Walking.{StandsAt-start}
use Rattle.byte_masks.proofs.places.Places.new.Goals as goal

pub returns-clause-stands : goal.returns-clause-stands
returns-clause-stands c bytes = StandsAt-start _ bytes 0 (marked-zero 0) refl (omega arith)
