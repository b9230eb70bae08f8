use Rattle.std.proofs.Common.{refl}
use Rattle.byte_masks.proofs.SetBits.{marked-zero}
use Rattle.byte_masks.proofs.Walking.{StandsAt-start}
use Rattle.byte_masks.proofs.places.Places.restart.Goals as goal

pub returns-clause-stands : goal.returns-clause-stands
returns-clause-stands c bytes within = StandsAt-start _ bytes c.args.at (marked-zero c.self.inside.base) refl within
