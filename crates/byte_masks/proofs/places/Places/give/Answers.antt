use Rattle.std.proofs.Common.{ap, ◌∙◌}
use Rattle.byte_masks.specs.Masks.{marked}
use Rattle.byte_masks.proofs.SetBits.{marked-zero}
use Rattle.byte_masks.proofs.places.Places.give.Goals as goal

pub returns-then-self-eq0-clause-given : goal.returns-then-self-eq0-clause-given
returns-then-self-eq0-clause-given c =
    let none = ap (marked c.self.inside.base) c.if-self-eq0.true ∙ marked-zero c.self.inside.base in
    rw (← c.self.view_is) (none, none)
