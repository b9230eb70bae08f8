use Rattle.std.proofs.Common.{◌≡◌, ◌++◌, [], sym, ap, ◌∙◌, arith}
use Rattle.byte_masks.specs.Masks.{marked}
use Rattle.byte_masks.specs.Walks.{places_from}
use Rattle.byte_masks.proofs.SetBits.{marked-zero, marked-some}
use Rattle.byte_masks.proofs.places.Places.refill.Goals as goal

pub returns-then-self-ne0-clause-ended : goal.returns-then-self-ne0-clause-ended
returns-then-self-ne0-clause-ended c =
    rw (← c.self.view_is) (λ e. absurd (marked-some c.self.inside.base c.self.inside.mask c.if-self-ne0.true (omega arith) e))

pub returns-clause-all : goal.returns-clause-all
returns-clause-all c =
    let i = c.self.inside in
    let none : marked i.base i.mask ≡ [] = ap (marked i.base) c.if-self-ne0.false ∙ marked-zero i.base in
    rw (← c.self.view_is) (c.next_block-block.ensures.all ∙ sym (ap (λ ps. ps ++ places_from i.byte c.args.bytes.now i.from) none))

pub returns-clause-ended : goal.returns-clause-ended
returns-clause-ended c e = c.next_block-block.ensures.all ∙ c.next_block-block.ensures.ended e
