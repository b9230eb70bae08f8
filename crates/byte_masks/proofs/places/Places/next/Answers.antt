use Rattle.std.proofs.Common.{◌∙◌, arith}
use Rattle.byte_masks.proofs.Walking.{GaveFirst-given, Given-ahead}
use Rattle.byte_masks.proofs.places.Places.next.Goals as goal

pub returns-clause-first : goal.returns-clause-first
returns-clause-first c at stands =
    GaveFirst-given c.args.self.now c.args.bytes.now at c.give.result c.give.new.self
    (Given-ahead c.args.self.now c.refill.new.self c.args.bytes.now c.give.result c.give.new.self c.refill.ensures.all c.refill.ensures.ended c.give.ensures.byte c.give.ensures.from c.give.ensures.given)
    (c.give.ensures.byte ∙ c.refill.ensures.byte)
    (λ within. let w = c.refill.ensures.within within in omega (arith, c.give.ensures.from)) stands
