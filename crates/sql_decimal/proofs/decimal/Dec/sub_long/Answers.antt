use Rattle.std.proofs.Common.{ap, to_z, of_z}
use Rattle.std.specs.Int.{w128}
use Rattle.sql_decimal.specs.declared.arithmetic.Aligned.{Aligned}
use Rattle.sql_decimal.proofs.PowersOfTen.{passed}
use Rattle.sql_decimal.proofs.Outcomes.{difference_in_range}
use Rattle.sql_decimal.proofs.decimal.Dec.sub_long.Goals as goal

pub returns-in-Some : goal.returns-in-Some
returns-in-Some c =
    difference_in_range c.args.self.now c.args.other.now _ (to_z w128 (of_z w128 c.in-Some.pair.left)) (to_z w128 (of_z w128 c.in-Some.pair.right)) c.in-Some.pair.scale c.minus.ensures
    c.in-Some.ensures.value.0
    (passed c.in-Some.pair.left _ c.in-Some.ensures.left_digits (ap (λ (p : Aligned). p.left) c.in-Some.ensures.value.1))
    (passed c.in-Some.pair.right _ c.in-Some.ensures.right_digits (ap (λ (p : Aligned). p.right) c.in-Some.ensures.value.1))
    (ap (λ (p : Aligned). p.scale) c.in-Some.ensures.value.1)
