use Rattle.std.proofs.Common.{◌∙◌, ap, sym, subst, ◌-◌, to_z, of_z, Result, IfOk}
use Rattle.std.specs.Int.{w128}
use Rattle.sql_decimal.specs.declared.arithmetic.Aligned.{Aligned}
use Rattle.sql_decimal.specs.declared.decimal.NumFault.{NumFault}
use Rattle.sql_decimal.specs.Decimal.{Decimal}
use Rattle.sql_decimal.specs.Fractions.{IsRemainder}
use Rattle.sql_decimal.specs.Arithmetic.{common_scale}
use Rattle.sql_decimal.proofs.FractionLaws.{remainder-is}
use Rattle.sql_decimal.proofs.PowersOfTen.{passed, ten_pow_pos}
use Rattle.sql_decimal.proofs.Scaling.{scale-nonzero}
use Rattle.sql_decimal.proofs.Outcomes.{remainder_in_range}
use Rattle.sql_decimal.proofs.decimal.Dec.rem.Goals as goal

pub left_over-requires-clause-divisor : goal.left_over-requires-clause-divisor
left_over-requires-clause-divisor c =
    let same = passed c.in-Some.pair.right _ c.in-Some.ensures.right_digits (ap (λ (p : Aligned). p.right) c.in-Some.ensures.value.1) in
    λ zero. scale-nonzero c.args.other.now.coefficient _ (ten_pow_pos (common_scale c.args.self.now c.args.other.now - c.args.other.now.scale))
    (λ none. c.if-coeff-eq0.false (ap (of_z w128) (c.coeff.ensures.value ∙ none))) (sym same ∙ zero)

pub returns-in-Some : goal.returns-in-Some
returns-in-Some c =
    let value = remainder_in_range c.args.self.now c.args.other.now _ (to_z w128 (of_z w128 c.in-Some.pair.left)) (to_z w128 (of_z w128 c.in-Some.pair.right)) c.in-Some.pair.scale c.left_over.ensures
    (λ none. c.if-coeff-eq0.false (ap (of_z w128) (c.coeff.ensures.value ∙ none)))
    c.in-Some.ensures.value.0
    (passed c.in-Some.pair.left _ c.in-Some.ensures.left_digits (ap (λ (p : Aligned). p.left) c.in-Some.ensures.value.1))
    (passed c.in-Some.pair.right _ c.in-Some.ensures.right_digits (ap (λ (p : Aligned). p.right) c.in-Some.ensures.value.1))
    (ap (λ (p : Aligned). p.scale) c.in-Some.ensures.value.1) in
    let P : Result Decimal NumFault → Type 0 = λ r. IfOk r (IsRemainder c.args.self.now c.args.other.now) in
    record { value = value; fraction = subst P (sym value) (remainder-is c.args.self.now c.args.other.now) }
