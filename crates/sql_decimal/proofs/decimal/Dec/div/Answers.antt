use Rattle.std.proofs.Common.{arith, ◌≡◌, ◌∙◌, to_z, of_z, ap, ◌^◌, ◌+◌, ◌-◌, pos, ◌*ℤ◌, subst, sym, Result, IfOk}
use Rattle.std.specs.Int.{w128}
use Rattle.sql_decimal.proofs.PowersOfTen.{passed, scaled_is}
use Rattle.sql_decimal.specs.declared.decimal.NumFault.{NumFault}
use Rattle.sql_decimal.specs.Decimal.{Decimal}
use Rattle.sql_decimal.specs.Fractions.{IsQuotient}
use Rattle.sql_decimal.proofs.FractionLaws.{quotient-is}
use Rattle.sql_decimal.proofs.Outcomes.{quotient_in_range}
use Rattle.sql_decimal.proofs.decimal.Dec.div.Goals as goal

pub returns-in-Some : goal.returns-in-Some
returns-in-Some c =
    let dividend = passed c.coeff.result c.args.self.now.coefficient c.coeff.ensures.digits c.coeff.ensures.value in
    let scaling = scaled_is _ _ _ (c.max-scale.result - c.scale-3.result + c.scale-4.result) dividend c.in-Some.ensures in
    let k : c.max-scale.result - c.scale-3.result + c.scale-4.result ≡ c.max-scale.result - c.args.self.now.scale + c.args.other.now.scale = omega arith in
    let value = quotient_in_range c.args.self.now c.args.other.now _ (to_z w128 (of_z w128 c.in-Some.numerator)) (to_z w128 (of_z w128 c.coeff-divisor.result)) c.max-scale.result c.over.ensures
    (λ zero. c.if-divisor-eq0.false (ap (of_z w128) (c.coeff-divisor.ensures.value ∙ zero)))
    (passed c.coeff-divisor.result _ c.coeff-divisor.ensures.digits c.coeff-divisor.ensures.value)
    (omega arith)
    (scaling.1 ∙ ap (λ n. c.args.self.now.coefficient *ℤ pos (10 ^ n)) k) scaling.0 in
    let P : Result Decimal NumFault → Type 0 = λ r. IfOk r (IsQuotient c.args.self.now c.args.other.now) in
    record { value = value; fraction = subst P (sym value) (quotient-is c.args.self.now c.args.other.now) }
