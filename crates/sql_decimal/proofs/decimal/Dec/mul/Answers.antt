use Rattle.std.proofs.Common.{arith, sym, subst, to_z, of_z, ◌+◌, Result, IfOk}
use Rattle.std.specs.Int.{w128}
use Rattle.sql_decimal.specs.declared.decimal.NumFault.{NumFault}
use Rattle.sql_decimal.specs.Decimal.{Decimal}
use Rattle.sql_decimal.specs.Fractions.{IsProduct}
use Rattle.sql_decimal.proofs.FractionLaws.{product-is}
use Rattle.sql_decimal.proofs.PowersOfTen.{passed}
use Rattle.sql_decimal.proofs.Outcomes.{product_of_parts}
use Rattle.sql_decimal.proofs.decimal.Dec.mul.Goals as goal

pub returns : goal.returns
returns c =
    let value = product_of_parts c.args.self.now c.args.other.now _ (to_z w128 (of_z w128 c.coeff.result)) (to_z w128 (of_z w128 c.coeff-2.result)) (c.scale.result + c.scale-2.result) c.times.ensures
    (passed c.coeff.result _ c.coeff.ensures.digits c.coeff.ensures.value)
    (passed c.coeff-2.result _ c.coeff-2.ensures.digits c.coeff-2.ensures.value)
    (omega arith) in
    let P : Result Decimal NumFault → Type 0 = λ r. IfOk r (IsProduct c.args.self.now c.args.other.now) in
    record { value = value; fraction = subst P (sym value) (product-is c.args.self.now c.args.other.now) }
