use Rattle.std.proofs.Common.{sym, subst, Result, IfOk}
use Rattle.sql_decimal.specs.declared.decimal.NumFault.{NumFault}
use Rattle.sql_decimal.specs.Decimal.{Decimal}
use Rattle.sql_decimal.specs.Fractions.{IsCut}
use Rattle.sql_decimal.proofs.FractionLaws.{cut-is}
use Rattle.sql_decimal.proofs.Outcomes.{cut_over}
use Rattle.sql_decimal.proofs.decimal.Dec.cut_to.Goals as goal

pub returns-in-None : goal.returns-in-None
returns-in-None c =
    let value = cut_over c.args.self.now c.args.digits c.args.scale c.requires.at_most c.in-None.ensures in
    let P : Result Decimal NumFault → Type 0 = λ r. IfOk r (IsCut c.args.self.now) in
    record { value = value; fraction = subst P (sym value) (cut-is c.args.self.now c.args.digits c.args.scale) }
