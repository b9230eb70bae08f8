use Rattle.std.proofs.Common.{arith, ◌∙◌, ◌-◌}
use Rattle.sql_decimal.proofs.PowersOfTen.{passed}
use Rattle.sql_decimal.proofs.Scaling.{compared_by_left, compared_by_right}
use Rattle.sql_decimal.proofs.decimal.Dec.compare_long.Goals as goal

pub returns-then-scale : goal.returns-then-scale
returns-then-scale c =
    compared_by_left c.args.self.now c.args.other.now _ _ _ (c.scale-then-scale.result - c.scale-then-scale-2.result) c.compare_scaled.ensures
    (passed c.coeff.result c.args.self.now.coefficient c.coeff.ensures.digits c.coeff.ensures.value)
    (passed c.coeff-then-scale.result c.args.other.now.coefficient c.coeff-then-scale.ensures.digits c.coeff-then-scale.ensures.value)
    (omega arith) (omega arith)

pub returns-else-scale : goal.returns-else-scale
returns-else-scale c =
    c.reverse.ensures
    ∙ compared_by_right c.args.self.now c.args.other.now _ _ _ (c.scale-else-scale.result - c.scale-else-scale-2.result) c.compare_scaled-else-scale.ensures
    (passed c.coeff-else-scale.result c.args.other.now.coefficient c.coeff-else-scale.ensures.digits c.coeff-else-scale.ensures.value)
    (passed c.coeff-else-scale-2.result c.args.self.now.coefficient c.coeff-else-scale-2.ensures.digits c.coeff-else-scale-2.ensures.value)
    (omega arith) (omega arith)
