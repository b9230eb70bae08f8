use Rattle.std.proofs.Common.{arith}
use Rattle.std.proofs.lemmas.Int.{ints, to_z-of_z}
use Rattle.sql_decimal.proofs.PowersOfTen.{scaled_within, scaled_over, scaled_far_over, fits_small_power, fits_product, product_is}
use Rattle.sql_decimal.proofs.powers.scaled.Goals as goal

pub returns-else-coeff-eq0 : goal.returns-else-coeff-eq0
returns-else-coeff-eq0 c = λ h. absurd (omega (arith, scaled_far_over c.args.by c.args.coeff (omega arith) (omega (arith, ints))))

pub overflow_cast-result : goal.overflow_cast-result
overflow_cast-result c = fits_small_power _ c.args.by c.power_of_ten-then-unsigned_abs-power_of_ten.ensures.value (omega arith)

pub overflow_mul-result : goal.overflow_mul-result
overflow_mul-result c =
    let fits = c.ranges.coeff in
    let size = simp to_z-of_z at c.unsigned_abs.ensures.value in
    fits_product c.args.coeff _ c.args.by fits c.power_of_ten-then-unsigned_abs-power_of_ten.ensures.value (omega arith)
    (scaled_within 38 c.args.by c.args.coeff (omega arith) (omega arith))

pub returns-then-unsigned_abs-power_of_ten : goal.returns-then-unsigned_abs-power_of_ten
returns-then-unsigned_abs-power_of_ten c =
    let fits = c.ranges.coeff in
    let size = simp to_z-of_z at c.unsigned_abs.ensures.value in
    let small = scaled_within 38 c.args.by c.args.coeff (omega arith) (omega arith) in
    (small, product_is c.args.coeff _ c.args.by fits c.power_of_ten-then-unsigned_abs-power_of_ten.ensures.value (omega arith) small)

pub returns-else-unsigned_abs-power_of_ten : goal.returns-else-unsigned_abs-power_of_ten
returns-else-unsigned_abs-power_of_ten c =
    let fits = c.ranges.coeff in
    let size = simp to_z-of_z at c.unsigned_abs.ensures.value in
    λ h. absurd (omega (arith, scaled_over 38 c.args.by c.args.coeff (omega arith) (omega arith)))
