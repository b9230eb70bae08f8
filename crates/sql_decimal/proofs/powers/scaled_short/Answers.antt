use Rattle.std.proofs.Common.{arith, sym, subst, ℤ, ◌<◌, ◌^◌, unsigned_abs}
use Rattle.std.proofs.lemmas.Int.{to_z-of_z}
use Rattle.sql_decimal.proofs.PowersOfTen.{scaled_within, fits_short_power, fits_short_product, short_product_is}
use Rattle.sql_decimal.proofs.powers.scaled_short.Goals as goal

pub overflow_cast-result : goal.overflow_cast-result
overflow_cast-result c = fits_short_power _ c.args.by c.short_power-then-unsigned_abs-short_power.ensures (omega arith)

pub overflow_mul-result : goal.overflow_mul-result
overflow_mul-result c =
    let fits = c.ranges.coeff in
    let size = simp to_z-of_z at c.unsigned_abs.ensures.value in
    fits_short_product c.args.coeff _ c.args.by c.requires c.short_power-then-unsigned_abs-short_power.ensures (omega arith)
    (scaled_within 18 c.args.by c.args.coeff (omega arith) (omega (arith, c.short_power.ensures)))

pub returns-then-unsigned_abs-short_power : goal.returns-then-unsigned_abs-short_power
returns-then-unsigned_abs-short_power c =
    let fits = c.ranges.coeff in
    let size = simp to_z-of_z at c.unsigned_abs.ensures.value in
    let small = scaled_within 18 c.args.by c.args.coeff (omega arith) (omega (arith, c.short_power.ensures)) in
    let value = short_product_is c.args.coeff _ c.args.by c.requires c.short_power-then-unsigned_abs-short_power.ensures (omega arith) small in
    let P : ℤ → Type 0 = λ z. unsigned_abs z < 10 ^ 18 in
    record { value = value; digits = subst P (sym value) small }
