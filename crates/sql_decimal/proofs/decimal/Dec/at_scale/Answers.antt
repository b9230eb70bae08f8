use Rattle.std.proofs.Common.{arith, ◌∙◌, ◌-◌, sym, subst, ℤ, ◌<◌, ◌^◌, pos, unsigned_abs, ◌*ℤ◌, to_z, of_z}
use Rattle.std.specs.Int.{w128}
use Rattle.std.proofs.lemmas.Int.{ints}
use Rattle.sql_decimal.specs.Arithmetic.{cut_coefficient}
use Rattle.sql_decimal.proofs.PowersOfTen.{passed, fits_small_power, to_z-power, ten_pow_pos}
use Rattle.sql_decimal.proofs.Scaling.{some_iff_same, cut_up, cut_down}
use Rattle.sql_decimal.proofs.decimal.Dec.at_scale.Goals as goal

pub overflow_cast-power_of_ten : goal.overflow_cast-power_of_ten
overflow_cast-power_of_ten c = fits_small_power _ (c.scale-else-scale.result - c.args.scale) c.power_of_ten.ensures.value (omega arith)

pub divided-requires-clause-divisor : goal.divided-requires-clause-divisor
divided-requires-clause-divisor c =
    let k = c.scale-else-scale.result - c.args.scale in
    rw (to_z-power _ k c.power_of_ten.ensures.value (omega arith)) (omega (arith, ints, ten_pow_pos k))

pub returns-then-scale : goal.returns-then-scale
returns-then-scale c =
    let p = passed c.coeff.result c.args.self.now.coefficient c.coeff.ensures.digits c.coeff.ensures.value in
    some_iff_same c.scaled.result (to_z w128 (of_z w128 c.coeff.result) *ℤ pos (10 ^ (c.args.scale - c.scale-then-scale.result))) (cut_coefficient c.args.self.now c.args.scale) (10 ^ 38) (rw (p, c.scale-then-scale.ensures.value) (sym (cut_up c.args.self.now.coefficient c.args.self.now.scale c.args.scale (omega arith)))) c.scaled.ensures

pub returns-else-scale : goal.returns-else-scale
returns-else-scale c =
    let k = c.scale-else-scale.result - c.args.scale in
    let p = passed c.coeff-else-scale.result c.args.self.now.coefficient c.coeff-else-scale.ensures.digits c.coeff-else-scale.ensures.value in
    let v = rw (p, to_z-power _ k c.power_of_ten.ensures.value (omega arith), c.scale-else-scale.ensures.value) at c.divided.ensures.value in
    let e = v ∙ sym (cut_down c.args.self.now.coefficient c.args.self.now.scale c.args.scale (omega arith)) in
    let P : ℤ → Type 0 = λ z. unsigned_abs z < 10 ^ 38 in
    (subst P e c.divided.ensures.digits, passed _ _ c.divided.ensures.digits e)
