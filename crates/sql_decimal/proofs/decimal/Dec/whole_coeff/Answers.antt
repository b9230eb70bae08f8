use Rattle.std.proofs.Common.{◌∙◌, ◌^◌, ◌<◌, ℤ, sym, subst, unsigned_abs}
use Rattle.sql_decimal.proofs.PowersOfTen.{passed, fits_small_power, to_z-power}
use Rattle.sql_decimal.proofs.decimal.Dec.whole_coeff.Goals as goal

pub overflow_cast-power_of_ten : goal.overflow_cast-power_of_ten
overflow_cast-power_of_ten c = fits_small_power _ c.scale.result c.power_of_ten.ensures.value c.scale.ensures.bound

pub returns : goal.returns
returns c =
    let p = passed c.coeff.result c.args.self.now.coefficient c.coeff.ensures.digits c.coeff.ensures.value in
    let v = rw (p, to_z-power _ c.scale.result c.power_of_ten.ensures.value c.scale.ensures.bound, c.scale.ensures.value) at c.divided.ensures.value in
    let value = passed _ _ c.divided.ensures.digits v in
    let P : ℤ → Type 0 = λ z. unsigned_abs z < 10 ^ 38 in
    record { value = value; digits = subst P (v ∙ sym value) c.divided.ensures.digits }
