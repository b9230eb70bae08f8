use Rattle.std.proofs.Common.{arith, refl, sym, subst, ℕ, ◌<◌}
use Rattle.sql_decimal.specs.declared.powers.TheConstants.{POWERS}
use Rattle.sql_decimal.proofs.PowersOfTen.{power_at, ten_pow_pos}
use Rattle.sql_decimal.proofs.powers.power_of_ten.Goals as goal

pub returns : goal.returns
returns c =
    let value = power_at 0 c.args.exponent c.args.exponent POWERS refl (omega arith) (omega arith) in
    let P : ℕ → Type 0 = λ n. 0 < n in
    record { value = value; positive = subst P (sym value) (ten_pow_pos c.args.exponent) }
