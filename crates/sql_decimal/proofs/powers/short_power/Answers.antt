use Rattle.std.proofs.Common.{arith}
use Rattle.sql_decimal.proofs.PowersOfTen.{short_power-le}
use Rattle.sql_decimal.proofs.powers.short_power.Goals as goal

pub overflow_cast-result : goal.overflow_cast-result
overflow_cast-result c = omega (arith, short_power-le c.power_of_ten.result c.args.exponent c.power_of_ten.ensures.value c.requires)
