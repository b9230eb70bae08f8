use Rattle.std.proofs.Common.{◌∙◌}
use Rattle.sql_decimal.proofs.ShortPairs.{pair_order}
use Rattle.sql_decimal.proofs.decimal.Dec.compare.Goals as goal

pub returns-in-Some : goal.returns-in-Some
returns-in-Some c = c.cmp.ensures ∙ pair_order c.args.self.now c.args.other.now c.in-Some.pair c.in-Some.ensures
