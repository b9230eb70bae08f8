use Rattle.sql_decimal.proofs.ShortPairs.{added, sum_of_pair, sum_fraction}
use Rattle.sql_decimal.proofs.decimal.Dec.add.Goals as goal

pub returns-in-Some : goal.returns-in-Some
returns-in-Some c =
    let pair = c.in-Some.ensures in
    let value = sum_of_pair c.args.self.now c.args.other.now c.short.result c.in-Some.pair _ pair c.short.ensures (added c.in-Some.pair.left c.in-Some.pair.right pair.left_digits pair.right_digits) in
    record { value = value; fraction = sum_fraction c.args.self.now c.args.other.now _ value }

pub returns-in-None : goal.returns-in-None
returns-in-None c = record { value = c.add_long.ensures; fraction = sum_fraction c.args.self.now c.args.other.now c.add_long.result c.add_long.ensures }
