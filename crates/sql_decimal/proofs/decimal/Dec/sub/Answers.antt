use Rattle.sql_decimal.proofs.ShortPairs.{subtracted, difference_of_pair, difference_fraction}
use Rattle.sql_decimal.proofs.decimal.Dec.sub.Goals as goal

pub returns-in-Some : goal.returns-in-Some
returns-in-Some c =
    let pair = c.in-Some.ensures in
    let value = difference_of_pair c.args.self.now c.args.other.now c.short.result c.in-Some.pair _ pair c.short.ensures (subtracted c.in-Some.pair.left c.in-Some.pair.right pair.left_digits pair.right_digits) in
    record { value = value; fraction = difference_fraction c.args.self.now c.args.other.now _ value }

pub returns-in-None : goal.returns-in-None
returns-in-None c = record { value = c.sub_long.ensures; fraction = difference_fraction c.args.self.now c.args.other.now c.sub_long.result c.sub_long.ensures }
