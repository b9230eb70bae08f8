use Rattle.std.proofs.Common.{◌∙◌}
use Rattle.record_output.proofs.Quoting.{quoted_one, quoted_two}
use Rattle.record_output.proofs.csv.is_quoted.Goals as goal

pub returns-in-One : goal.returns-in-One
returns-in-One c = c.is_some.ensures ∙ quoted_one c.args.csv.now c.args.text.now c.in-One.end c.memchr3.result c.if-csv.false c.in-One.is c.memchr3.ensures

pub returns-else-is_some : goal.returns-else-is_some
returns-else-is_some c = c.is_some-else-is_some.ensures ∙ quoted_two c.args.csv.now c.args.text.now c.in-Two.first c.in-Two.second c.memchr3-in-Two.result c.memchr.result c.is_some-in-Two.result c.if-csv.false c.in-Two.is (c.is_some-in-Two.ensures) (c.if-is_some.false) c.memchr3-in-Two.ensures c.memchr.ensures
