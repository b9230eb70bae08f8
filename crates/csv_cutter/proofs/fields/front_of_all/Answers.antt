use Rattle.std.proofs.Common.{arith}
use Rattle.csv_cutter.proofs.Firsts.{front_wanted, all_wanted}
use Rattle.csv_cutter.proofs.fields.front_of_all.Goals as goal

pub returns-then-wanted-count : goal.returns-then-wanted-count
returns-then-wanted-count c = (
  c.in-Ok.ensures.0,
  front_wanted c.args.dialect.now c.args.line.now c.find_spans.new.spans c.args.wanted c.in-Ok.count (omega arith) c.in-Ok.ensures.1,
)

pub returns-else-wanted-count : goal.returns-else-wanted-count
returns-else-wanted-count c = (
  c.in-Ok.ensures.0,
  all_wanted c.args.dialect.now c.args.line.now c.find_spans.new.spans c.args.wanted c.in-Ok.count (omega arith) c.in-Ok.ensures.1,
)
