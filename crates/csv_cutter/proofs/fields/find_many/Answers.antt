use Rattle.std.proofs.Common.{arith}
use Rattle.std.proofs.lemmas.Str.{IsUtf8-from_ascii}
use Rattle.csv_cutter.proofs.Firsts.{plain_few, all_wanted, front_wanted}
use Rattle.csv_cutter.proofs.fields.find_many.Goals as goal

pub returns-then-wanted-count : goal.returns-then-wanted-count
returns-then-wanted-count c = (
  IsUtf8-from_ascii c.args.line.now c.in-Some.ensures.plain.ascii,
  front_wanted c.args.dialect.now c.args.line.now c.split_plain.new.spans c.args.wanted c.in-Some.count (omega arith)
      (plain_few c.args.dialect.now c.args.line.now c.split_plain.new.spans c.in-Some.count c.requires.small c.in-Some.ensures.room c.in-Some.ensures.plain c.in-Some.ensures.cuts),
)

pub returns-in-Some : goal.returns-in-Some
returns-in-Some c = (
  IsUtf8-from_ascii c.args.line.now c.in-Some.ensures.plain.ascii,
  all_wanted c.args.dialect.now c.args.line.now c.split_plain.new.spans c.args.wanted c.in-Some.count (omega arith)
      (plain_few c.args.dialect.now c.args.line.now c.split_plain.new.spans c.in-Some.count c.requires.small c.in-Some.ensures.room c.in-Some.ensures.plain c.in-Some.ensures.cuts),
)
