use Rattle.std.proofs.Common.{arith}
use Rattle.std.proofs.lemmas.Str.{IsUtf8-from_ascii}
use Rattle.csv_cutter.proofs.Cuts.{plain_first, plain_many}
use Rattle.csv_cutter.proofs.fields.find_spans.Goals as goal

pub returns-then-count-gt-MOST_FIELDS : goal.returns-then-count-gt-MOST_FIELDS
returns-then-count-gt-MOST_FIELDS c = (
  IsUtf8-from_ascii c.args.line.now c.in-Some.ensures.plain.ascii,
  plain_many c.args.dialect.now c.args.line.now c.split_plain.new.spans c.in-Some.count c.in-Some.ensures.room (omega arith) c.in-Some.ensures.plain c.in-Some.ensures.cuts,
)

pub returns-in-Some : goal.returns-in-Some
returns-in-Some c = (
  IsUtf8-from_ascii c.args.line.now c.in-Some.ensures.plain.ascii,
  plain_first c.args.dialect.now c.args.line.now c.split_plain.new.spans c.in-Some.count c.in-Some.ensures.room (omega arith) c.in-Some.ensures.plain c.in-Some.ensures.cuts,
)
