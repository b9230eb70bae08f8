use Rattle.std.proofs.Common.{ap, ◌∙◌}
use Rattle.std.specs.Str.{chars}
use Rattle.sql_decimal.specs.Reading.{number_of}
use Rattle.sql_decimal.proofs.PrintedNumbers.{printed_reads_back}
use Rattle.sql_decimal.proofs.decimal.Dec.print.Goals as goal

pub returns : goal.returns
returns c = record {
  text = c.written.ensures.text;
  reads_back = ap (λ bs. number_of (chars bs)) c.written.ensures.text ∙ printed_reads_back c.args.self.now c.written.ensures.sound;
}
