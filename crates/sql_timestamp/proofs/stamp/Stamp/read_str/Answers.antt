use Rattle.std.proofs.Common.{◌∙◌}
use Rattle.std.specs.Str.{chars}
use Rattle.sql_timestamp.proofs.ReadBack.{answer_spells, spelled_read}
use Rattle.sql_timestamp.proofs.stamp.Stamp.read_str.Goals as goal

pub returns-clause-grammar : goal.returns-clause-grammar
returns-clause-grammar c = answer_spells c.read_plain.result (chars c.args.text.now) c.read_plain.ensures

pub returns-clause-alone : goal.returns-clause-alone
returns-clause-alone c = λ t s. c.read_plain.ensures ∙ spelled_read (chars c.args.text.now) t s
