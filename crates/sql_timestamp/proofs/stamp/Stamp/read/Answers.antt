use Rattle.std.proofs.Common.{◌∙◌}
use Rattle.sql_timestamp.proofs.ReadBack.{answer_spells, spelled_read}
use Rattle.sql_timestamp.proofs.stamp.Stamp.read.Goals as goal

pub returns-clause-grammar : goal.returns-clause-grammar
returns-clause-grammar c = answer_spells c.read_text.result c.args.text.now c.read_text.ensures

pub returns-clause-alone : goal.returns-clause-alone
returns-clause-alone c = λ t s. c.read_text.ensures ∙ spelled_read c.args.text.now t s
