-- The whole text is read.
use Rattle.std.proofs.Common.{sym, ◌∙◌}
use Rattle.select_sql.specs.Written.{written}
use Rattle.select_sql.proofs.AnswerSteps.{spelled, other_name}
use Rattle.select_sql.proofs.parser.finished.Goals as goal

pub returns-then-names_source-clause-parsed : goal.returns-then-names_source-clause-parsed
returns-then-names_source-clause-parsed c = spelled c.args.text.now (written c.args.parts) c.query.result c.requires (sym c.names_source.ensures ∙ c.if-names_source.true) c.query.ensures

pub returns-clause-refused : goal.returns-clause-refused
returns-clause-refused c = λ fault q. other_name c.args.text.now (written c.args.parts) c.requires (sym c.names_source.ensures ∙ c.if-names_source.false) c.refusal.result c.second_place.result fault c.refusal.ensures c.second_place.ensures q
