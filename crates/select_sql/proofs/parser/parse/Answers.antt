-- Texts that are too long or are cut into no tokens; and what is parsed is lawful.
use Rattle.std.proofs.Common.{arith}
use Rattle.select_sql.proofs.AnswerSteps.{unfit, parsed_lawful, parsed_shallow}
use Rattle.select_sql.proofs.parser.parse.Goals as goal

pub returns-in-Err-clause-refused : goal.returns-in-Err-clause-refused
returns-in-Err-clause-refused c = λ fault q. unfit c.args.text.now c.in-Err.at (omega arith) c.in-Err.ensures.fault c.refusal-in-Err.result fault c.refusal-in-Err.ensures q

pub returns-clause-lawful : goal.returns-clause-lawful
returns-clause-lawful c = parsed_lawful c.args.text.now c.spelled_queries_are_lawful.ensures.lawful c.answer.result c.answer.ensures.parsed

pub returns-clause-shallow : goal.returns-clause-shallow
returns-clause-shallow c = parsed_shallow c.args.text.now c.spelled_queries_are_lawful.ensures.shallow c.answer.result c.answer.ensures.parsed
