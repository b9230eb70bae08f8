use Rattle.select_engine.proofs.Answering.{nothing_written}
use Rattle.select_engine.proofs.run.answer_planned.Goals as goal

pub returns-in_default-of-clause-reply : goal.returns-in_default-of-clause-reply
returns-in_default-of-clause-reply g c = λ object tells. nothing_written _ _

pub returns-in_default-clause-reply : goal.returns-in_default-clause-reply
returns-in_default-clause-reply g c = λ object tells. nothing_written _ _

pub returns-in_default-make-clause-reply : goal.returns-in_default-make-clause-reply
returns-in_default-make-clause-reply g c = λ object tells. nothing_written _ _
