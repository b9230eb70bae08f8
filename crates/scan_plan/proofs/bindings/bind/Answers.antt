-- The plan of a lawful query is lawful.
use Rattle.std.proofs.Common.{sym, ◌∙◌}
use Rattle.scan_plan.proofs.LawfulPlans.{planned_is_lawful}
use Rattle.scan_plan.proofs.bindings.bind.Goals as goal

pub returns-in-Ok-answer-clause-lawful : goal.returns-in-Ok-answer-clause-lawful
returns-in-Ok-answer-clause-lawful c = planned_is_lawful c.args.columns.now c.args.query.now c.in-Ok-answer.plan c.requires (sym c.in-Ok.ensures ∙ c.in-Ok-answer.is)
