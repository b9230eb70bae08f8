-- Steps behind a name.
use Rattle.std.proofs.Common.{sym, ◌∙◌}
use Rattle.select_sql.proofs.SelectSteps.{source_own}
use Rattle.select_sql.proofs.source.source_steps.Goals as goal

pub returns-then-sees : goal.returns-then-sees
returns-then-sees c = λ n. rw (source_own n c.args.tokens.now.symbols c.in_ok-first.first c.named_step.new.tokens.symbols (rw (← c.class.ensures) (sym c.is_step.ensures ∙ c.if-not-is_step.false)) (sym c.sees.ensures ∙ c.if-sees.true) (c.in_ok-first.ensures n)) (c.own_steps.ensures n)
