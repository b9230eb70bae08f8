-- All, or steps behind an element.
use Rattle.std.proofs.Common.{sym, ◌∙◌}
use Rattle.select_sql.proofs.SelectSteps.{bracket_all, bracket_own}
use Rattle.select_sql.proofs.source.bracket_steps.Goals as goal

pub returns-then-sees : goal.returns-then-sees
returns-then-sees c = λ n. rw (bracket_all n c.args.tokens.now.symbols _ c.all_rest.new.tokens.symbols c.new.result c.new.ensures (sym c.sees.ensures ∙ c.if-sees.true) (c.in_ok-all_rest.ensures n)) (c.more_steps.ensures n)

pub returns : goal.returns
returns c = λ n. rw (bracket_own n c.args.tokens.now.symbols c.in_ok-first.first c.element_rest.new.tokens.symbols (sym c.sees.ensures ∙ c.if-sees.false) (c.in_ok-first.ensures n)) (c.own_steps.ensures n)
