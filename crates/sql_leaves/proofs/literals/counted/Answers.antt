-- A counted token is passed, or told why not.
use Rattle.std.proofs.Common.{sym, ap, ◌∙◌}
use Rattle.sql_leaves.proofs.CountedSteps.{token_refused, token_over, token_taken}
use Rattle.sql_leaves.proofs.literals.counted.Goals as goal

pub returns-then-not-sees : goal.returns-then-not-sees
returns-then-not-sees c = λ m. token_refused c.args.class c.args.primaries.now c.args.tokens.now.symbols (sym c.sees.ensures ∙ c.if-not-sees.true)

pub returns-then-primaries-eq0 : goal.returns-then-primaries-eq0
returns-then-primaries-eq0 c = λ m. token_over c.args.class c.args.primaries.now c.args.tokens.now.symbols (sym c.sees.ensures ∙ c.if-not-sees.false) c.if-primaries-eq0.true

pub returns : goal.returns
returns c = token_taken c.args.class c.args.primaries.now c.args.tokens.now.symbols (sym c.sees.ensures ∙ c.if-not-sees.false) c.if-primaries-eq0.false c.skip.new.self.symbols (ap (λ r. r.symbols) c.skip.ensures)
