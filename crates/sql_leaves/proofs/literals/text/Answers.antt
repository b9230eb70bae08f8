-- A text is counted and passed, or told why not.
use Rattle.std.proofs.Common.{sym, ap, ◌∙◌}
use Rattle.sql_leaves.proofs.CountedSteps.{text_refused, text_over, text_taken}
use Rattle.sql_leaves.proofs.literals.text.Goals as goal

pub returns-then-not-sees : goal.returns-then-not-sees
returns-then-not-sees c = λ m. text_refused c.args.primaries.now c.args.tokens.now.symbols (sym c.sees.ensures ∙ c.if-not-sees.true)

pub returns-then-primaries-eq0 : goal.returns-then-primaries-eq0
returns-then-primaries-eq0 c = λ m. text_over c.args.primaries.now c.args.tokens.now.symbols (sym c.sees.ensures ∙ c.if-not-sees.false) c.if-primaries-eq0.true

pub returns : goal.returns
returns c =
    rw c.in_ok-found.ensures
    (text_taken c.args.primaries.now c.args.tokens.now.symbols (sym c.sees.ensures ∙ c.if-not-sees.false) c.if-primaries-eq0.false c.skip.new.self.symbols (ap (λ r. r.symbols) c.skip.ensures))
