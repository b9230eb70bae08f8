-- A number is counted and passed, or told why not.
use Rattle.std.proofs.Common.{sym, ap, ◌∙◌}
use Rattle.sql_leaves.proofs.CountedSteps.{number_refused, number_over, number_taken}
use Rattle.sql_leaves.proofs.literals.number.Goals as goal

pub returns-then-not-is_number : goal.returns-then-not-is_number
returns-then-not-is_number c = λ m. number_refused c.args.primaries.now c.args.tokens.now.symbols (rw (← c.class.ensures) (sym c.is_number.ensures ∙ c.if-not-is_number.true))

pub returns-then-primaries-eq0 : goal.returns-then-primaries-eq0
returns-then-primaries-eq0 c = λ m. number_over c.args.primaries.now c.args.tokens.now.symbols (rw (← c.class.ensures) (sym c.is_number.ensures ∙ c.if-not-is_number.false)) c.if-primaries-eq0.true

pub returns : goal.returns
returns c =
    rw c.number_at-found.ensures
    (number_taken c.args.primaries.now c.args.tokens.now.symbols (rw (← c.class.ensures) (sym c.is_number.ensures ∙ c.if-not-is_number.false)) c.if-primaries-eq0.false c.skip.new.self.symbols (ap (λ r. r.symbols) c.skip.ensures))
