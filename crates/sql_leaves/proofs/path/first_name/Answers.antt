-- The name that a path begins with is counted and passed, or told why not.
use Rattle.std.proofs.Common.{sym, ap, ◌∙◌}
use Rattle.sql_leaves.proofs.PathSteps.{name_refused, name_over, name_taken}
use Rattle.sql_leaves.proofs.path.first_name.Goals as goal

pub returns-then-not-is_path_name : goal.returns-then-not-is_path_name
returns-then-not-is_path_name c = λ m. name_refused c.args.primaries.now c.args.tokens.now.symbols (rw (← c.class.ensures) (sym c.is_path_name.ensures ∙ c.if-not-is_path_name.true))

pub returns-then-primaries-eq0 : goal.returns-then-primaries-eq0
returns-then-primaries-eq0 c = λ m. name_over c.args.primaries.now c.args.tokens.now.symbols (rw (← c.class.ensures) (sym c.is_path_name.ensures ∙ c.if-not-is_path_name.false)) c.if-primaries-eq0.true

pub returns : goal.returns
returns c =
    rw c.in_ok-found.ensures
    (name_taken c.args.primaries.now c.args.tokens.now.symbols (rw (← c.class.ensures) (sym c.is_path_name.ensures ∙ c.if-not-is_path_name.false)) c.if-primaries-eq0.false c.skip.new.self.symbols (ap (λ r. r.symbols) c.skip.ensures))
