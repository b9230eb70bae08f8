-- The limit, and a semicolon or none.
use Rattle.std.proofs.Common.{sym, ap, ◌∙◌}
use Rattle.std.proofs.lemmas.Result.{err_from_is_err_and}
use Rattle.sql_leaves.specs.Parsing.{fault_of}
use Rattle.select_sql.proofs.SelectSteps.{ending_failed, ending_closed, ending_open}
use Rattle.select_sql.proofs.query.ending.Goals as goal

pub returns-in_err-found : goal.returns-in_err-found
returns-in_err-found c =
    let p = err_from_is_err_and c.from_residual.result c.from_residual.ensures.1 in
    rw (p.1, p.2) (λ m. ending_failed c.args.tokens.now.symbols (fault_of c.in_err-found.field-0.0) c.limit.new.tokens.symbols (c.in_err-found.ensures m))

pub returns-then-sees : goal.returns-then-sees
returns-then-sees c = ending_closed c.args.tokens.now.symbols c.in_ok-found.found c.limit.new.tokens.symbols c.in_ok-found.ensures c.skip.new.self.symbols (sym c.sees.ensures ∙ c.if-sees.true) (ap (λ r. r.symbols) c.skip.ensures)

pub returns : goal.returns
returns c = ending_open c.args.tokens.now.symbols c.in_ok-found.found c.limit.new.tokens.symbols c.in_ok-found.ensures (sym c.sees.ensures ∙ c.if-sees.false)
