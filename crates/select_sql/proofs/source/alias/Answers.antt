-- A name with AS or without it, or nothing.
use Rattle.std.proofs.Common.{sym, ap, ◌∙◌}
use Rattle.std.proofs.lemmas.Result.{err_from_is_err_and}
use Rattle.sql_leaves.specs.Parsing.{fault_of}
use Rattle.select_sql.proofs.SelectSteps.{alias_failed, alias_found, alias_none}
use Rattle.select_sql.proofs.source.alias.Goals as goal

pub returns-in_err-found : goal.returns-in_err-found
returns-in_err-found c =
    let p = err_from_is_err_and c.from_residual.result c.from_residual.ensures.1 in
    rw (p.1, p.2) (λ n m. alias_failed n c.args.tokens.now.symbols c.skip.new.self.symbols (sym c.sees.ensures ∙ c.if-sees.true) (ap (λ r. r.symbols) c.skip.ensures) (fault_of c.in_err-found.field-0.0) c.name.new.tokens.symbols (c.in_err-found.ensures m))

pub returns-then-sees : goal.returns-then-sees
returns-then-sees c = λ n. alias_found n c.args.tokens.now.symbols c.skip.new.self.symbols (sym c.sees.ensures ∙ c.if-sees.true) (ap (λ r. r.symbols) c.skip.ensures) c.in_ok-found.found c.name.new.tokens.symbols c.in_ok-found.ensures

pub returns : goal.returns
returns c = λ n. alias_none n c.args.tokens.now.symbols (sym c.sees.ensures ∙ c.if-sees.false) (rw (← c.class.ensures) (sym c.is_name.ensures ∙ c.if-is_name.false))
