-- The first part, and the rest.
use Rattle.std.proofs.lemmas.Result.{err_from_is_err_and}
use Rattle.sql_leaves.specs.Parsing.{fault_of}
use Rattle.sql_expressions.proofs.ChainSteps.{prod_from, prod_none}
use Rattle.sql_expressions.proofs.sums.prod.Goals as goal

pub returns-in_err-first : goal.returns-in_err-first
returns-in_err-first g c =
    let p = err_from_is_err_and c.from_residual.result c.from_residual.ensures.1 in
    rw (p.1, p.2)
    (λ m. prod_none c.args.nest.now.depth c.args.primaries.now c.args.tokens.now.symbols (fault_of c.in_err-first.field-0.0) c.unary.new.tokens.symbols (c.in_err-first.ensures m))

pub returns : goal.returns
returns g c = rw (prod_from c.args.nest.now.depth c.args.primaries.now c.args.tokens.now.symbols c.in_ok-first.first c.unary.new.primaries c.unary.new.tokens.symbols c.in_ok-first.ensures) c.prod_rest.ensures
