-- A comma and an aggregate, where there is room for it.
use Rattle.std.proofs.Common.{sym, ◌∙◌}
use Rattle.std.proofs.lemmas.Result.{err_from_is_err_and}
use Rattle.sql_leaves.specs.Parsing.{fault_of}
use Rattle.select_sql.proofs.QuerySteps.{later_over, later_failed, later_found}
use Rattle.select_sql.proofs.totals.next_total.Goals as goal

pub returns-then-left-eq0 : goal.returns-then-left-eq0
returns-then-left-eq0 c =
    λ m. later_over c.args.primaries.now c.args.tokens.now.symbols c.in_ok-expect.ensures.0 c.expect.new.tokens.symbols c.in_ok-expect.ensures.1 (fault_of c.over_total.result) (rw (← c.class.ensures) c.over_total.ensures.1) c.args.left.now c.if-left-eq0.true

pub returns-in_err-found : goal.returns-in_err-found
returns-in_err-found c =
    let p = err_from_is_err_and c.from_residual-in_err-found.result c.from_residual-in_err-found.ensures.1 in
    rw (p.1, p.2) (λ m. later_failed c.args.primaries.now c.args.tokens.now.symbols c.in_ok-expect.ensures.0 c.expect.new.tokens.symbols c.in_ok-expect.ensures.1 c.args.left.now c.if-left-eq0.false (fault_of c.in_err-found.field-0.0) c.later_total.new.tokens.symbols (c.in_err-found.ensures m))

pub returns : goal.returns
returns c =
    later_found c.args.primaries.now c.args.tokens.now.symbols c.in_ok-expect.ensures.0 c.expect.new.tokens.symbols c.in_ok-expect.ensures.1 c.args.left.now c.if-left-eq0.false c.in_ok-found.found c.later_total.new.primaries c.later_total.new.tokens.symbols c.in_ok-found.ensures
