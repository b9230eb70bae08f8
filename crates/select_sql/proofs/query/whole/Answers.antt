-- SELECT, what is selected, and what follows.
use Rattle.std.proofs.Common.{sym, ap, ◌∙◌}
use Rattle.std.proofs.lemmas.Result.{err_from_is_err_and}
use Rattle.sql_leaves.specs.Parsing.{fault_of}
use Rattle.select_sql.specs.Written.{listed}
use Rattle.select_sql.proofs.SelectSteps.{whole_none, whole_listless, whole_listed}
use Rattle.select_sql.proofs.query.whole.Goals as goal

pub returns-in_err-expect : goal.returns-in_err-expect
returns-in_err-expect c =
    let p = err_from_is_err_and c.from_residual.result c.from_residual.ensures.1 in
    let h = c.in_err-expect.ensures in
    rw (p.1, p.2, h.2, h.1) (λ m. whole_none c.args.primaries.now c.args.tokens.now.symbols h.0)

pub returns-in_err-list : goal.returns-in_err-list
returns-in_err-list c =
    let p = err_from_is_err_and c.from_residual-in_err-list.result c.from_residual-in_err-list.ensures.1 in
    rw (p.1, p.2) (λ m. whole_listless c.args.primaries.now c.args.tokens.now.symbols c.in_ok-expect.ensures.0 c.expect.new.tokens.symbols c.in_ok-expect.ensures.1 (fault_of c.in_err-list.field-0.0) c.select_list.new.tokens.symbols (c.in_err-list.ensures m))

pub returns : goal.returns
returns c = rw (whole_listed c.args.primaries.now c.args.tokens.now.symbols c.in_ok-expect.ensures.0 c.expect.new.tokens.symbols c.in_ok-expect.ensures.1 (listed c.in_ok-list.list) c.select_list.new.primaries c.select_list.new.tokens.symbols c.in_ok-list.ensures) c.behind_list.ensures
