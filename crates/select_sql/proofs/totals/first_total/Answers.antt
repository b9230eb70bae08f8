-- A value and its name.
use Rattle.std.proofs.lemmas.Result.{err_from_is_err_and}
use Rattle.sql_grammar.specs.QueryReaders.{read_any_agg}
use Rattle.sql_leaves.specs.Parsing.{fault_of}
use Rattle.select_sql.proofs.QuerySteps.{total_unnamed, total_named}
use Rattle.select_sql.proofs.totals.first_total.Goals as goal

pub returns-in_err-name : goal.returns-in_err-name
returns-in_err-name c =
    let p = err_from_is_err_and c.from_residual-in_err-name.result c.from_residual-in_err-name.ensures.1 in
    let m = c.any_agg.new.primaries in
    rw (p.1, p.2) (λ z. total_unnamed c.args.primaries.now c.args.tokens.now.symbols read_any_agg c.in_ok-agg.agg m c.any_agg.new.tokens.symbols c.in_ok-agg.ensures (fault_of c.in_err-name.field-0.0) c.as_name.new.tokens.symbols (c.in_err-name.ensures m z))

pub returns : goal.returns
returns c =
    let m = c.any_agg.new.primaries in
    rw c.into_inner.ensures (total_named c.args.primaries.now c.args.tokens.now.symbols read_any_agg c.in_ok-agg.agg m c.any_agg.new.tokens.symbols c.in_ok-agg.ensures c.in_ok-name.name c.as_name.new.tokens.symbols (c.in_ok-name.ensures m))
