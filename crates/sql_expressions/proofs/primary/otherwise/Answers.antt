-- ELSE or nothing, and END.
use Rattle.std.proofs.lemmas.Result.{err_from_is_err_and}
use Rattle.sql_grammar.specs.Expressions.{room_of}
use Rattle.sql_leaves.specs.Parsing.{fault_of, read_inside}
use Rattle.sql_expressions.proofs.WordSteps.{otherwise_failed, otherwise_open, otherwise_found}
use Rattle.sql_expressions.proofs.primary.otherwise.Goals as goal

pub returns-in_err-value : goal.returns-in_err-value
returns-in_err-value g c =
    let p = err_from_is_err_and c.from_residual.result c.from_residual.ensures.1 in
    let d = c.args.nest.now.depth in
    rw (p.1, p.2) (λ m. otherwise_failed (room_of d) (read_inside d) c.args.primaries.now c.args.tokens.now.symbols (fault_of c.in_err-value.field-0.0) c.maybe_behind.new.tokens.symbols (c.in_err-value.ensures m))

pub returns-in_err-expect : goal.returns-in_err-expect
returns-in_err-expect g c =
    let p = err_from_is_err_and c.from_residual-in_err-expect.result c.from_residual-in_err-expect.ensures.1 in
    let h = c.in_err-expect.ensures in
    let d = c.args.nest.now.depth in
    rw (p.1, p.2, h.2, h.1) (λ m. otherwise_open (room_of d) (read_inside d) c.args.primaries.now c.args.tokens.now.symbols c.in_ok-value.value c.maybe_behind.new.primaries c.maybe_behind.new.tokens.symbols c.in_ok-value.ensures h.0)

pub returns : goal.returns
returns g c =
    let h = c.in_ok-expect.ensures in
    let d = c.args.nest.now.depth in
    rw h.1 (otherwise_found (room_of d) (read_inside d) c.args.primaries.now c.args.tokens.now.symbols c.in_ok-value.value c.maybe_behind.new.primaries c.maybe_behind.new.tokens.symbols c.in_ok-value.ensures h.0)
