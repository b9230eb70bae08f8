-- A member, where there is room for it.
use Rattle.std.proofs.Common.{true, refl, sym, ◌∙◌}
use Rattle.std.proofs.lemmas.Result.{err_from_is_err_and}
use Rattle.sql_grammar.specs.Expressions.{over_class}
use Rattle.sql_grammar.specs.QueryReaders.{read_row}
use Rattle.sql_leaves.specs.Parsing.{fault_of}
use Rattle.sql_expressions.proofs.ItemSteps.{item_over, item_failed, item_found}
use Rattle.select_sql.proofs.items.next_row.Goals as goal

pub returns-then-left-eq0 : goal.returns-then-left-eq0
returns-then-left-eq0 c = λ m. item_over (over_class true) refl read_row c.args.primaries.now c.args.tokens.now.symbols c.args.left.now c.if-left-eq0.true (fault_of c.over_member.result) (rw (← c.class.ensures) c.over_member.ensures.1)

pub returns-in_err-found : goal.returns-in_err-found
returns-in_err-found c =
    let p = err_from_is_err_and c.from_residual.result c.from_residual.ensures.1 in
    rw (p.1, p.2) (λ m. item_failed (over_class true) refl read_row c.args.primaries.now c.args.tokens.now.symbols c.args.left.now c.if-left-eq0.false (fault_of c.in_err-found.field-0.0) c.row.new.tokens.symbols (c.in_err-found.ensures m))

pub returns : goal.returns
returns c = item_found (over_class true) refl read_row c.args.primaries.now c.args.tokens.now.symbols c.args.left.now c.if-left-eq0.false c.in_ok-found.found c.row.new.primaries c.row.new.tokens.symbols c.in_ok-found.ensures
