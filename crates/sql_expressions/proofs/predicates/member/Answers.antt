-- A member, where there is room for it.
use Rattle.std.proofs.Common.{refl}
use Rattle.std.proofs.lemmas.Result.{err_from_is_err_and}
use Rattle.sql_grammar.specs.Expressions.{room_of, over_class}
use Rattle.sql_leaves.specs.Parsing.{fault_of, read_inside}
use Rattle.sql_expressions.proofs.ItemSteps.{item_over, item_failed, item_found}
use Rattle.sql_expressions.proofs.predicates.member.Goals as goal

pub returns-then-left-eq0 : goal.returns-then-left-eq0
returns-then-left-eq0 g c = λ m. item_over (over_class (room_of c.args.nest.now.depth).deeper) refl (read_inside c.args.nest.now.depth) c.args.primaries.now c.args.tokens.now.symbols c.args.left.now c.if-left-eq0.true (fault_of c.over_member.result) (rw (← c.class.ensures) c.over_member.ensures.1)

pub returns-in_err-value : goal.returns-in_err-value
returns-in_err-value g c =
    let p = err_from_is_err_and c.from_residual.result c.from_residual.ensures.1 in
    rw (p.1, p.2) (λ m. item_failed (over_class (room_of c.args.nest.now.depth).deeper) refl (read_inside c.args.nest.now.depth) c.args.primaries.now c.args.tokens.now.symbols c.args.left.now c.if-left-eq0.false (fault_of c.in_err-value.field-0.0) c.inside.new.tokens.symbols (c.in_err-value.ensures m))

pub returns : goal.returns
returns g c = item_found (over_class (room_of c.args.nest.now.depth).deeper) refl (read_inside c.args.nest.now.depth) c.args.primaries.now c.args.tokens.now.symbols c.args.left.now c.if-left-eq0.false c.in_ok-value.value c.inside.new.primaries c.inside.new.tokens.symbols c.in_ok-value.ensures
