-- A tail is what its first token tells.
use Rattle.std.proofs.Common.{sym, ap, ◌∙◌}
use Rattle.sql_grammar.specs.Expressions.{room_of}
use Rattle.sql_leaves.specs.Parsing.{read_inside}
use Rattle.sql_expressions.proofs.TailSteps.{tail_compared, tail_not, tail_negatable, tail_is}
use Rattle.sql_expressions.proofs.predicates.tail.Goals as goal

pub returns-then-is_compare_op : goal.returns-then-is_compare_op
returns-then-is_compare_op g c =
    let d = c.args.nest.now.depth in
    rw (tail_compared (room_of d) (read_inside d) c.args.value c.args.primaries.now c.args.tokens.now.symbols (rw (← c.class.ensures) (sym c.is_compare_op.ensures ∙ c.if-is_compare_op.true))) c.compared.ensures

pub returns-then-sees : goal.returns-then-sees
returns-then-sees g c =
    let d = c.args.nest.now.depth in
    rw (tail_not (room_of d) (read_inside d) c.args.value c.args.primaries.now c.args.tokens.now.symbols (rw (← c.class.ensures) (sym c.is_compare_op.ensures ∙ c.if-is_compare_op.false)) (sym c.sees.ensures ∙ c.if-sees.true) c.skip.new.self.symbols (ap (λ r. r.symbols) c.skip.ensures)) c.negatable.ensures

pub returns-then-begins_negatable : goal.returns-then-begins_negatable
returns-then-begins_negatable g c =
    let d = c.args.nest.now.depth in
    rw (tail_negatable (room_of d) (read_inside d) c.args.value c.args.primaries.now c.args.tokens.now.symbols (rw (← c.class.ensures) (sym c.is_compare_op.ensures ∙ c.if-is_compare_op.false)) (sym c.sees.ensures ∙ c.if-sees.false) (rw (← c.class-2.ensures) (sym c.begins_negatable.ensures ∙ c.if-begins_negatable.true))) c.negatable-then-begins_negatable.ensures

pub returns : goal.returns
returns g c =
    let d = c.args.nest.now.depth in
    rw (tail_is (room_of d) (read_inside d) c.args.value c.args.primaries.now c.args.tokens.now.symbols (rw (← c.class.ensures) (sym c.is_compare_op.ensures ∙ c.if-is_compare_op.false)) (rw (← c.class-2.ensures) (sym c.begins_negatable.ensures ∙ c.if-begins_negatable.false))) c.is_tail.ensures
