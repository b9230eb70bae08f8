-- A sum with a tail.
use Rattle.std.proofs.Common.{sym, ◌∙◌}
use Rattle.sql_grammar.specs.Expressions.{room_of}
use Rattle.sql_leaves.specs.Parsing.{read_inside}
use Rattle.sql_expressions.proofs.TailSteps.{pred_tail}
use Rattle.sql_expressions.proofs.predicates.pred.Goals as goal

pub returns : goal.returns
returns g c =
    let d = c.args.nest.now.depth in
    rw (pred_tail (room_of d) (read_inside d) c.args.primaries.now c.args.tokens.now.symbols c.in_ok-value.value c.sum.new.primaries c.sum.new.tokens.symbols c.in_ok-value.ensures (rw (← c.class.ensures) (sym c.begins_tail.ensures ∙ c.if-not-begins_tail.false))) c.tail.ensures
