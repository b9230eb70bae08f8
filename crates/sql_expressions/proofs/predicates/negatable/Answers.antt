-- BETWEEN, IN or LIKE.
use Rattle.std.proofs.Common.{sym, ◌∙◌}
use Rattle.sql_grammar.specs.Expressions.{room_of}
use Rattle.sql_leaves.specs.Parsing.{read_inside}
use Rattle.sql_expressions.proofs.TailSteps.{negatable_between, negatable_in, negatable_like}
use Rattle.sql_expressions.proofs.predicates.negatable.Goals as goal

pub returns-then-sees : goal.returns-then-sees
returns-then-sees g c =
    let d = c.args.nest.now.depth in
    rw (negatable_between (room_of d) (read_inside d) c.args.value c.args.primaries.now c.args.tokens.now.symbols c.args.negated (sym c.sees.ensures ∙ c.if-sees.true)) c.between.ensures

pub returns-then-sees-2 : goal.returns-then-sees-2
returns-then-sees-2 g c =
    let d = c.args.nest.now.depth in
    rw (negatable_in (room_of d) (read_inside d) c.args.value c.args.primaries.now c.args.tokens.now.symbols c.args.negated (sym c.sees.ensures ∙ c.if-sees.false) (sym c.sees-2.ensures ∙ c.if-sees-2.true)) c.among.ensures

pub returns : goal.returns
returns g c =
    let d = c.args.nest.now.depth in
    rw (negatable_like (room_of d) (read_inside d) c.args.value c.args.primaries.now c.args.tokens.now.symbols c.args.negated (sym c.sees.ensures ∙ c.if-sees.false) (sym c.sees-2.ensures ∙ c.if-sees-2.false)) c.like.ensures
