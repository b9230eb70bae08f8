-- A primary is what its first token tells.
use Rattle.std.proofs.Common.{sym, ◌∙◌}
use Rattle.std.proofs.lemmas.Result.{err_from_is_err_and}
use Rattle.sql_grammar.specs.Expressions.{room_of}
use Rattle.sql_leaves.specs.Parsing.{read_inside}
use Rattle.sql_expressions.proofs.PrimarySteps.{primary_path, primary_function, primary_unknown, primary_exponent, primary_group, primary_case, primary_simple}
use Rattle.sql_expressions.proofs.primary.primary.Goals as goal

pub returns-in_err-found : goal.returns-in_err-found
returns-in_err-found g c =
    let p = err_from_is_err_and c.from_residual.result c.from_residual.ensures.1 in
    let d = c.args.nest.now.depth in
    rw (p.1, p.2) (λ m. primary_path (room_of d) (read_inside d) c.args.primaries.now c.args.tokens.now.symbols (rw (← c.class-class.ensures) (sym c.is_path_name.ensures ∙ c.if-is_path_name.true)) ∙ c.in_err-found.ensures m)

pub returns-then-is_path_name : goal.returns-then-is_path_name
returns-then-is_path_name g c =
    let d = c.args.nest.now.depth in
    primary_path (room_of d) (read_inside d) c.args.primaries.now c.args.tokens.now.symbols (rw (← c.class-class.ensures) (sym c.is_path_name.ensures ∙ c.if-is_path_name.true)) ∙ rw c.in_ok-boxed.ensures c.in_ok-found.ensures

pub returns-then-is_function : goal.returns-then-is_function
returns-then-is_function g c =
    let d = c.args.nest.now.depth in
    rw (primary_function (room_of d) (read_inside d) c.args.primaries.now c.args.tokens.now.symbols (rw (← c.class-class.ensures) (sym c.is_function.ensures ∙ c.if-is_function.true)), ← c.class-class.ensures)
    c.function.ensures

pub returns-then-is_unknown_call : goal.returns-then-is_unknown_call
returns-then-is_unknown_call g c =
    let d = c.args.nest.now.depth in
    λ m. primary_unknown (room_of d) (read_inside d) c.args.primaries.now c.args.tokens.now.symbols (rw (← c.class-class.ensures) (sym c.is_unknown_call.ensures ∙ c.if-is_unknown_call.true))

pub returns-then-sees : goal.returns-then-sees
returns-then-sees g c =
    let d = c.args.nest.now.depth in
    λ m. primary_exponent (room_of d) (read_inside d) c.args.primaries.now c.args.tokens.now.symbols (sym c.sees.ensures ∙ c.if-sees.true)

pub returns-then-sees-2 : goal.returns-then-sees-2
returns-then-sees-2 g c =
    let d = c.args.nest.now.depth in
    rw (primary_group (room_of d) (read_inside d) c.args.primaries.now c.args.tokens.now.symbols (sym c.sees-2.ensures ∙ c.if-sees-2.true)) c.group.ensures

pub returns-then-sees-3 : goal.returns-then-sees-3
returns-then-sees-3 g c =
    let d = c.args.nest.now.depth in
    rw (primary_case (room_of d) (read_inside d) c.args.primaries.now c.args.tokens.now.symbols (sym c.sees-3.ensures ∙ c.if-sees-3.true)) c.case.ensures

pub returns : goal.returns
returns g c =
    let d = c.args.nest.now.depth in
    rw (primary_simple (room_of d) (read_inside d) c.args.primaries.now c.args.tokens.now.symbols
    (rw (← c.class-class.ensures) (sym c.is_path_name.ensures ∙ c.if-is_path_name.false)) (rw (← c.class-class.ensures) (sym c.is_function.ensures ∙ c.if-is_function.false)) (rw (← c.class-class.ensures) (sym c.is_unknown_call.ensures ∙ c.if-is_unknown_call.false))
    (sym c.sees.ensures ∙ c.if-sees.false) (sym c.sees-2.ensures ∙ c.if-sees-2.false) (sym c.sees-3.ensures ∙ c.if-sees-3.false))
    c.literal.ensures
