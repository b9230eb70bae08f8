-- The loop over the steps follows the reader of a path.
use Rattle.std.proofs.Common.{sym, ◌∙◌}
use Rattle.std.proofs.lemmas.Result.{err_from_is_err_and}
use Rattle.sql_leaves.specs.Parsing.{fault_of}
use Rattle.sql_leaves.proofs.PathSteps.{path_begin, path_none, step_shorter, path_step_on, path_stop, path_fail}
use Rattle.sql_leaves.proofs.path.path.Goals as goal

pub returns-in_err-first : goal.returns-in_err-first
returns-in_err-first c =
    let p = err_from_is_err_and c.from_residual.result c.from_residual.ensures.1 in
    rw (p.1, p.2)
    (λ m. path_none c.args.primaries.now c.args.tokens.now.symbols (fault_of c.in_err-first.field-0.0) c.first_name.new.tokens.symbols (c.in_err-first.ensures m))

pub steps-init : goal.steps-init
steps-init c =
    rw (c.in_ok-push.ensures.ok, c.new-steps.ensures)
    (path_begin c.args.primaries.now c.args.tokens.now.symbols c.in_ok-first.first c.first_name.new.primaries c.first_name.new.tokens.symbols c.in_ok-first.ensures)

pub returns-in_err-step : goal.returns-in_err-step
returns-in_err-step c =
    let p = err_from_is_err_and c.from_residual-in_err-step.result c.from_residual-in_err-step.ensures.1 in
    let n = c.first_name.new.primaries in
    rw (p.1, p.2)
    (λ m. c.steps.invariant ∙ path_fail c.steps.steps n c.steps.tokens.symbols (fault_of c.in_err-step.field-0.0) c.path_step.new.tokens.symbols (rw (← c.class.ensures) (sym c.is_step.ensures ∙ c.steps-test.true)) (c.in_err-step.ensures n m))

pub steps-smaller : goal.steps-smaller
steps-smaller c = step_shorter c.steps.tokens.symbols c.in_ok-step.step c.path_step.new.tokens.symbols (c.in_ok-step.ensures 0)

pub steps-preserved : goal.steps-preserved
steps-preserved c =
    let n = c.first_name.new.primaries in
    rw c.in_ok-push-2.ensures.ok
    (c.steps.invariant ∙ path_step_on c.steps.steps n c.steps.tokens.symbols c.in_ok-step.step c.path_step.new.tokens.symbols (rw (← c.class.ensures) (sym c.is_step.ensures ∙ c.steps-test.true)) (c.in_ok-step.ensures n))

pub returns : goal.returns
returns c = c.steps.invariant ∙ path_stop c.steps.steps c.first_name.new.primaries c.steps.tokens.symbols (rw (← c.class.ensures) (sym c.is_step.ensures ∙ c.steps-test.false))
