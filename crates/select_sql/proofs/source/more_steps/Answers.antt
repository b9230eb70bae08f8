-- The loop over the steps follows the reader.
use Rattle.std.proofs.Common.{refl, sym, ◌∙◌}
use Rattle.std.proofs.lemmas.Result.{err_from_is_err_and}
use Rattle.sql_leaves.specs.Parsing.{fault_of}
use Rattle.select_sql.proofs.QuerySteps.{steps_stop, steps_over, steps_fail, steps_on, step_shorter}
use Rattle.select_sql.proofs.source.more_steps.Goals as goal

pub returns-then-left-eq0 : goal.returns-then-left-eq0
returns-then-left-eq0 c = λ n m. c.steps.invariant n ∙ steps_over c.steps.all n c.steps.tokens.symbols c.steps.left (rw (← c.class.ensures) (sym c.is_step.ensures ∙ c.steps-test.true)) c.if-left-eq0.true

pub returns-in_err-next : goal.returns-in_err-next
returns-in_err-next c =
    let p = err_from_is_err_and c.from_residual.result c.from_residual.ensures.1 in
    rw (p.1, p.2)
    (λ n m. c.steps.invariant n ∙ steps_fail c.steps.all n c.steps.tokens.symbols c.steps.left (rw (← c.class.ensures) (sym c.is_step.ensures ∙ c.steps-test.true)) c.if-left-eq0.false (fault_of c.in_err-next.field-0.0) c.step.new.tokens.symbols (c.in_err-next.ensures n m))

pub steps-smaller : goal.steps-smaller
steps-smaller c = step_shorter c.steps.tokens.symbols c.in_ok-next.next c.step.new.tokens.symbols (c.in_ok-next.ensures 0)

pub steps-preserved : goal.steps-preserved
steps-preserved c =
    rw c.in_ok-push.ensures.ok
    (λ n. c.steps.invariant n ∙ steps_on c.steps.all n c.steps.tokens.symbols c.steps.left (rw (← c.class.ensures) (sym c.is_step.ensures ∙ c.steps-test.true)) c.if-left-eq0.false c.in_ok-next.next c.step.new.tokens.symbols (c.in_ok-next.ensures n))

pub returns : goal.returns
returns c = λ n. c.steps.invariant n ∙ steps_stop c.steps.all n c.steps.tokens.symbols c.steps.left (rw (← c.class.ensures) (sym c.is_step.ensures ∙ c.steps-test.false))
