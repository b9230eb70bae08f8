-- A number alone, or a range.
use Rattle.std.proofs.Common.{sym, ◌∙◌}
use Rattle.std.proofs.lemmas.Result.{err_from_is_err_and}
use Rattle.grammar_rules.specs.WorkedSelecting.{fault_of}
use Rattle.grammar_rules.proofs.WorkedSelectionSteps.{number_alone, range_found, range_failed}
use Rattle.grammar_rules.proofs.worked.selections.number_rest.Goals as goal

pub returns-then-not-sees-clause-gives : goal.returns-then-not-sees-clause-gives
returns-then-not-sees-clause-gives c = number_alone c.args.first c.args.values.now c.args.words.now (sym c.sees.ensures ∙ c.if-not-sees.true)

pub returns-in_err-last-clause-gives : goal.returns-in_err-last-clause-gives
returns-in_err-last-clause-gives c =
    let p = err_from_is_err_and c.from_residual.result c.from_residual.ensures.1 in
    rw (p.1, p.2)
    (λ n. range_failed c.args.first c.args.values.now c.args.words.now (fault_of c.in_err-last.field-0.0) c.number.new.words (sym c.sees.ensures ∙ c.if-not-sees.false) (rw (← c.skip.ensures) (c.in_err-last.ensures.gives n)))

pub returns-clause-gives : goal.returns-clause-gives
returns-clause-gives c =
    range_found c.args.first c.args.values.now c.args.words.now c.in_ok-last.last c.number.new.values c.number.new.words (sym c.sees.ensures ∙ c.if-not-sees.false) (rw (← c.skip.ensures) c.in_ok-last.ensures.gives)
