-- A number is counted and passed, or told why not.
use Rattle.grammar_rules.proofs.WorkedSelectionSteps.{number_refused, number_over, number_taken}
use Rattle.grammar_rules.proofs.worked.selections.number.Goals as goal

pub returns-in_default-clause-gives : goal.returns-in_default-clause-gives
returns-in_default-clause-gives c = λ n. number_refused c.args.values.now c.args.words.now c.in_default.ensures

pub returns-then-values-eq0-clause-gives : goal.returns-then-values-eq0-clause-gives
returns-then-values-eq0-clause-gives c = λ n. number_over c.args.values.now c.args.words.now c.in-Some.value c.in-Some.ensures c.if-values-eq0.true

pub returns-clause-gives : goal.returns-clause-gives
returns-clause-gives c = number_taken c.args.values.now c.args.words.now c.in-Some.value c.skip.new.self c.in-Some.ensures c.if-values-eq0.false c.skip.ensures
