-- A name is counted and passed, or told why not.
use Rattle.grammar_rules.proofs.WorkedSelectionSteps.{name_refused, name_over, name_taken}
use Rattle.grammar_rules.proofs.worked.selections.name.Goals as goal

pub returns-in_default-clause-gives : goal.returns-in_default-clause-gives
returns-in_default-clause-gives c = λ n. name_refused c.args.values.now c.args.words.now c.in_default.ensures

pub returns-then-values-eq0-clause-gives : goal.returns-then-values-eq0-clause-gives
returns-then-values-eq0-clause-gives c = λ n. name_over c.args.values.now c.args.words.now c.in-Some.value c.in-Some.ensures c.if-values-eq0.true

pub returns-clause-gives : goal.returns-clause-gives
returns-clause-gives c = name_taken c.args.values.now c.args.words.now c.in-Some.value c.skip.new.self c.in-Some.ensures c.if-values-eq0.false c.skip.ensures
