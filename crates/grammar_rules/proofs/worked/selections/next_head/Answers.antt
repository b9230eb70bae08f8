-- A number or a name is counted and passed, or told why not.
use Rattle.grammar_rules.proofs.WorkedSelectionSteps.{head_refused, head_over, head_taken}
use Rattle.grammar_rules.proofs.worked.selections.next_head.Goals as goal

pub returns-in_default-clause-gives : goal.returns-in_default-clause-gives
returns-in_default-clause-gives c = λ n. head_refused c.args.values.now c.args.words.now c.in_default.ensures

pub returns-then-values-eq0-clause-gives : goal.returns-then-values-eq0-clause-gives
returns-then-values-eq0-clause-gives c = λ n. head_over c.args.values.now c.args.words.now c.in-Some.found c.in-Some.ensures c.if-values-eq0.true

pub returns-clause-gives : goal.returns-clause-gives
returns-clause-gives c = head_taken c.args.values.now c.args.words.now c.in-Some.found c.skip.new.self c.in-Some.ensures c.if-values-eq0.false c.skip.ensures
