-- The outcome of the whole text is its answer.
use Rattle.std.proofs.Common.{◌-◌, length, Ok, Err, sym, ap, ◌∙◌, arith}
use Rattle.grammar_rules.specs.Places.{named_first}
use Rattle.grammar_rules.specs.WorkedSelections.{star_name}
use Rattle.grammar_rules.specs.WorkedSelecting.{refused_at, error_of, answer_of}
use Rattle.grammar_rules.proofs.WorkedSelectionAnswers.{at_end, before_end, stopped, only_said}
use Rattle.grammar_rules.proofs.worked.selections.read_selection_of.Goals as goal

pub overflow_sub-at : goal.overflow_sub-at
overflow_sub-at c = let l = ap length c.new-cursor.ensures in rw c.len-left.ensures (omega (arith, c.whole-outcome.ensures.passes))

pub returns-then-left-eq0-clause-sound : goal.returns-then-left-eq0-clause-sound
returns-then-left-eq0-clause-sound c =
    at_end c.args.words.now c.in-Ok.value c.whole-outcome.new.words (rw c.new-cursor.ensures at c.in-Ok.ensures.gives) (sym c.len-left.ensures ∙ c.if-left-eq0.true)

pub returns-then-left-eq0-clause-complete : goal.returns-then-left-eq0-clause-complete
returns-then-left-eq0-clause-complete c =
    let s = at_end c.args.words.now c.in-Ok.value c.whole-outcome.new.words (rw c.new-cursor.ensures at c.in-Ok.ensures.gives) (sym c.len-left.ensures ∙ c.if-left-eq0.true) in
    only_said c.args.words.now (answer_of (Ok c.in-Ok.value)) s

pub returns-else-left-eq0-clause-sound : goal.returns-else-left-eq0-clause-sound
returns-else-left-eq0-clause-sound c =
    rw (c.refused.ensures, c.len-left.ensures)
    (before_end c.args.words.now c.in-Ok.value c.whole-outcome.new.words (rw c.new-cursor.ensures at c.in-Ok.ensures.gives) (λ q. c.if-left-eq0.false (c.len-left.ensures ∙ q)))

pub returns-else-left-eq0-clause-complete : goal.returns-else-left-eq0-clause-complete
returns-else-left-eq0-clause-complete c =
    let s = before_end c.args.words.now c.in-Ok.value c.whole-outcome.new.words (rw c.new-cursor.ensures at c.in-Ok.ensures.gives) (λ q. c.if-left-eq0.false (c.len-left.ensures ∙ q)) in
    rw (c.refused.ensures, c.len-left.ensures)
    (only_said c.args.words.now (answer_of (Err (refused_at (named_first star_name c.whole-outcome.new.words) (length c.args.words.now - length c.whole-outcome.new.words)))) s)

pub returns-in-Err : goal.returns-in-Err
returns-in-Err c =
    let s = stopped c.args.words.now c.in-Err.stop c.whole-outcome.new.words (rw c.new-cursor.ensures at c.in-Err.ensures.gives) in
    rw (c.stopped.ensures, c.len-left.ensures)
    (record {
      sound = s;
      complete = only_said c.args.words.now (answer_of (Err (error_of c.in-Err.stop c.whole-outcome.new.words (length c.args.words.now - length c.whole-outcome.new.words)))) s;
    })
