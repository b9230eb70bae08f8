-- A name, a dot and a star, or not.
use Rattle.std.proofs.Common.{sym, ◌∙◌, refl}
use Rattle.grammar_rules.proofs.WorkedSelectionSteps.{all_unnamed, all_undotted, all_unstarred, all_taken}
use Rattle.grammar_rules.proofs.worked.selections.all_of.Goals as goal

pub returns-in_default-clause-gives : goal.returns-in_default-clause-gives
returns-in_default-clause-gives c = (all_unnamed c.args.words.now (rw c.again-ahead.ensures at c.in_default.ensures), refl)

pub returns-then-not-sees-clause-gives : goal.returns-then-not-sees-clause-gives
returns-then-not-sees-clause-gives c = (
  all_undotted c.args.words.now c.in-Some.name (rw c.again-ahead.ensures at c.in-Some.ensures)
      (rw (c.skip.ensures, c.again-ahead.ensures) at (sym c.sees.ensures ∙ c.if-not-sees.true)),
  refl,
)

pub returns-then-not-sees-2-clause-gives : goal.returns-then-not-sees-2-clause-gives
returns-then-not-sees-2-clause-gives c = (
  all_unstarred c.args.words.now c.in-Some.name (rw c.again-ahead.ensures at c.in-Some.ensures)
      (rw (c.skip.ensures, c.again-ahead.ensures) at (sym c.sees.ensures ∙ c.if-not-sees.false))
      (rw (c.skip-2.ensures, c.skip.ensures, c.again-ahead.ensures) at (sym c.sees-2.ensures ∙ c.if-not-sees-2.true)),
  refl,
)

pub returns-clause-gives : goal.returns-clause-gives
returns-clause-gives c =
    rw (c.skip-3.ensures, c.skip-2.ensures, c.skip.ensures, c.again-ahead.ensures)
    (all_taken c.args.words.now c.in-Some.name (rw c.again-ahead.ensures at c.in-Some.ensures)
    (rw (c.skip.ensures, c.again-ahead.ensures) at (sym c.sees.ensures ∙ c.if-not-sees.false))
    (rw (c.skip-2.ensures, c.skip.ensures, c.again-ahead.ensures) at (sym c.sees-2.ensures ∙ c.if-not-sees-2.false)))
