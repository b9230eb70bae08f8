-- An item where there is room for it.
use Rattle.std.proofs.Common.{◌∙◌, sym, ap}
use Rattle.grammar_rules.specs.Readers.{failed}
use Rattle.grammar_rules.proofs.WorkedSelectionSteps.{listed_over, listed_gives}
use Rattle.grammar_rules.proofs.worked.selections.listed.Goals as goal

pub returns-then-left-eq0-clause-gives : goal.returns-then-left-eq0-clause-gives
returns-then-left-eq0-clause-gives c =
    λ n. listed_over c.args.left.now c.args.values.now c.args.words.now c.if-left-eq0.true ∙ ap (λ k. failed k c.args.words.now) (sym c.over.ensures.1)

pub returns-clause-gives : goal.returns-clause-gives
returns-clause-gives c =
    listed_gives c.args.left.now c.args.values.now c.args.words.now c.if-left-eq0.false c.one_item.result c.one_item.new.values c.one_item.new.words c.one_item.ensures.gives
