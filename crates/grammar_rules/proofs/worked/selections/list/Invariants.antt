-- What the loop over the items has read.
use Rattle.std.proofs.Common.{◌≡◌, ◌≤◌, length}
use Rattle.grammar_rules.specs.WorkedSelectionReaders.{read_items}
use Rattle.grammar_rules.proofs.WorkedSelectionSteps.{items_left}
use Rattle.grammar_rules.proofs.worked.selections.list.Given as goal

abbrev pub invariant-items : goal.invariant-items
invariant-items l = record {
  reads : read_items 3 4 l.fn.words ≡ items_left l.found l.left l.values l.words;
  passes : length l.words ≤ length l.fn.words;
}

abbrev pub decreases-items : goal.decreases-items
decreases-items l = length l.words
