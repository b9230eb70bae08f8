-- What the loop over the names has read.
use Rattle.std.proofs.Common.{◌≡◌, ◌≤◌, length}
use Rattle.grammar_rules.specs.WorkedSelectionReaders.{read_name_rest}
use Rattle.grammar_rules.proofs.WorkedSelectionSteps.{names_left}
use Rattle.grammar_rules.proofs.worked.selections.name_rest.Given as goal

abbrev pub invariant-names : goal.invariant-names
invariant-names l = record {
  reads : read_name_rest l.fn.first l.fn.values l.fn.words ≡ names_left l.fn.first l.names l.values l.words;
  passes : length l.words ≤ length l.fn.words;
}

abbrev pub decreases-names : goal.decreases-names
decreases-names l = length l.words
