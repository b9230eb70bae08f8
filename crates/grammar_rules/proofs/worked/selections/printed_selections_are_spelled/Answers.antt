-- The law of printing.
use Rattle.grammar_rules.proofs.WorkedSelectionPrinting.{selection_spelled}
use Rattle.grammar_rules.proofs.worked.selections.printed_selections_are_spelled.Goals as goal

pub returns : goal.returns
returns c = selection_spelled 3 4
