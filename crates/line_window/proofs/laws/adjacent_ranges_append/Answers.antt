use Rattle.line_window.proofs.StartLaws as laws
use Rattle.line_window.proofs.laws.adjacent_ranges_append.Goals as goal

pub returns-clause-starts : goal.returns-clause-starts
returns-clause-starts c = laws.adjacent_starts_append

pub returns-clause-cuts : goal.returns-clause-cuts
returns-clause-cuts c = laws.adjacent_cuts_append
