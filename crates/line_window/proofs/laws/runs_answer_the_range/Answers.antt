use Rattle.line_window.proofs.RunLaws as laws
use Rattle.line_window.proofs.laws.runs_answer_the_range.Goals as goal

pub returns : goal.returns
returns c = laws.runs_answer_range
