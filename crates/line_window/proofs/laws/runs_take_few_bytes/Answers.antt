use Rattle.line_window.proofs.RunLaws as laws
use Rattle.line_window.proofs.laws.runs_take_few_bytes.Goals as goal

pub returns : goal.returns
returns c = laws.runs_take_few
