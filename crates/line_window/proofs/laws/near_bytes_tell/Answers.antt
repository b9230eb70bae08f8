use Rattle.line_window.proofs.StartLaws as laws
use Rattle.line_window.proofs.laws.near_bytes_tell.Goals as goal

pub returns : goal.returns
returns c = laws.near_bytes_tell
