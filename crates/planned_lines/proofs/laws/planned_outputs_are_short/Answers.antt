use Rattle.planned_lines.proofs.Outputs.{lines_short}
use Rattle.planned_lines.proofs.laws.planned_outputs_are_short.Goals as goal

pub returns : goal.returns
returns c = lines_short
