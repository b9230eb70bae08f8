use Rattle.planned_lines.proofs.Outputs.{lines_alone}
use Rattle.planned_lines.proofs.laws.planned_lines_are_alone.Goals as goal

pub returns : goal.returns
returns c = lines_alone
