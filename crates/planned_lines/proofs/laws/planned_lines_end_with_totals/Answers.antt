use Rattle.planned_lines.proofs.Totalled.{lines_end}
use Rattle.planned_lines.proofs.laws.planned_lines_end_with_totals.Goals as goal

pub returns : goal.returns
returns c = lines_end
