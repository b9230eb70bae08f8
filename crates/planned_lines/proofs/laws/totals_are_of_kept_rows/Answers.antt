use Rattle.planned_lines.proofs.Kept.{totals_of_kept}
use Rattle.planned_lines.proofs.laws.totals_are_of_kept_rows.Goals as goal

pub returns : goal.returns
returns c = totals_of_kept
