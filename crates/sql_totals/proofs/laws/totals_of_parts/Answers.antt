use Rattle.sql_totals.proofs.Merges.{totals_merge}
use Rattle.sql_totals.proofs.laws.totals_of_parts.Goals as goal

pub returns : goal.returns
returns c = totals_merge
