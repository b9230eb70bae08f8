use Rattle.sql_totals.proofs.OfRows.{by_itself}
use Rattle.sql_totals.proofs.laws.totals_of_rows.Goals as goal

pub returns : goal.returns
returns c = by_itself
