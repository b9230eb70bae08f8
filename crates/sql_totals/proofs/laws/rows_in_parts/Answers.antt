use Rattle.sql_totals.proofs.OfRows.{in_parts}
use Rattle.sql_totals.proofs.laws.rows_in_parts.Goals as goal

pub returns : goal.returns
returns c = in_parts
