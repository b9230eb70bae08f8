use Rattle.sql_totals.proofs.OfValues.{of_values, values-append}
use Rattle.sql_totals.proofs.laws.totals_of_values.Goals as goal

pub returns-clause-value : goal.returns-clause-value
returns-clause-value c = of_values

pub returns-clause-parts : goal.returns-clause-parts
returns-clause-parts c = values-append
