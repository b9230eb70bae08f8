use Rattle.sql_totals.proofs.Merges.{min_is_least, max_is_greatest}
use Rattle.sql_totals.proofs.laws.extremes_are_among_values.Goals as goal

pub returns-clause-min : goal.returns-clause-min
returns-clause-min c = min_is_least

pub returns-clause-max : goal.returns-clause-max
returns-clause-max c = max_is_greatest
