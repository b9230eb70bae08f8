use Rattle.sql_totals.proofs.ExactSums.{sum_is_exact, average_is_exact}
use Rattle.sql_totals.proofs.laws.sums_are_exact.Goals as goal

pub returns-clause-sum : goal.returns-clause-sum
returns-clause-sum c = sum_is_exact

pub returns-clause-average : goal.returns-clause-average
returns-clause-average c = average_is_exact
