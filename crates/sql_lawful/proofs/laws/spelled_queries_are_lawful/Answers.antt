use Rattle.sql_lawful.proofs.Queries.{each_spelled_is_lawful, each_spelled_is_shallow}
use Rattle.sql_lawful.proofs.laws.spelled_queries_are_lawful.Goals as goal

-- src/laws.rt:6:1
pub returns-clause-lawful : goal.returns-clause-lawful
returns-clause-lawful c = each_spelled_is_lawful

-- src/laws.rt:6:1
pub returns-clause-shallow : goal.returns-clause-shallow
returns-clause-shallow c = each_spelled_is_shallow
