use Rattle.sql_timestamp.proofs.Dates.{date_of_day, date_alone}
use Rattle.sql_timestamp.proofs.laws.each_day_has_one_date.Goals as goal

pub returns-clause-date : goal.returns-clause-date
returns-clause-date c = date_of_day

pub returns-clause-alone : goal.returns-clause-alone
returns-clause-alone c = date_alone
