use Rattle.std.proofs.Common.{◌≡◌, arith}
use Rattle.jiff_core.specs.Date.{epoch_day}
use Rattle.jiff_core.proofs.SignedLemmas.{signed_arith, one_part}
use Rattle.sql_timestamp.proofs.Dates.{day_between, parts_of_date}
use Rattle.sql_timestamp.proofs.parts.date_of.Goals as goal

pub overflow_add-day : goal.overflow_add-day
overflow_add-day c = let days = day_between c.args.day c.requires in omega (arith, signed_arith)

pub overflow_cast-day : goal.overflow_cast-day
overflow_cast-day c = let days = day_between c.args.day c.requires in omega (arith, signed_arith, one_part)

pub from_days_since_min-requires : goal.from_days_since_min-requires
from_days_since_min-requires c = let days = day_between c.args.day c.requires in omega (arith, signed_arith, one_part)

day_is : (c : goal.After-from_days_since_min) → epoch_day c.from_days_since_min.result ≡ c.args.day
day_is c = let days = day_between c.args.day c.requires in omega (arith, signed_arith, one_part)

pub returns-clause-year : goal.returns-clause-year
returns-clause-year c = (parts_of_date c.from_days_since_min.result c.args.day c.requires (day_is c)).0

pub returns-clause-month : goal.returns-clause-month
returns-clause-month c = (parts_of_date c.from_days_since_min.result c.args.day c.requires (day_is c)).1

pub returns-clause-day : goal.returns-clause-day
returns-clause-day c = (parts_of_date c.from_days_since_min.result c.args.day c.requires (day_is c)).2
