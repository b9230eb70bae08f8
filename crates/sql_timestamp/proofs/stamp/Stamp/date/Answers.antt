use Rattle.std.proofs.Common.{◌≡◌, arith, pos, ap, ◌∙◌, to_z, of_z, w64}
use Rattle.jiff_core.proofs.SignedLemmas.{signed_arith}
use Rattle.sql_timestamp.specs.Instants.{local_day}
use Rattle.sql_timestamp.specs.Calendars.{year_of, month_of, day_of}
use Rattle.sql_timestamp.proofs.Dates.{day_between}
use Rattle.sql_timestamp.proofs.Ranges.{kept}
use Rattle.sql_timestamp.proofs.stamp.Stamp.date.Goals as goal

passed : (c : goal.After-date_of) → to_z w64 (of_z w64 c.shown.result.day) ≡ local_day c.args.self.now
passed c = let days = day_between c.shown.result.day c.shown.ensures.year in kept w64 c.shown.result.day (omega (arith, signed_arith)) ∙ c.shown.ensures.day

pub returns-clause-year : goal.returns-clause-year
returns-clause-year c = c.date_of.ensures.year ∙ ap (λ d. pos (year_of d)) (passed c)

pub returns-clause-month : goal.returns-clause-month
returns-clause-month c = c.date_of.ensures.month ∙ ap month_of (passed c)

pub returns-clause-day : goal.returns-clause-day
returns-clause-day c = c.date_of.ensures.day ∙ ap day_of (passed c)
