use Rattle.std.proofs.Common.{refl, ◌≡◌, ◌/◌, ◌%◌, arith, pos, to_z, of_z, w64}
use Rattle.std.specs.Prelude.{int_div, int_rem}
use Rattle.jiff_core.proofs.SignedLemmas.{signed_arith, one_part}
use Rattle.sql_timestamp.specs.Instants.{local_day}
use Rattle.sql_timestamp.proofs.Moves.{year_told, month_told, day_told, hour_told, minute_told, second_told, zone_hour_told, zone_minute_told}
use Rattle.sql_timestamp.proofs.stamp.Stamp.extract.Goals as goal

pub returns-in-Year : goal.returns-in-Year
returns-in-Year c =
    let range = c.date.result.year_in in
    let same : to_z w64 (of_z w64 c.from.result) ≡ c.date.result.year = omega (arith, signed_arith, one_part) in
    rw c.in-Year.is (year_told c.args.self.now (local_day c.args.self.now) c.date.result.year (to_z w64 (of_z w64 c.from.result)) refl c.date.ensures.year same)

pub returns-in-Month : goal.returns-in-Month
returns-in-Month c =
    let range = c.date-in-Month.result.month_in in
    let same : to_z w64 (of_z w64 c.from-in-Month.result) ≡ pos c.date-in-Month.result.month = omega (arith, signed_arith, one_part) in
    rw c.in-Month.is (month_told c.args.self.now (local_day c.args.self.now) c.date-in-Month.result.month (to_z w64 (of_z w64 c.from-in-Month.result)) refl c.date-in-Month.ensures.month same)

pub returns-in-Day : goal.returns-in-Day
returns-in-Day c =
    let range = c.date-in-Day.result.day_in in
    let same : to_z w64 (of_z w64 c.from-in-Day.result) ≡ pos c.date-in-Day.result.day = omega (arith, signed_arith, one_part) in
    rw c.in-Day.is (day_told c.args.self.now (local_day c.args.self.now) c.date-in-Day.result.day (to_z w64 (of_z w64 c.from-in-Day.result)) refl c.date-in-Day.ensures.day same)

pub returns-in-Hour : goal.returns-in-Hour
returns-in-Hour c =
    let bound = c.shown.ensures.second in
    let same : to_z w64 (of_z w64 c.from-in-Hour.result) ≡ pos (c.shown.result.second / 3_600) = omega (arith, signed_arith, one_part) in
    rw c.in-Hour.is (hour_told c.args.self.now c.shown.result.second c.shown.result.nanosecond (to_z w64 (of_z w64 c.from-in-Hour.result)) c.shown.ensures.time c.shown.ensures.nanosecond same)

pub returns-in-Minute : goal.returns-in-Minute
returns-in-Minute c =
    let bound = c.shown-in-Minute.ensures.second in
    let same : to_z w64 (of_z w64 c.from-in-Minute.result) ≡ pos (c.shown-in-Minute.result.second / 60 % 60) = omega (arith, signed_arith, one_part) in
    rw c.in-Minute.is (minute_told c.args.self.now c.shown-in-Minute.result.second c.shown-in-Minute.result.nanosecond (to_z w64 (of_z w64 c.from-in-Minute.result)) c.shown-in-Minute.ensures.time c.shown-in-Minute.ensures.nanosecond same)

pub returns-in-Second : goal.returns-in-Second
returns-in-Second c =
    let bound = c.shown-in-Second.ensures.second in
    let same : to_z w64 (of_z w64 c.from-in-Second.result) ≡ pos (c.shown-in-Second.result.second % 60) = omega (arith, signed_arith, one_part) in
    rw c.in-Second.is (second_told c.args.self.now c.shown-in-Second.result.second c.shown-in-Second.result.nanosecond (to_z w64 (of_z w64 c.from-in-Second.result)) c.shown-in-Second.ensures.time c.shown-in-Second.ensures.nanosecond same)

pub returns-in-TimezoneHour : goal.returns-in-TimezoneHour
returns-in-TimezoneHour c =
    let low = c.offset.ensures.low in
    let high = c.offset.ensures.high in
    let side = one_part c.offset.result in
    let same : to_z w64 (of_z w64 c.from-in-TimezoneHour.result) ≡ int_div c.offset.result (pos 60) = omega (arith, signed_arith, one_part) in
    rw c.in-TimezoneHour.is (zone_hour_told c.args.self.now c.offset.result (to_z w64 (of_z w64 c.from-in-TimezoneHour.result)) c.offset.ensures.value same)

pub returns-in-TimezoneMinute : goal.returns-in-TimezoneMinute
returns-in-TimezoneMinute c =
    let low = c.offset-in-TimezoneMinute.ensures.low in
    let high = c.offset-in-TimezoneMinute.ensures.high in
    let side = one_part c.offset-in-TimezoneMinute.result in
    let same : to_z w64 (of_z w64 c.from-in-TimezoneMinute.result) ≡ int_rem c.offset-in-TimezoneMinute.result (pos 60) = omega (arith, signed_arith, one_part) in
    rw c.in-TimezoneMinute.is (zone_minute_told c.args.self.now c.offset-in-TimezoneMinute.result (to_z w64 (of_z w64 c.from-in-TimezoneMinute.result)) c.offset-in-TimezoneMinute.ensures.value same)
