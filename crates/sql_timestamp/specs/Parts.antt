-- The parts of a timestamp, and what adding to one of them gives.
use Rattle.std.specs.Prelude.{◌≡◌, ℕ, ◌≤◌, ◌≤ℤ◌, ◌+◌, ◌-◌, ◌*◌, ◌/◌, ◌%◌, min, Bool, true, false, ◌&&◌, ℤ, pos, ◌+ℤ◌, ◌*ℤ◌, unsigned_abs, int_le, int_div, int_rem, Result, Ok, Err, Option, Some, None, if◌then◌else◌}
use Rattle.std.specs.Int.{int_div_euclid, int_rem_euclid}
use Rattle.jiff_core.specs.Calendar.{days_from_civil, days_in_month}
use Rattle.sql_timestamp.specs.declared.fault.ValueFault.{ValueFault}
use Rattle.sql_timestamp.specs.declared.fault.ValueFault.TheVariants.{TimestampOutOfRange}
use Rattle.sql_timestamp.specs.declared.part.Part.{Part}
use Rattle.sql_timestamp.specs.declared.part.Part.TheVariants.{Year, Month, Day, Hour, Minute, Second, TimezoneHour, TimezoneMinute}
use Rattle.sql_timestamp.specs.Instants.{Timestamp, at_day, second_nanos, minute_nanos, hour_nanos, day_nanos, local_day, time_of_day, made}
use Rattle.sql_timestamp.specs.Calendars.{year_of, month_of, day_of}

-- a part of what the clock shows, or of its offset; the parts of an offset have its sign
abbrev pub part_of : Part → Timestamp → ℤ
part_of Year t = pos (year_of (local_day t))
part_of Month t = pos (month_of (local_day t))
part_of Day t = pos (day_of (local_day t))
part_of Hour t = pos (time_of_day t / hour_nanos)
part_of Minute t = pos (time_of_day t / minute_nanos % 60)
part_of Second t = pos (time_of_day t / second_nanos % 60)
part_of TimezoneHour t = int_div t.offset (pos 60)
part_of TimezoneMinute t = int_rem t.offset (pos 60)

unfoldable pub extracted : Part → Timestamp → ℤ
extracted part t = part_of part t

-- a part of the date or the time, and not of the offset
abbrev pub is_moved : Part → Bool
is_moved Year = true
is_moved Month = true
is_moved Day = true
is_moved Hour = true
is_moved Minute = true
is_moved Second = true
is_moved TimezoneHour = false
is_moved TimezoneMinute = false

-- a timestamp, if it is one
abbrev pub in_range : Option Timestamp → Result Timestamp ValueFault
in_range (Some t) = Ok t
in_range None = Err TimestampOutOfRange

-- so many units later
unfoldable pub units_later : ℕ → Timestamp → ℤ → Result Timestamp ValueFault
units_later unit t n = in_range (made (t.instant +ℤ n *ℤ pos unit) t.offset)

-- so many months after January of the year 0
abbrev pub month_number : ℤ → ℤ
month_number day = pos (year_of day * 12 + (month_of day - 1))

-- the day in the month of that number: the same day of the month, or its last where it has none
abbrev pub cut_day : ℤ → ℕ → ℕ → ℤ
cut_day y m d = days_from_civil y m (min d (days_in_month y m))

-- in the month m of the year y, if that is from 1 to 9999
abbrev pub in_month : ℤ → ℕ → Timestamp → Result Timestamp ValueFault
in_month y m t =
    if int_le (pos 1) y && int_le y (pos 9999) then Ok (at_day (cut_day y m (day_of (local_day t))) (time_of_day t) t.offset)
    else Err TimestampOutOfRange

-- the month of that number: the months since January of the year 0
pub record IsMonth (number y : ℤ) (m : ℕ) : Type 0 where
  pub year : y ≡ int_div_euclid number (pos 12)
  pub low : pos 1 ≤ℤ y
  pub high : y ≤ℤ pos 9_999
  pub month : m ≡ unsigned_abs (int_rem_euclid number (pos 12)) + 1
  pub some : 1 ≤ m
  pub within : m ≤ 12

-- its year isn't from 1 to 9999
abbrev pub NoMonth : ℤ → Type 0
NoMonth number = pos 1 ≤ℤ int_div_euclid number (pos 12) → int_div_euclid number (pos 12) ≤ℤ pos 9_999 → ⊥

-- so many months later on the clock's calendar
unfoldable pub months_later : Timestamp → ℤ → Result Timestamp ValueFault
months_later t n =
    let number = month_number (local_day t) +ℤ n in
    in_month (int_div_euclid number (pos 12)) (unsigned_abs (int_rem_euclid number (pos 12)) + 1) t

-- n of a part more: years and months move the date, the others the instant
abbrev pub date_added : Part → Timestamp → ℤ → Result Timestamp ValueFault
date_added Year t n = months_later t (n *ℤ pos 12)
date_added Month t n = months_later t n
date_added Day t n = units_later day_nanos t n
date_added Hour t n = units_later hour_nanos t n
date_added Minute t n = units_later minute_nanos t n
date_added Second t n = units_later second_nanos t n
date_added TimezoneHour t n = Ok t
date_added TimezoneMinute t n = Ok t
