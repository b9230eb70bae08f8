-- Timestamps: an instant, and the offset of the clock that shows it.
use Rattle.std.specs.Prelude.{ℕ, Bool, ◌&&◌, ℤ, pos, negsuc, ◌+ℤ◌, ◌-ℤ◌, ◌*ℤ◌, unsigned_abs, int_le, Option, Some, None, if◌then◌else◌}
use Rattle.std.specs.Int.{int_div_euclid, int_rem_euclid}
use Rattle.jiff_core.specs.Calendar.{days_from_civil}

-- the instant in nanoseconds since 1970-01-01T00:00:00Z, the offset in minutes, above zero to the east
pub record Timestamp : Type 0 where
  pub instant : ℤ
  pub offset : ℤ

abbrev pub timestamp_of : ℤ → ℤ → Timestamp
timestamp_of i o = record { instant = i; offset = o }

-- units of time in nanoseconds
abbrev pub second_nanos : ℕ
second_nanos = 1_000_000_000

abbrev pub minute_nanos : ℕ
minute_nanos = 60_000_000_000

abbrev pub hour_nanos : ℕ
hour_nanos = 3_600_000_000_000

abbrev pub day_nanos : ℕ
day_nanos = 86_400_000_000_000

-- what the clock shows, in nanoseconds since it showed 1970-01-01T00:00:00
abbrev pub local_nanos : Timestamp → ℤ
local_nanos t = t.instant +ℤ t.offset *ℤ pos minute_nanos

-- the timestamp at which a clock of this offset shows that
abbrev pub shown_at : ℤ → ℤ → Timestamp
shown_at local o = timestamp_of (local -ℤ o *ℤ pos minute_nanos) o

-- the timestamp at which it shows that time, in nanoseconds since midnight, of that day
abbrev pub at_day : ℤ → ℕ → ℤ → Timestamp
at_day day nanos o = shown_at (day *ℤ pos day_nanos +ℤ pos nanos) o

-- the day that the clock shows, in days since 1970-01-01
unfoldable pub local_day : Timestamp → ℤ
local_day t = int_div_euclid (local_nanos t) (pos day_nanos)

-- the time of day that it shows, in nanoseconds since midnight
unfoldable pub time_of_day : Timestamp → ℕ
time_of_day t = unsigned_abs (int_rem_euclid (local_nanos t) (pos day_nanos))

-- a day from 0001-01-01 to 9999-12-31
unfoldable pub is_day : ℤ → Bool
is_day day = int_le (days_from_civil (pos 1) 1 1) day && int_le day (days_from_civil (pos 9999) 12 31)

-- an offset below a day, in minutes
abbrev pub is_offset : ℤ → Bool
is_offset o = int_le (negsuc 1438) o && int_le o (pos 1439)

-- the timestamps: the offset is below a day, and the clock shows a year from 1 to 9999
unfoldable pub is_timestamp : Timestamp → Bool
is_timestamp t = is_offset t.offset && is_day (local_day t)

-- the timestamp of an instant and an offset, if it is one
unfoldable pub made : ℤ → ℤ → Option Timestamp
made i o = if is_timestamp (timestamp_of i o) then Some (timestamp_of i o) else None
