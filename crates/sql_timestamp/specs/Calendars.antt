-- The date of a day number, in the proleptic Gregorian calendar. `days_from_civil` counts the days
-- from 1970-01-01 to a date; here is the way back, for the years 1 to 9999.
use Rattle.std.specs.Prelude.{ℕ, zero, suc, ◌+◌, ◌≤◌, ◌≡◌, Bool, ◌&&◌, nat_le, ℤ, pos, ◌-ℤ◌, unsigned_abs, int_le, if◌then◌else◌}
use Rattle.jiff_core.specs.Calendar.{days_from_civil, days_in_month}

-- how many of the first n starts have come by the day
unfoldable pub begun : (ℕ → ℤ) → ℤ → ℕ → ℕ
begun start day zero = 0
begun start day (suc n) = begun start day n + (if int_le (start (suc n)) day then 1 else 0)

-- the first day of a year
abbrev pub year_start : ℕ → ℤ
year_start y = days_from_civil (pos y) 1 1

-- the first day of a month of a year
abbrev pub month_start : ℕ → ℕ → ℤ
month_start y m = days_from_civil (pos y) m 1

-- the year of a day: as many of the years from 1 on have begun
unfoldable pub year_of : ℤ → ℕ
year_of day = begun year_start day 9999

-- the month of a day: as many months of its year have begun
unfoldable pub month_of : ℤ → ℕ
month_of day = begun (month_start (year_of day)) day 12

-- the place of a day in its month, from 1
unfoldable pub day_of : ℤ → ℕ
day_of day = unsigned_abs (day -ℤ month_start (year_of day) (month_of day)) + 1

-- the calendar has this date, and its year is from 1 to 9999
unfoldable pub is_date : ℕ → ℕ → ℕ → Bool
is_date y m d = nat_le 1 y && nat_le y 9999 && nat_le 1 m && nat_le m 12 && nat_le 1 d && nat_le d (days_in_month (pos y) m)

-- the year y, the month m and the day d are a date, and its day number is this one
pub record IsDateOf (day : ℤ) (y m d : ℕ) : Type 0 where
  pub year_low : 1 ≤ y
  pub year_high : y ≤ 9999
  pub month_low : 1 ≤ m
  pub month_high : m ≤ 12
  pub day_low : 1 ≤ d
  pub day_high : d ≤ days_in_month (pos y) m
  pub number : days_from_civil (pos y) m d ≡ day
