-- The timestamp that a list of characters spells, as a function that goes through the list once.
use Rattle.std.specs.Prelude.{ℕ, zero, suc, ◌+◌, ◌*◌, ◌^◌, Bool, true, false, ◌&&◌, ◌==◌, nat_lt, ℤ, pos, neg_ℤ, List, [], ◌∷◌, Option, Some, None, if◌then◌else◌}
use Rattle.std.specs.Char.{is_ascii_digit, digit_value}
use Rattle.jiff_core.specs.Calendar.{days_from_civil}
use Rattle.sql_timestamp.specs.Instants.{Timestamp, at_day, second_nanos}
use Rattle.sql_timestamp.specs.Calendars.{is_date}
use Rattle.sql_timestamp.specs.TimestampText.{hyphen, plus_sign, full_stop, colon, capital_t, capital_z}

-- what reading on gives, behind a part that may be missing
abbrev pub and_then : {A B : Type 0} → Option A → (A → Option B) → Option B
and_then None f = None
and_then (Some a) f = f a

-- the number of two digits
unfoldable pub pair : ℕ → ℕ → Option ℕ
pair a b = if is_ascii_digit a && is_ascii_digit b then Some (digit_value a * 10 + digit_value b) else None

-- the same, below a limit
unfoldable pub pair_below : ℕ → ℕ → ℕ → Option ℕ
pair_below limit a b = and_then (pair a b) (λ n. if nat_lt n limit then Some n else None)

-- a day and so many seconds and nanoseconds of it, where the offset is so many minutes, at the end of the text
unfoldable pub at_end : ℤ → ℕ → ℕ → ℤ → List ℕ → Option Timestamp
at_end day s f offset [] = Some (at_day day (s * second_nanos + f) offset)
at_end day s f offset (c ∷ cs) = None

-- the minutes of an offset with its sign
unfoldable pub signed_offset : Bool → ℕ → ℕ → ℤ
signed_offset true h m = neg_ℤ (pos (h * 60 + m))
signed_offset false h m = pos (h * 60 + m)

-- behind the sign of an offset
unfoldable pub read_offset : ℤ → ℕ → ℕ → Bool → List ℕ → Option Timestamp
read_offset day s f west (a ∷ b ∷ c ∷ d ∷ e ∷ cs) =
    if c == colon then
    and_then (pair_below 24 a b) (λ h. and_then (pair_below 60 d e) (λ m. at_end day s f (signed_offset west h m) cs))
    else None
read_offset day s f west _ = None

-- where the zone must stand
unfoldable pub read_zone : ℤ → ℕ → ℕ → List ℕ → Option Timestamp
read_zone day s f [] = None
read_zone day s f (c ∷ cs) =
    if c == capital_z then at_end day s f (pos 0) cs
    else (if c == plus_sign then read_offset day s f false cs
    else (if c == hyphen then read_offset day s f true cs else None))

-- within the digits behind the point, where k more may come and those so far are f nanoseconds
unfoldable pub read_fraction : ℤ → ℕ → ℕ → ℕ → List ℕ → Option Timestamp
read_fraction day s f zero cs = read_zone day s f cs
read_fraction day s f (suc k) [] = None
read_fraction day s f (suc k) (c ∷ cs) =
    if is_ascii_digit c then read_fraction day s (f + digit_value c * 10 ^ k) k cs else read_zone day s f (c ∷ cs)

-- behind the point, where a digit must stand
unfoldable pub after_point : ℤ → ℕ → List ℕ → Option Timestamp
after_point day s [] = None
after_point day s (c ∷ cs) = if is_ascii_digit c then read_fraction day s 0 9 (c ∷ cs) else None

-- behind the seconds
unfoldable pub after_second : ℤ → ℕ → List ℕ → Option Timestamp
after_second day s [] = None
after_second day s (c ∷ cs) = if c == full_stop then after_point day s cs else read_zone day s 0 (c ∷ cs)

-- where the seconds must stand
unfoldable pub read_second : ℤ → ℕ → List ℕ → Option Timestamp
read_second day s (a ∷ b ∷ cs) = and_then (pair_below 60 a b) (λ x. after_second day (s + x) cs)
read_second day s _ = None

-- behind the minutes
unfoldable pub after_minute : ℤ → ℕ → List ℕ → Option Timestamp
after_minute day s [] = None
after_minute day s (c ∷ cs) = if c == colon then read_second day s cs else read_zone day s 0 (c ∷ cs)

-- behind the mark of a time
unfoldable pub read_time : ℤ → List ℕ → Option Timestamp
read_time day (a ∷ b ∷ c ∷ d ∷ e ∷ cs) =
    if c == colon then
    and_then (pair_below 24 a b) (λ h. and_then (pair_below 60 d e) (λ m. after_minute day (h * 3600 + m * 60) cs))
    else None
read_time day cs = at_end day 0 0 (pos 0) cs

-- the day number of a date, if it is one
unfoldable pub day_number : ℕ → ℕ → ℕ → Option ℤ
day_number y m d = if is_date y m d then Some (days_from_civil (pos y) m d) else None

-- the start of that date in UTC, at the end of the text
unfoldable pub date_alone : ℕ → ℕ → ℕ → List ℕ → Option Timestamp
date_alone y m d cs = and_then (day_number y m d) (λ day. at_end day 0 0 (pos 0) cs)

-- behind the day
unfoldable pub after_day : ℕ → ℕ → ℕ → List ℕ → Option Timestamp
after_day y m d [] = date_alone y m d []
after_day y m d (c ∷ cs) =
    if c == capital_t then and_then (day_number y m d) (λ day. read_time day cs) else None

-- where the day must stand
unfoldable pub read_day : ℕ → ℕ → List ℕ → Option Timestamp
read_day y m (a ∷ b ∷ cs) = and_then (pair a b) (λ d. after_day y m d cs)
read_day y m _ = None

-- behind the month
unfoldable pub after_month : ℕ → ℕ → List ℕ → Option Timestamp
after_month y m [] = None
after_month y m (c ∷ cs) =
    if c == hyphen then read_day y m cs else (if c == capital_t then date_alone y m 1 cs else None)

-- where the month must stand
unfoldable pub read_month : ℕ → List ℕ → Option Timestamp
read_month y (a ∷ b ∷ cs) = and_then (pair a b) (λ m. after_month y m cs)
read_month y _ = None

-- behind the year
unfoldable pub after_year : ℕ → List ℕ → Option Timestamp
after_year y [] = None
after_year y (c ∷ cs) =
    if c == hyphen then read_month y cs else (if c == capital_t then date_alone y 1 1 cs else None)

-- the timestamp that the characters spell
unfoldable pub spelled_timestamp : List ℕ → Option Timestamp
spelled_timestamp (a ∷ b ∷ c ∷ d ∷ cs) =
    and_then (pair a b) (λ high. and_then (pair c d) (λ low. after_year (high * 100 + low) cs))
spelled_timestamp _ = None
