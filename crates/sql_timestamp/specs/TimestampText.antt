-- Timestamp texts: a year, a month or a day, in UTC, or a day with a time and its offset. A text is a
-- tree, a printer from the tree to its characters, and a fact that says which trees are valid. The
-- timestamp that a text means stands below.
use Rattle.std.specs.Prelude.{◌≡◌, ℕ, zero, suc, ◌+◌, ◌*◌, ◌/◌, ◌%◌, ◌^◌, ◌<◌, ◌≤◌, ℤ, pos, neg_ℤ, List, [], ◌∷◌, ◌++◌, length, Option, Some, None, IfSome, IsTrue}
use Rattle.std.specs.Str.{all_ascii_digits}
use Rattle.std.specs.Char.{digit_value}
use Rattle.jiff_core.specs.Calendar.{days_from_civil}
use Rattle.sql_timestamp.specs.Instants.{Timestamp, at_day, second_nanos, minute_nanos, hour_nanos}
use Rattle.sql_timestamp.specs.Calendars.{is_date}

-- the characters
abbrev pub hyphen : ℕ
hyphen = 45

abbrev pub plus_sign : ℕ
plus_sign = 43

abbrev pub full_stop : ℕ
full_stop = 46

abbrev pub colon : ℕ
colon = 58

abbrev pub capital_t : ℕ
capital_t = 84

abbrev pub capital_z : ℕ
capital_z = 90

-- the character of a digit
abbrev pub digit : ℕ → ℕ
digit n = 48 + n

-- a number in two digits
abbrev pub print_two : ℕ → List ℕ → List ℕ
print_two n rest = digit (n / 10) ∷ digit (n % 10) ∷ rest

-- a number in four digits
abbrev pub print_four : ℕ → List ℕ → List ℕ
print_four n rest = print_two (n / 100) (print_two (n % 100) rest)

-- zone = "Z" / ("+" / "-") hour ":" minute
pub data Zone : Type 0 where
  universal : Zone
  ahead behind : ℕ → ℕ → Zone

abbrev pub print_zone : Zone → List ℕ
print_zone universal = capital_z ∷ []
print_zone (ahead h m) = plus_sign ∷ print_two h (colon ∷ print_two m [])
print_zone (behind h m) = hyphen ∷ print_two h (colon ∷ print_two m [])

-- seconds = [":" second ["." 1*9digit]]
pub record Seconds : Type 0 where
  pub second : ℕ
  pub fraction : Option (List ℕ)

abbrev pub print_fraction : Option (List ℕ) → List ℕ → List ℕ
print_fraction None rest = rest
print_fraction (Some ds) rest = full_stop ∷ (ds ++ rest)

abbrev pub print_seconds : Option Seconds → List ℕ → List ℕ
print_seconds None rest = rest
print_seconds (Some s) rest = colon ∷ print_two s.second (print_fraction s.fraction rest)

-- time = hour ":" minute seconds zone
pub record Clock : Type 0 where
  pub hour : ℕ
  pub minute : ℕ
  pub seconds : Option Seconds
  pub zone : Zone

abbrev pub print_clock : Clock → List ℕ
print_clock c = print_two c.hour (colon ∷ print_two c.minute (print_seconds c.seconds (print_zone c.zone)))

-- timestamp = year "T" / year "-" month "T" / year "-" month "-" day ["T" [time]]
pub data TimestampText : Type 0 where
  in_year : ℕ → TimestampText
  in_month : ℕ → ℕ → TimestampText
  on_day marked_day : ℕ → ℕ → ℕ → TimestampText
  at_time : ℕ → ℕ → ℕ → Clock → TimestampText

-- year "-" month "-" day
abbrev pub print_date : ℕ → ℕ → ℕ → List ℕ → List ℕ
print_date y m d rest = print_four y (hyphen ∷ print_two m (hyphen ∷ print_two d rest))

-- the characters of a timestamp text
abbrev pub print_text : TimestampText → List ℕ
print_text (in_year y) = print_four y (capital_t ∷ [])
print_text (in_month y m) = print_four y (hyphen ∷ print_two m (capital_t ∷ []))
print_text (on_day y m d) = print_date y m d []
print_text (marked_day y m d) = print_date y m d (capital_t ∷ [])
print_text (at_time y m d c) = print_date y m d (capital_t ∷ print_clock c)

-- an offset is below a day
abbrev pub IsZone : Zone → Type 0
IsZone universal = Unit {0}
IsZone (ahead h m) = (h < 24) × (m < 60)
IsZone (behind h m) = (h < 24) × (m < 60)

-- one to nine digits
pub record IsFraction (ds : List ℕ) : Type 0 where
  pub some : 0 < length ds
  pub few : length ds ≤ 9
  pub digits : IsTrue (all_ascii_digits ds)

pub record IsSeconds (s : Seconds) : Type 0 where
  pub second : s.second < 60
  pub fraction : IfSome s.fraction IsFraction

pub record IsClock (c : Clock) : Type 0 where
  pub hour : c.hour < 24
  pub minute : c.minute < 60
  pub seconds : IfSome c.seconds IsSeconds
  pub zone : IsZone c.zone

-- the calendar has the date, and a clock shows the time
abbrev pub IsText : TimestampText → Type 0
IsText (in_year y) = IsTrue (is_date y 1 1)
IsText (in_month y m) = IsTrue (is_date y m 1)
IsText (on_day y m d) = IsTrue (is_date y m d)
IsText (marked_day y m d) = IsTrue (is_date y m d)
IsText (at_time y m d c) = IsTrue (is_date y m d) × IsClock c

-- ---- the timestamp that a text means

-- the offset in minutes
abbrev pub offset_of : Zone → ℤ
offset_of universal = pos 0
offset_of (ahead h m) = pos (h * 60 + m)
offset_of (behind h m) = neg_ℤ (pos (h * 60 + m))

-- the digits of a fraction of a second in nanoseconds, where the first counts 10 ^ (k - 1)
abbrev pub fraction_nanos : ℕ → List ℕ → ℕ
fraction_nanos zero ds = 0
fraction_nanos (suc k) [] = 0
fraction_nanos (suc k) (c ∷ ds) = digit_value c * 10 ^ k + fraction_nanos k ds

abbrev pub nanos_of_fraction : Option (List ℕ) → ℕ
nanos_of_fraction None = 0
nanos_of_fraction (Some ds) = fraction_nanos 9 ds

abbrev pub nanos_of_seconds : Option Seconds → ℕ
nanos_of_seconds None = 0
nanos_of_seconds (Some s) = s.second * second_nanos + nanos_of_fraction s.fraction

-- the time of day in nanoseconds
abbrev pub nanos_of_clock : Clock → ℕ
nanos_of_clock c = c.hour * hour_nanos + c.minute * minute_nanos + nanos_of_seconds c.seconds

abbrev pub meaning_of : TimestampText → Timestamp
meaning_of (in_year y) = at_day (days_from_civil (pos y) 1 1) 0 (pos 0)
meaning_of (in_month y m) = at_day (days_from_civil (pos y) m 1) 0 (pos 0)
meaning_of (on_day y m d) = at_day (days_from_civil (pos y) m d) 0 (pos 0)
meaning_of (marked_day y m d) = at_day (days_from_civil (pos y) m d) 0 (pos 0)
meaning_of (at_time y m d c) = at_day (days_from_civil (pos y) m d) (nanos_of_clock c) (offset_of c.zone)

-- the characters cs spell the timestamp t
pub record Spells (cs : List ℕ) (t : Timestamp) : Type 0 where
  pub text : TimestampText
  pub valid : IsText text
  pub characters : print_text text ≡ cs
  pub timestamp : meaning_of text ≡ t
