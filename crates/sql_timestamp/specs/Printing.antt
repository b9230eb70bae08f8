-- The text of a timestamp.
use Rattle.std.specs.Prelude.{ℕ, zero, suc, ◌/◌, ◌%◌, ◌^◌, ◌==◌, ℤ, pos, negsuc, List, [], ◌∷◌, Option, Some, None, if◌then◌else◌}
use Rattle.sql_timestamp.specs.Instants.{Timestamp, second_nanos, minute_nanos, hour_nanos, local_day, time_of_day}
use Rattle.sql_timestamp.specs.Calendars.{year_of, month_of, day_of}
use Rattle.sql_timestamp.specs.TimestampText.{TimestampText, at_time, Zone, universal, ahead, behind, Clock, digit, print_text}

-- the k digits of f that stand behind the point, without zeros at their end
unfoldable pub fraction_digits : ℕ → ℕ → List ℕ
fraction_digits zero f = []
fraction_digits (suc k) f = if f == 0 then [] else digit (f / 10 ^ k) ∷ fraction_digits k (f % 10 ^ k)

-- the fraction of a second, none where it is zero
abbrev pub printed_fraction : ℕ → Option (List ℕ)
printed_fraction f = if f == 0 then None else Some (fraction_digits 9 f)

-- Z for the offset 0
abbrev pub printed_zone : ℤ → Zone
printed_zone (pos zero) = universal
printed_zone (pos (suc o)) = ahead (suc o / 60) (suc o % 60)
printed_zone (negsuc o) = behind (suc o / 60) (suc o % 60)

-- the time of day and the offset, always with seconds
abbrev pub printed_clock : ℕ → ℤ → Clock
printed_clock nanos offset = record {
  hour = nanos / hour_nanos;
  minute = nanos / minute_nanos % 60;
  seconds = Some (record { second = nanos / second_nanos % 60; fraction = printed_fraction (nanos % second_nanos) });
  zone = printed_zone offset;
}

-- the text of what the clock shows, with its offset
abbrev pub text_of : Timestamp → TimestampText
text_of t = at_time (year_of (local_day t)) (month_of (local_day t)) (day_of (local_day t)) (printed_clock (time_of_day t) t.offset)

unfoldable pub printed_timestamp : Timestamp → List ℕ
printed_timestamp t = print_text (text_of t)
