-- The parts of a timestamp, and what moving it gives, from what the code computes.
use Rattle.std.proofs.Common.{◌≡◌, ℕ, ◌+◌, ◌-◌, ◌*◌, ◌/◌, ◌%◌, ◌<◌, Bool, true, false, ◌&&◌, Ok, Err, refl, sym, ap, ◌∙◌, arith, ℤ, pos, ◌+ℤ◌, ◌*ℤ◌, ◌≤ℤ◌, unsigned_abs, FitsSigned, w64}
use Rattle.std.specs.Prelude.{int_le, int_div, int_rem}
use Rattle.std.specs.Int.{int_div_euclid, int_rem_euclid}
use Rattle.std.proofs.lemmas.Bool.{and_parts}
use Rattle.jiff_core.proofs.SignedLemmas.{signed_arith}
use Rattle.sql_timestamp.specs.declared.fault.ValueFault.TheVariants.{TimestampOutOfRange}
use Rattle.sql_timestamp.specs.declared.part.Part.TheVariants.{Year, Month, Day, Hour, Minute, Second, TimezoneHour, TimezoneMinute}
use Rattle.sql_timestamp.specs.Instants.{Timestamp, at_day, local_day, time_of_day, is_day, made, second_nanos, minute_nanos, hour_nanos, day_nanos}
use Rattle.sql_timestamp.specs.Calendars.{year_of, month_of, day_of}
use Rattle.sql_timestamp.specs.Parts.{extracted, in_range, units_later, month_number, cut_day, in_month, months_later, IsMonth, NoMonth}
use Rattle.sql_timestamp.proofs.Dates.{at_most_true, date_of_day}

-- ---- the parts

pub year_told : (t : Timestamp) (day y r : ℤ) → day ≡ local_day t → y ≡ pos (year_of day) → r ≡ y → r ≡ extracted Year t
unfolding extracted
year_told t day y r e f g = g ∙ f ∙ ap (λ d. pos (year_of d)) e

pub month_told : (t : Timestamp) (day : ℤ) (m : ℕ) (r : ℤ) → day ≡ local_day t → m ≡ month_of day → r ≡ pos m → r ≡ extracted Month t
unfolding extracted
month_told t day m r e f g = g ∙ ap pos f ∙ ap (λ d. pos (month_of d)) e

pub day_told : (t : Timestamp) (day : ℤ) (d : ℕ) (r : ℤ) → day ≡ local_day t → d ≡ day_of day → r ≡ pos d → r ≡ extracted Day t
unfolding extracted
day_told t day d r e f g = g ∙ ap pos f ∙ ap (λ x. pos (day_of x)) e

pub hour_told : (t : Timestamp) (s n : ℕ) (r : ℤ) → s * second_nanos + n ≡ time_of_day t → n < second_nanos → r ≡ pos (s / 3_600) → r ≡ extracted Hour t
unfolding extracted
hour_told t s n r e h g = let same : s / 3_600 ≡ time_of_day t / hour_nanos = omega arith in g ∙ ap pos same

pub minute_told : (t : Timestamp) (s n : ℕ) (r : ℤ) → s * second_nanos + n ≡ time_of_day t → n < second_nanos → r ≡ pos (s / 60 % 60) → r ≡ extracted Minute t
unfolding extracted
minute_told t s n r e h g = let same : s / 60 % 60 ≡ time_of_day t / minute_nanos % 60 = omega arith in g ∙ ap pos same

pub second_told : (t : Timestamp) (s n : ℕ) (r : ℤ) → s * second_nanos + n ≡ time_of_day t → n < second_nanos → r ≡ pos (s % 60) → r ≡ extracted Second t
unfolding extracted
second_told t s n r e h g = let same : s % 60 ≡ time_of_day t / second_nanos % 60 = omega arith in g ∙ ap pos same

pub zone_hour_told : (t : Timestamp) (o r : ℤ) → o ≡ t.offset → r ≡ int_div o (pos 60) → r ≡ extracted TimezoneHour t
unfolding extracted
zone_hour_told t o r e g = g ∙ ap (λ x. int_div x (pos 60)) e

pub zone_minute_told : (t : Timestamp) (o r : ℤ) → o ≡ t.offset → r ≡ int_rem o (pos 60) → r ≡ extracted TimezoneMinute t
unfolding extracted
zone_minute_told t o r e g = g ∙ ap (λ x. int_rem x (pos 60)) e

-- ---- units

pub days_told : (t : Timestamp) (n : ℤ) → in_range (made (t.instant +ℤ n *ℤ pos 86_400 *ℤ pos second_nanos) t.offset) ≡ units_later day_nanos t n
unfolding units_later
days_told t n = let same : n *ℤ pos 86_400 *ℤ pos second_nanos ≡ n *ℤ pos day_nanos = omega (arith, signed_arith) in rw same refl

pub hours_told : (t : Timestamp) (n : ℤ) → in_range (made (t.instant +ℤ n *ℤ pos 3_600 *ℤ pos second_nanos) t.offset) ≡ units_later hour_nanos t n
unfolding units_later
hours_told t n = let same : n *ℤ pos 3_600 *ℤ pos second_nanos ≡ n *ℤ pos hour_nanos = omega (arith, signed_arith) in rw same refl

pub minutes_told : (t : Timestamp) (n : ℤ) → in_range (made (t.instant +ℤ n *ℤ pos 60 *ℤ pos second_nanos) t.offset) ≡ units_later minute_nanos t n
unfolding units_later
minutes_told t n = let same : n *ℤ pos 60 *ℤ pos second_nanos ≡ n *ℤ pos minute_nanos = omega (arith, signed_arith) in rw same refl

pub seconds_told : (t : Timestamp) (n : ℤ) → in_range (made (t.instant +ℤ n *ℤ pos 1 *ℤ pos second_nanos) t.offset) ≡ units_later second_nanos t n
unfolding units_later
seconds_told t n = let same : n *ℤ pos 1 *ℤ pos second_nanos ≡ n *ℤ pos second_nanos = omega (arith, signed_arith) in rw same refl

-- ---- months

in_month_by : (y : ℤ) (m : ℕ) (t : Timestamp) (b : Bool) → (int_le (pos 1) y && int_le y (pos 9_999)) ≡ b → (pos 1 ≤ℤ y → y ≤ℤ pos 9_999 → ⊥) → in_month y m t ≡ Err TimestampOutOfRange
in_month_by y m t true e lost =
    let ends = and_parts (int_le (pos 1) y) (int_le y (pos 9_999)) e in
    let low = ends.0 in
    let high = ends.1 in
    absurd (lost (omega (arith, signed_arith)) (omega (arith, signed_arith)))
in_month_by y m t false e lost = rw e refl

pub no_month : (t : Timestamp) (n number : ℤ) → number ≡ month_number (local_day t) +ℤ n → NoMonth number → Err TimestampOutOfRange ≡ months_later t n
unfolding months_later
no_month t n number e lost =
    let none : NoMonth (month_number (local_day t) +ℤ n) = rw e at lost in
    let y = int_div_euclid (month_number (local_day t) +ℤ n) (pos 12) in
    sym (in_month_by y (unsigned_abs (int_rem_euclid (month_number (local_day t) +ℤ n) (pos 12)) + 1) t (int_le (pos 1) y && int_le y (pos 9_999)) refl none)

pub some_month : (t : Timestamp) (n number y day o : ℤ) (m d nanos : ℕ) → number ≡ month_number (local_day t) +ℤ n → IsMonth number y m → d ≡ day_of (local_day t)
    → day ≡ cut_day y m d → nanos ≡ time_of_day t → o ≡ t.offset → Ok (at_day day nanos o) ≡ months_later t n
unfolding months_later
some_month t n number y day o m d nanos e is f g h k =
    rw (← e, ← is.year, ← is.month, at_most_true (pos 1) y is.low, at_most_true y (pos 9_999) is.high, g, f, h, k) refl

-- the number of the month of a day of the years 1 to 9999
pub number_between : (day : ℤ) → is_day day ≡ true → (pos 0 ≤ℤ month_number day) × (month_number day ≤ℤ pos 200_000)
number_between day h =
    let is = date_of_day day h in
    let a = is.year_high in
    let b = is.month_high in
    (omega (arith, signed_arith), omega (arith, signed_arith))

-- a month that far has no year from 1 to 9999
pub far_month : (k k' p p' : ℤ) → k' ≡ k → p' ≡ p → pos 0 ≤ℤ k → k ≤ℤ pos 200_000 → (FitsSigned w64 (k' +ℤ p') → ⊥) → NoMonth (k +ℤ p)
far_month k k' p p' e f low high lost a b = lost (near k k' p p' e f low high a b)
  where
    near : (k k' p p' : ℤ) → k' ≡ k → p' ≡ p → pos 0 ≤ℤ k → k ≤ℤ pos 200_000 → pos 1 ≤ℤ int_div_euclid (k +ℤ p) (pos 12) → int_div_euclid (k +ℤ p) (pos 12) ≤ℤ pos 9_999 → FitsSigned w64 (k' +ℤ p')
    near k k' p p' e f low high a b = omega (arith, signed_arith)

pub far_product : (k p : ℤ) → pos 0 ≤ℤ k → k ≤ℤ pos 200_000 → (FitsSigned w64 p → ⊥) → NoMonth (k +ℤ p)
far_product k p low high lost a b = lost (near k p low high a b)
  where
    near : (k p : ℤ) → pos 0 ≤ℤ k → k ≤ℤ pos 200_000 → pos 1 ≤ℤ int_div_euclid (k +ℤ p) (pos 12) → int_div_euclid (k +ℤ p) (pos 12) ≤ℤ pos 9_999 → FitsSigned w64 p
    near k p low high a b = omega (arith, signed_arith)

pub number_is : (day y k : ℤ) (m : ℕ) → y ≡ pos (year_of day) → m ≡ month_of day → k ≡ y *ℤ pos 12 +ℤ pos (m - 1) → k ≡ month_number day
number_is day y k m e f g = g ∙ rw (e, f) (omega (arith, signed_arith))
