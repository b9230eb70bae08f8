-- What is read is spelled: from the function back to a text of the grammar.
use Rattle.std.proofs.Common.{◌≡◌, ℕ, zero, suc, ◌+◌, ◌-◌, ◌*◌, ◌/◌, ◌%◌, ◌^◌, ◌<◌, ◌≤◌, ◌⊎◌, inl, inr, nat_lt, Bool, true, false, ◌&&◌, ◌==◌, if◌then◌else◌, List, [], ◌∷◌, ◌++◌, length, Option, Some, None, IfSome, refl, sym, ap, ◌∙◌, arith, ℤ, pos}
use Rattle.std.specs.Char.{is_ascii_digit, digit_value}
use Rattle.std.specs.Str.{all_ascii_digits}
use Rattle.std.proofs.lemmas.Bool.Decides.{nat_tests}
use Rattle.std.proofs.lemmas.Bool.{and_parts, and_from}
use Rattle.std.proofs.lemmas.Map.Views.{exact_unsigned_eq}
use Rattle.jiff_core.specs.Calendar.{days_from_civil}
use Rattle.sql_timestamp.proofs.ReadSteps.{fraction_more}
use Rattle.sql_timestamp.specs.Instants.{Timestamp, at_day, second_nanos, minute_nanos, hour_nanos}
use Rattle.sql_timestamp.specs.Calendars.{is_date}
use Rattle.sql_timestamp.specs.TimestampText.{hyphen, plus_sign, full_stop, colon, capital_t, capital_z, digit, print_two, print_four, Zone, universal, ahead, behind, print_zone, Seconds, print_fraction, print_seconds, Clock, print_clock, TimestampText, in_year, in_month, on_day, marked_day, at_time, print_date, print_text, IsZone, IsFraction, IsSeconds, IsClock, IsText, offset_of, fraction_nanos, nanos_of_fraction, nanos_of_seconds, nanos_of_clock, meaning_of, Spells}
use Rattle.sql_timestamp.specs.Reading.{and_then, pair, pair_below, at_end, signed_offset, read_offset, read_zone, read_fraction, after_point, after_second, read_second, after_minute, read_time, day_number, date_alone, after_day, read_day, after_month, read_month, after_year, spelled_timestamp}

-- ---- parts that may be missing, and tests

record Took (A : Type 0) (o : Option A) (f : A → Option Timestamp) (t : Timestamp) : Type 0 where
  value : A
  is : o ≡ Some value
  after : f value ≡ Some t

nothing : (t : Timestamp) → None ≡ Some t → ⊥
nothing t h = cc

took : {A : Type 0} (o : Option A) (f : A → Option Timestamp) (t : Timestamp) → and_then o f ≡ Some t → Took A o f t
took None f t h = absurd (nothing t h)
took (Some a) f t h = record { value = a; is = refl; after = h }

chosen : (b : Bool) (x y : Option Timestamp) (t : Timestamp) → (if b then x else y) ≡ Some t → ((b ≡ true) × (x ≡ Some t)) ⊎ ((b ≡ false) × (y ≡ Some t))
chosen true x y t h = inl (refl, h)
chosen false x y t h = inr (refl, h)

tested : (b : Bool) (x : Option Timestamp) (t : Timestamp) → (if b then x else None) ≡ Some t → (b ≡ true) × (x ≡ Some t)
tested true x t h = (refl, h)
tested false x t h = absurd (nothing t h)

-- ---- digits

same_cons : {x y : ℕ} {xs ys : List ℕ} → x ≡ y → xs ≡ ys → x ∷ xs ≡ y ∷ ys
same_cons e f = rw (e, f) refl

record IsPair (a b n : ℕ) : Type 0 where
  first : a ≡ digit (n / 10)
  second : b ≡ digit (n % 10)
  bound : n < 100

two_text : (a b n : ℕ) (rest cs : List ℕ) → IsPair a b n → rest ≡ cs → print_two n rest ≡ a ∷ b ∷ cs
two_text a b n rest cs p e = same_cons (sym p.first) (same_cons (sym p.second) e)

digit_range : (d : ℕ) → is_ascii_digit d ≡ true → (48 ≤ d) × (d ≤ 57)
digit_range d t = grind (arith, nat_tests)

pub digit_counts : (d : ℕ) → is_ascii_digit d ≡ true → digit_value d ≡ d - 48
digit_counts d t = grind (arith, nat_tests)

some_number : (m n : ℕ) → Some m ≡ Some n → m ≡ n
some_number m n h = cc

pair_by : (a b n : ℕ) (t : Bool) → (is_ascii_digit a && is_ascii_digit b) ≡ t → (if t then Some (digit_value a * 10 + digit_value b) else None) ≡ Some n → IsPair a b n
pair_by a b n false e h = absurd (no_pair n h)
  where
    no_pair : (n : ℕ) → None ≡ Some n → ⊥
    no_pair n h = cc
pair_by a b n true e h =
    let two = and_parts (is_ascii_digit a) (is_ascii_digit b) e in
    let p = digit_range a two.0 in
    let q = digit_range b two.1 in
    let is = some_number (digit_value a * 10 + digit_value b) n h in
    let v = digit_counts a two.0 in
    let w = digit_counts b two.1 in
    record { first = omega arith; second = omega arith; bound = omega arith }

pair_is : (a b n : ℕ) → pair a b ≡ Some n → IsPair a b n
unfolding pair
pair_is a b n h = pair_by a b n (is_ascii_digit a && is_ascii_digit b) refl h

below_by : (limit m n : ℕ) (t : Bool) → nat_lt m limit ≡ t → (if t then Some m else None) ≡ Some n → (m ≡ n) × (n < limit)
below_by limit m n true e h = let is = some_number m n h in (is, let low : m < limit = grind (arith, nat_tests) in omega arith)
below_by limit m n false e h = absurd (no_number n h)
  where
    no_number : (n : ℕ) → None ≡ Some n → ⊥
    no_number n h = cc

below_pair : (limit a b n : ℕ) (o : Option ℕ) → pair a b ≡ o → and_then o (λ m. if nat_lt m limit then Some m else None) ≡ Some n → IsPair a b n × (n < limit)
below_pair limit a b n None e h = absurd (no_number n h)
  where
    no_number : (n : ℕ) → None ≡ Some n → ⊥
    no_number n h = cc
below_pair limit a b n (Some m) e h =
    let two = below_by limit m n (nat_lt m limit) refl h in
    (pair_is a b n (e ∙ ap Some two.0), two.1)

below_is : (limit a b n : ℕ) → pair_below limit a b ≡ Some n → IsPair a b n × (n < limit)
unfolding pair_below
below_is limit a b n h = below_pair limit a b n (pair a b) refl h

-- ---- the end, the zone

end_is : (day : ℤ) (s f : ℕ) (o : ℤ) (cs : List ℕ) (t : Timestamp) → at_end day s f o cs ≡ Some t → (cs ≡ []) × (at_day day (s * second_nanos + f) o ≡ t)
unfolding at_end
end_is day s f o [] t h = (refl, same_time _ t h)
  where
    same_time : (u t : Timestamp) → Some u ≡ Some t → u ≡ t
    same_time u t h = cc
end_is day s f o (c ∷ cs) t h = absurd (nothing t h)

record ZoneAt (day : ℤ) (s f : ℕ) (cs : List ℕ) (t : Timestamp) : Type 0 where
  zone : Zone
  valid : IsZone zone
  text : print_zone zone ≡ cs
  time : at_day day (s * second_nanos + f) (offset_of zone) ≡ t

abbrev zone_from : Bool → ℕ → ℕ → Zone
zone_from true h m = behind h m
zone_from false h m = ahead h m

abbrev sign_character : Bool → ℕ
sign_character true = hyphen
sign_character false = plus_sign

zone_valid : (west : Bool) (h m : ℕ) → h < 24 → m < 60 → IsZone (zone_from west h m)
zone_valid true h m low high = (low, high)
zone_valid false h m low high = (low, high)

zone_text : (west : Bool) (h m : ℕ) → print_zone (zone_from west h m) ≡ sign_character west ∷ print_two h (colon ∷ print_two m [])
zone_text true h m = refl
zone_text false h m = refl

zone_offset : (west : Bool) (h m : ℕ) → signed_offset west h m ≡ offset_of (zone_from west h m)
unfolding signed_offset
zone_offset true h m = refl
zone_offset false h m = refl

offset_is : (day : ℤ) (s f : ℕ) (west : Bool) (cs : List ℕ) (t : Timestamp) → read_offset day s f west cs ≡ Some t → ZoneAt day s f (sign_character west ∷ cs) t
unfolding read_offset
offset_is day s f west [] t h = absurd (nothing t h)
offset_is day s f west (a ∷ []) t h = absurd (nothing t h)
offset_is day s f west (a ∷ b ∷ []) t h = absurd (nothing t h)
offset_is day s f west (a ∷ b ∷ c ∷ []) t h = absurd (nothing t h)
offset_is day s f west (a ∷ b ∷ c ∷ d ∷ []) t h = absurd (nothing t h)
offset_is day s f west (a ∷ b ∷ c ∷ d ∷ e ∷ cs) t h =
    let mark = tested (c == colon) _ t h in
    let hour = took (pair_below 24 a b) _ t mark.1 in
    let minute = took (pair_below 60 d e) _ t hour.after in
    let last = end_is day s f (signed_offset west hour.value minute.value) cs t minute.after in
    let p = below_is 24 a b hour.value hour.is in
    let q = below_is 60 d e minute.value minute.is in
    let point : c ≡ colon = exact_unsigned_eq c colon mark.0 in
    record {
      zone = zone_from west hour.value minute.value;
      valid = zone_valid west hour.value minute.value p.1 q.1;
      text = zone_text west hour.value minute.value ∙ same_cons refl (two_text a b hour.value _ _ p.0 (same_cons (sym point) (two_text d e minute.value _ _ q.0 (sym last.0))));
      time = ap (at_day day (s * second_nanos + f)) (sym (zone_offset west hour.value minute.value)) ∙ last.1;
    }

zone_is : (day : ℤ) (s f : ℕ) (cs : List ℕ) (t : Timestamp) → read_zone day s f cs ≡ Some t → ZoneAt day s f cs t
unfolding read_zone
zone_is day s f [] t h = absurd (nothing t h)
zone_is day s f (c ∷ cs) t h = elim (chosen (c == capital_z) _ _ t h) [
  | inl z ↦
      let last = end_is day s f (pos 0) cs t z.1 in
      let mark : c ≡ capital_z = exact_unsigned_eq c capital_z z.0 in
      record { zone = universal; valid = tt; text = rw (mark, last.0) refl; time = last.1 }
  | inr other ↦ elim (chosen (c == plus_sign) _ _ t other.1) [
    | inl east ↦ let mark : c ≡ plus_sign = exact_unsigned_eq c plus_sign east.0 in rw mark (offset_is day s f false cs t east.1)
    | inr rest ↦
        let west = tested (c == hyphen) _ t rest.1 in
        let mark : c ≡ hyphen = exact_unsigned_eq c hyphen west.0 in
        rw mark (offset_is day s f true cs t west.1)
  ]
]

-- ---- the fraction

record DigitsAt (day : ℤ) (s f k : ℕ) (cs : List ℕ) (t : Timestamp) : Type 0 where
  digits : List ℕ
  few : length digits ≤ k
  all : all_ascii_digits digits ≡ true
  zone : Zone
  valid : IsZone zone
  text : digits ++ print_zone zone ≡ cs
  time : at_day day (s * second_nanos + (f + fraction_nanos k digits)) (offset_of zone) ≡ t

no_digits : (day : ℤ) (s f k : ℕ) (cs : List ℕ) (t : Timestamp) → read_zone day s f cs ≡ Some t → DigitsAt day s f k cs t
no_digits day s f k cs t h =
    let z = zone_is day s f cs t h in
    let none : f + fraction_nanos k [] ≡ f = none_counts k in
    record { digits = []; few = omega arith; all = refl; zone = z.zone; valid = z.valid; text = z.text; time = rw none z.time }
  where
    none_counts : (k : ℕ) → f + fraction_nanos k [] ≡ f
    none_counts zero = omega arith
    none_counts (suc k) = omega arith

digits_are : (day : ℤ) (s f k : ℕ) (cs : List ℕ) (t : Timestamp) → read_fraction day s f k cs ≡ Some t → DigitsAt day s f k cs t
unfolding read_fraction
digits_are day s f zero cs t h = no_digits day s f zero cs t h
digits_are day s f (suc k) [] t h = absurd (nothing t h)
digits_are day s f (suc k) (c ∷ cs) t h = elim (chosen (is_ascii_digit c) _ _ t h) [
  | inl digit_here ↦
      let more = digits_are day s (f + digit_value c * 10 ^ k) k cs t digit_here.1 in
      let few = more.few in
      let sum : f + (digit_value c * 10 ^ k + fraction_nanos k more.digits) ≡ f + digit_value c * 10 ^ k + fraction_nanos k more.digits = omega arith in
      record {
        digits = c ∷ more.digits;
        few = omega arith;
        all = and_from (is_ascii_digit c) (all_ascii_digits more.digits) digit_here.0 more.all;
        zone = more.zone;
        valid = more.valid;
        text = ap (λ x. c ∷ x) more.text;
        time = rw sum more.time;
      }
  | inr other ↦ no_digits day s f (suc k) (c ∷ cs) t other.1
]

record FractionAt (day : ℤ) (s : ℕ) (cs : List ℕ) (t : Timestamp) : Type 0 where
  fraction : Option (List ℕ)
  valid : IfSome fraction IsFraction
  zone : Zone
  zone_valid : IsZone zone
  text : print_fraction fraction (print_zone zone) ≡ cs
  time : at_day day (s * second_nanos + nanos_of_fraction fraction) (offset_of zone) ≡ t

point_is : (day : ℤ) (s : ℕ) (cs : List ℕ) (t : Timestamp) → after_point day s cs ≡ Some t → FractionAt day s (full_stop ∷ cs) t
unfolding after_point
point_is day s [] t h = absurd (nothing t h)
point_is day s (c ∷ cs) t h =
    let one = tested (is_ascii_digit c) _ t h in
    let step = sym (fraction_more day s 0 9 c cs (omega arith) one.0) ∙ one.1 in
    let more = digits_are day s (0 + digit_value c * 10 ^ 8) 8 cs t step in
    let few = more.few in
    let sum : digit_value c * 10 ^ 8 + fraction_nanos 8 more.digits ≡ 0 + digit_value c * 10 ^ 8 + fraction_nanos 8 more.digits = omega arith in
    record {
      fraction = Some (c ∷ more.digits);
      valid = record { some = omega arith; few = omega arith; digits = and_from (is_ascii_digit c) (all_ascii_digits more.digits) one.0 more.all };
      zone = more.zone;
      zone_valid = more.valid;
      text = ap (λ x. full_stop ∷ c ∷ x) more.text;
      time = ap (λ x. at_day day (s * second_nanos + x) (offset_of more.zone)) sum ∙ more.time;
    }

second_is : (day : ℤ) (s : ℕ) (cs : List ℕ) (t : Timestamp) → after_second day s cs ≡ Some t → FractionAt day s cs t
unfolding after_second
second_is day s [] t h = absurd (nothing t h)
second_is day s (c ∷ cs) t h = elim (chosen (c == full_stop) _ _ t h) [
  | inl point ↦ let mark : c ≡ full_stop = exact_unsigned_eq c full_stop point.0 in rw mark (point_is day s cs t point.1)
  | inr other ↦
      let z = zone_is day s 0 (c ∷ cs) t other.1 in
      record { fraction = None; valid = tt; zone = z.zone; zone_valid = z.valid; text = z.text; time = z.time }
]

-- ---- the seconds

record SecondsAt (day : ℤ) (s : ℕ) (cs : List ℕ) (t : Timestamp) : Type 0 where
  seconds : Option Seconds
  valid : IfSome seconds IsSeconds
  zone : Zone
  zone_valid : IsZone zone
  text : print_seconds seconds (print_zone zone) ≡ cs
  time : at_day day (s * second_nanos + nanos_of_seconds seconds) (offset_of zone) ≡ t

seconds_are : (day : ℤ) (s : ℕ) (cs : List ℕ) (t : Timestamp) → read_second day s cs ≡ Some t → SecondsAt day s (colon ∷ cs) t
unfolding read_second
seconds_are day s [] t h = absurd (nothing t h)
seconds_are day s (a ∷ []) t h = absurd (nothing t h)
seconds_are day s (a ∷ b ∷ cs) t h =
    let number = took (pair_below 60 a b) _ t h in
    let p = below_is 60 a b number.value number.is in
    let rest = second_is day (s + number.value) cs t number.after in
    let sum : s * second_nanos + (number.value * second_nanos + nanos_of_fraction rest.fraction) ≡ (s + number.value) * second_nanos + nanos_of_fraction rest.fraction = omega arith in
    record {
      seconds = Some (record { second = number.value; fraction = rest.fraction });
      valid = record { second = p.1; fraction = rest.valid };
      zone = rest.zone;
      zone_valid = rest.zone_valid;
      text = same_cons refl (two_text a b number.value _ _ p.0 rest.text);
      time = ap (λ x. at_day day x (offset_of rest.zone)) sum ∙ rest.time;
    }

minute_is : (day : ℤ) (s : ℕ) (cs : List ℕ) (t : Timestamp) → after_minute day s cs ≡ Some t → SecondsAt day s cs t
unfolding after_minute
minute_is day s [] t h = absurd (nothing t h)
minute_is day s (c ∷ cs) t h = elim (chosen (c == colon) _ _ t h) [
  | inl point ↦ let mark : c ≡ colon = exact_unsigned_eq c colon point.0 in rw mark (seconds_are day s cs t point.1)
  | inr other ↦
      let z = zone_is day s 0 (c ∷ cs) t other.1 in
      record { seconds = None; valid = tt; zone = z.zone; zone_valid = z.valid; text = z.text; time = z.time }
]

-- ---- the time

record ClockAt (day : ℤ) (cs : List ℕ) (t : Timestamp) : Type 0 where
  clock : Clock
  valid : IsClock clock
  text : print_clock clock ≡ cs
  time : at_day day (nanos_of_clock clock) (offset_of clock.zone) ≡ t

record Midnight (day : ℤ) (cs : List ℕ) (t : Timestamp) : Type 0 where
  text : cs ≡ []
  time : at_day day 0 (pos 0) ≡ t

midnight : (day : ℤ) (cs : List ℕ) (t : Timestamp) → at_end day 0 0 (pos 0) cs ≡ Some t → Midnight day cs t
midnight day cs t h = let last = end_is day 0 0 (pos 0) cs t h in record { text = last.0; time = last.1 }

time_is : (day : ℤ) (cs : List ℕ) (t : Timestamp) → read_time day cs ≡ Some t → Midnight day cs t ⊎ ClockAt day cs t
unfolding read_time
time_is day [] t h = inl (midnight day [] t h)
time_is day (a ∷ []) t h = inl (midnight day (a ∷ []) t h)
time_is day (a ∷ b ∷ []) t h = inl (midnight day (a ∷ b ∷ []) t h)
time_is day (a ∷ b ∷ c ∷ []) t h = inl (midnight day (a ∷ b ∷ c ∷ []) t h)
time_is day (a ∷ b ∷ c ∷ d ∷ []) t h = inl (midnight day (a ∷ b ∷ c ∷ d ∷ []) t h)
time_is day (a ∷ b ∷ c ∷ d ∷ e ∷ cs) t h =
    let mark = tested (c == colon) _ t h in
    let hour = took (pair_below 24 a b) _ t mark.1 in
    let minute = took (pair_below 60 d e) _ t hour.after in
    let p = below_is 24 a b hour.value hour.is in
    let q = below_is 60 d e minute.value minute.is in
    let point : c ≡ colon = exact_unsigned_eq c colon mark.0 in
    let rest = minute_is day (hour.value * 3600 + minute.value * 60) cs t minute.after in
    let sum : hour.value * hour_nanos + minute.value * minute_nanos + nanos_of_seconds rest.seconds ≡ (hour.value * 3600 + minute.value * 60) * second_nanos + nanos_of_seconds rest.seconds = omega arith in
    inr (record {
      clock = record { hour = hour.value; minute = minute.value; seconds = rest.seconds; zone = rest.zone };
      valid = record { hour = p.1; minute = q.1; seconds = rest.valid; zone = rest.zone_valid };
      text = two_text a b hour.value _ _ p.0 (same_cons (sym point) (two_text d e minute.value _ _ q.0 rest.text));
      time = ap (λ x. at_day day x (offset_of rest.zone)) sum ∙ rest.time;
    })

-- ---- the date

record NumberOf (y m d : ℕ) (day : ℤ) : Type 0 where
  date : is_date y m d ≡ true
  number : days_from_civil (pos y) m d ≡ day

number_by : (y m d : ℕ) (day : ℤ) (b : Bool) → is_date y m d ≡ b → (if b then Some (days_from_civil (pos y) m d) else None) ≡ Some day → NumberOf y m d day
number_by y m d day true e h = record { date = e; number = same_day _ day h }
  where
    same_day : (a b : ℤ) → Some a ≡ Some b → a ≡ b
    same_day a b h = cc
number_by y m d day false e h = absurd (no_day day h)
  where
    no_day : (b : ℤ) → None ≡ Some b → ⊥
    no_day b h = cc

number_is : (y m d : ℕ) (day : ℤ) → day_number y m d ≡ Some day → NumberOf y m d day
unfolding day_number
number_is y m d day h = number_by y m d day (is_date y m d) refl h

-- the text that `front` begins spells the timestamp
record From (front : List ℕ → List ℕ) (cs : List ℕ) (t : Timestamp) : Type 0 where
  text : TimestampText
  valid : IsText text
  characters : print_text text ≡ front cs
  timestamp : meaning_of text ≡ t

record DateAlone (y m d : ℕ) (cs : List ℕ) (t : Timestamp) : Type 0 where
  text : cs ≡ []
  date : is_date y m d ≡ true
  time : at_day (days_from_civil (pos y) m d) 0 (pos 0) ≡ t

alone_is : (y m d : ℕ) (cs : List ℕ) (t : Timestamp) → date_alone y m d cs ≡ Some t → DateAlone y m d cs t
unfolding date_alone
alone_is y m d cs t h =
    let day = took (day_number y m d) _ t h in
    let number = number_is y m d day.value day.is in
    let last = midnight day.value cs t day.after in
    record { text = last.text; date = number.date; time = ap (λ x. at_day x 0 (pos 0)) number.number ∙ last.time }

timed : (y m d : ℕ) (day : ℤ) (cs : List ℕ) (t : Timestamp) → NumberOf y m d day → Midnight day cs t ⊎ ClockAt day cs t → From (print_date y m d) (capital_t ∷ cs) t
timed y m d day cs t number (inl last) = record {
  text = marked_day y m d;
  valid = number.date;
  characters = ap (λ x. print_date y m d (capital_t ∷ x)) (sym last.text);
  timestamp = ap (λ x. at_day x 0 (pos 0)) number.number ∙ last.time;
}
timed y m d day cs t number (inr c) = record {
  text = at_time y m d c.clock;
  valid = (number.date, c.valid);
  characters = ap (λ x. print_date y m d (capital_t ∷ x)) c.text;
  timestamp = ap (λ x. at_day x (nanos_of_clock c.clock) (offset_of c.clock.zone)) number.number ∙ c.time;
}

day_is : (y m d : ℕ) (cs : List ℕ) (t : Timestamp) → after_day y m d cs ≡ Some t → From (print_date y m d) cs t
unfolding after_day
day_is y m d [] t h =
    let alone = alone_is y m d [] t h in
    record { text = on_day y m d; valid = alone.date; characters = refl; timestamp = alone.time }
day_is y m d (c ∷ cs) t h =
    let mark = tested (c == capital_t) _ t h in
    let same : c ≡ capital_t = exact_unsigned_eq c capital_t mark.0 in
    let day = took (day_number y m d) _ t mark.1 in
    rw same (timed y m d day.value cs t (number_is y m d day.value day.is) (time_is day.value cs t day.after))

-- a front that goes on with two digits
behind_two : (front : List ℕ → List ℕ) (a b n : ℕ) (cs : List ℕ) (t : Timestamp) → IsPair a b n → From (λ rest. front (print_two n rest)) cs t → From front (a ∷ b ∷ cs) t
behind_two front a b n cs t p f = record {
  text = f.text;
  valid = f.valid;
  characters = f.characters ∙ ap front (two_text a b n cs cs p refl);
  timestamp = f.timestamp;
}

read_day_is : (y m : ℕ) (cs : List ℕ) (t : Timestamp) → read_day y m cs ≡ Some t → From (λ rest. print_four y (hyphen ∷ print_two m (hyphen ∷ rest))) cs t
unfolding read_day
read_day_is y m [] t h = absurd (nothing t h)
read_day_is y m (a ∷ []) t h = absurd (nothing t h)
read_day_is y m (a ∷ b ∷ cs) t h =
    let number = took (pair a b) _ t h in
    behind_two (λ rest. print_four y (hyphen ∷ print_two m (hyphen ∷ rest))) a b number.value cs t (pair_is a b number.value number.is) (day_is y m number.value cs t number.after)

month_is : (y m : ℕ) (cs : List ℕ) (t : Timestamp) → after_month y m cs ≡ Some t → From (λ rest. print_four y (hyphen ∷ print_two m rest)) cs t
unfolding after_month
month_is y m [] t h = absurd (nothing t h)
month_is y m (c ∷ cs) t h = elim (chosen (c == hyphen) _ _ t h) [
  | inl more ↦
      let same : c ≡ hyphen = exact_unsigned_eq c hyphen more.0 in
      let f = read_day_is y m cs t more.1 in
      rw same (record { text = f.text; valid = f.valid; characters = f.characters; timestamp = f.timestamp })
  | inr other ↦
      let last = tested (c == capital_t) _ t other.1 in
      let same : c ≡ capital_t = exact_unsigned_eq c capital_t last.0 in
      let alone = alone_is y m 1 cs t last.1 in
      rw same (record { text = in_month y m; valid = alone.date; characters = ap (λ x. print_four y (hyphen ∷ print_two m (capital_t ∷ x))) (sym alone.text); timestamp = alone.time })
]

read_month_is : (y : ℕ) (cs : List ℕ) (t : Timestamp) → read_month y cs ≡ Some t → From (λ rest. print_four y (hyphen ∷ rest)) cs t
unfolding read_month
read_month_is y [] t h = absurd (nothing t h)
read_month_is y (a ∷ []) t h = absurd (nothing t h)
read_month_is y (a ∷ b ∷ cs) t h =
    let number = took (pair a b) _ t h in
    behind_two (λ rest. print_four y (hyphen ∷ rest)) a b number.value cs t (pair_is a b number.value number.is) (month_is y number.value cs t number.after)

year_is : (y : ℕ) (cs : List ℕ) (t : Timestamp) → after_year y cs ≡ Some t → From (print_four y) cs t
unfolding after_year
year_is y [] t h = absurd (nothing t h)
year_is y (c ∷ cs) t h = elim (chosen (c == hyphen) _ _ t h) [
  | inl more ↦
      let same : c ≡ hyphen = exact_unsigned_eq c hyphen more.0 in
      let f = read_month_is y cs t more.1 in
      rw same (record { text = f.text; valid = f.valid; characters = f.characters; timestamp = f.timestamp })
  | inr other ↦
      let last = tested (c == capital_t) _ t other.1 in
      let same : c ≡ capital_t = exact_unsigned_eq c capital_t last.0 in
      let alone = alone_is y 1 1 cs t last.1 in
      rw same (record { text = in_year y; valid = alone.date; characters = ap (λ x. print_four y (capital_t ∷ x)) (sym alone.text); timestamp = alone.time })
]

-- what is read is spelled
pub spells : (cs : List ℕ) (t : Timestamp) → spelled_timestamp cs ≡ Some t → Spells cs t
unfolding spelled_timestamp
spells [] t h = absurd (nothing t h)
spells (a ∷ []) t h = absurd (nothing t h)
spells (a ∷ b ∷ []) t h = absurd (nothing t h)
spells (a ∷ b ∷ c ∷ []) t h = absurd (nothing t h)
spells (a ∷ b ∷ c ∷ d ∷ cs) t h =
    let high = took (pair a b) _ t h in
    let low = took (pair c d) _ t high.after in
    let p = pair_is a b high.value high.is in
    let q = pair_is c d low.value low.is in
    let bound = q.bound in
    let f = year_is (high.value * 100 + low.value) cs t low.after in
    let front : (high.value * 100 + low.value) / 100 ≡ high.value = omega arith in
    let back : (high.value * 100 + low.value) % 100 ≡ low.value = omega arith in
    record {
      text = f.text;
      valid = f.valid;
      characters = f.characters ∙ ap (λ n. print_two n (print_two ((high.value * 100 + low.value) % 100) cs)) front ∙ ap (λ n. print_two high.value (print_two n cs)) back
          ∙ two_text a b high.value _ _ p (two_text c d low.value _ _ q refl);
      timestamp = f.timestamp;
    }
