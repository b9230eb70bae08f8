-- What is spelled is read: from a text of the grammar to the function.
use Rattle.std.proofs.Common.{◌≡◌, ℕ, zero, suc, ◌+◌, ◌-◌, ◌*◌, ◌/◌, ◌%◌, ◌^◌, ◌<◌, ◌≤◌, nat_lt, true, ◌==◌, List, [], ◌∷◌, ◌++◌, length, length-append, slice_index, Option, Some, None, IfSome, refl, sym, ap, ◌∙◌, arith, ℤ, pos}
use Rattle.std.specs.Char.{is_ascii_digit, digit_value}
use Rattle.std.specs.Str.{all_ascii_digits, chars, IsAscii, IsNotAscii, IsUtf8}
use Rattle.std.proofs.lemmas.Str.{encodes-IsAscii, encodes-chars}
use Rattle.std.proofs.lemmas.Bool.Decides.{nat_tests}
use Rattle.std.proofs.lemmas.Bool.{and_parts}
use Rattle.std.proofs.lemmas.Map.Views.{exact_unsigned_eq}
use Rattle.jiff_core.specs.Calendar.{days_from_civil}
use Rattle.jiff_core.proofs.CalendarLemmas.{days_in_month_bounds}
use Rattle.sql_timestamp.specs.Instants.{Timestamp, at_day, second_nanos, minute_nanos, hour_nanos}
use Rattle.sql_timestamp.specs.Calendars.{is_date}
use Rattle.sql_timestamp.specs.TimestampText.{hyphen, full_stop, colon, capital_t, digit, print_two, print_four, Zone, universal, ahead, behind, print_zone, Seconds, print_fraction, print_seconds, Clock, print_clock, TimestampText, in_year, in_month, on_day, marked_day, at_time, print_date, print_text, IsZone, IsFraction, IsSeconds, IsClock, IsText, offset_of, fraction_nanos, nanos_of_fraction, nanos_of_seconds, nanos_of_clock, meaning_of, Spells}
use Rattle.sql_timestamp.specs.Reading.{pair, pair_below, at_end, signed_offset, read_offset, read_zone, read_fraction, after_point, after_second, read_second, after_minute, read_time, day_number, date_alone, after_day, read_day, after_month, read_month, after_year, spelled_timestamp}
use Rattle.sql_timestamp.proofs.Dates.{date_open}
use Rattle.sql_timestamp.proofs.ReadSteps.{fraction_more}
use Rattle.sql_timestamp.proofs.Spelling.{digit_counts, spells}

-- ---- digits

pub digit_is : (k : ℕ) → k < 10 → is_ascii_digit (digit k) ≡ true
digit_is k h = grind (arith, nat_tests)

pair_read : (n : ℕ) → n < 100 → pair (digit (n / 10)) (digit (n % 10)) ≡ Some n
unfolding pair
pair_read n h =
    let a : is_ascii_digit (digit (n / 10)) ≡ true = digit_is (n / 10) (omega arith) in
    let b : is_ascii_digit (digit (n % 10)) ≡ true = digit_is (n % 10) (omega arith) in
    let v = digit_counts (digit (n / 10)) a in
    let w = digit_counts (digit (n % 10)) b in
    let sum : digit_value (digit (n / 10)) * 10 + digit_value (digit (n % 10)) ≡ n = omega arith in
    rw (a, b) (ap Some sum)

below_read : (limit n : ℕ) → n < limit → n < 100 → pair_below limit (digit (n / 10)) (digit (n % 10)) ≡ Some n
unfolding pair_below
below_read limit n h k =
    let t : nat_lt n limit ≡ true = grind (arith, nat_tests) in
    rw (pair_read n k, t) refl

-- ---- the zone

zone_read : (day : ℤ) (s f : ℕ) (z : Zone) → IsZone z → read_zone day s f (print_zone z) ≡ Some (at_day day (s * second_nanos + f) (offset_of z))
unfolding read_zone read_offset signed_offset at_end
zone_read day s f universal h = refl
zone_read day s f (ahead h m) (low, high) = rw (below_read 24 h low (omega arith), below_read 60 m high (omega arith)) refl
zone_read day s f (behind h m) (low, high) = rw (below_read 24 h low (omega arith), below_read 60 m high (omega arith)) refl

-- ---- the fraction

no_digit : (day : ℤ) (s f k : ℕ) (z : Zone) → read_fraction day s f k (print_zone z) ≡ read_zone day s f (print_zone z)
unfolding read_fraction
no_digit day s f zero z = refl
no_digit day s f (suc k) universal = refl
no_digit day s f (suc k) (ahead h m) = refl
no_digit day s f (suc k) (behind h m) = refl

none_counts : (f k : ℕ) → f ≡ f + fraction_nanos k []
none_counts f zero = omega arith
none_counts f (suc k) = omega arith

digits_read : (day : ℤ) (s f k : ℕ) (ds : List ℕ) (z : Zone) → length ds ≤ k → all_ascii_digits ds ≡ true → IsZone z
    → read_fraction day s f k (ds ++ print_zone z) ≡ Some (at_day day (s * second_nanos + (f + fraction_nanos k ds)) (offset_of z))
digits_read day s f k [] z few all h =
    no_digit day s f k z ∙ zone_read day s f z h ∙ ap (λ x. Some (at_day day (s * second_nanos + x) (offset_of z))) (none_counts f k)
digits_read day s f zero (c ∷ ds) z few all h = absurd (omega arith)
digits_read day s f (suc k) (c ∷ ds) z few all h =
    let two = and_parts (is_ascii_digit c) (all_ascii_digits ds) all in
    let e : suc k - 1 ≡ k = omega arith in
    let step = rw e at (fraction_more day s f (suc k) c (ds ++ print_zone z) (omega arith) two.0) in
    let sum : f + digit_value c * 10 ^ k + fraction_nanos k ds ≡ f + (digit_value c * 10 ^ k + fraction_nanos k ds) = omega arith in
    step ∙ digits_read day s (f + digit_value c * 10 ^ k) k ds z (omega arith) two.1 h ∙ ap (λ x. Some (at_day day (s * second_nanos + x) (offset_of z))) sum

no_point : (day : ℤ) (s : ℕ) (z : Zone) → after_second day s (print_zone z) ≡ read_zone day s 0 (print_zone z)
unfolding after_second
no_point day s universal = refl
no_point day s (ahead h m) = refl
no_point day s (behind h m) = refl

point_read : (day : ℤ) (s : ℕ) (ds : List ℕ) (z : Zone) → IsFraction ds → IsZone z
    → after_second day s (full_stop ∷ (ds ++ print_zone z)) ≡ Some (at_day day (s * second_nanos + fraction_nanos 9 ds) (offset_of z))
unfolding after_second after_point
point_read day s [] z f h = let some = f.some in absurd (omega arith)
point_read day s (c ∷ ds) z f h =
    let two = and_parts (is_ascii_digit c) (all_ascii_digits ds) f.digits in
    let sum : 0 + fraction_nanos 9 (c ∷ ds) ≡ fraction_nanos 9 (c ∷ ds) = omega arith in
    rw two.0 (digits_read day s 0 9 (c ∷ ds) z f.few f.digits h ∙ ap (λ x. Some (at_day day (s * second_nanos + x) (offset_of z))) sum)

fraction_read : (day : ℤ) (s : ℕ) (fraction : Option (List ℕ)) (z : Zone) → IfSome fraction IsFraction → IsZone z
    → after_second day s (print_fraction fraction (print_zone z)) ≡ Some (at_day day (s * second_nanos + nanos_of_fraction fraction) (offset_of z))
fraction_read day s None z f h = no_point day s z ∙ zone_read day s 0 z h
fraction_read day s (Some ds) z f h = point_read day s ds z f h

-- ---- the seconds

no_colon : (day : ℤ) (s : ℕ) (z : Zone) → after_minute day s (print_zone z) ≡ read_zone day s 0 (print_zone z)
unfolding after_minute
no_colon day s universal = refl
no_colon day s (ahead h m) = refl
no_colon day s (behind h m) = refl

seconds_read : (day : ℤ) (s : ℕ) (seconds : Option Seconds) (z : Zone) → IfSome seconds IsSeconds → IsZone z
    → after_minute day s (print_seconds seconds (print_zone z)) ≡ Some (at_day day (s * second_nanos + nanos_of_seconds seconds) (offset_of z))
unfolding after_minute read_second
seconds_read day s None z v h = no_colon day s z ∙ zone_read day s 0 z h
seconds_read day s (Some x) z v h =
    let low = v.second in
    let sum : (s + x.second) * second_nanos + nanos_of_fraction x.fraction ≡ s * second_nanos + (x.second * second_nanos + nanos_of_fraction x.fraction) = omega arith in
    rw (below_read 60 x.second low (omega arith))
    (fraction_read day (s + x.second) x.fraction z v.fraction h ∙ ap (λ n. Some (at_day day n (offset_of z))) sum)

-- ---- the time

clock_read : (day : ℤ) (c : Clock) → IsClock c → read_time day (print_clock c) ≡ Some (at_day day (nanos_of_clock c) (offset_of c.zone))
unfolding read_time
clock_read day c v =
    let low = v.hour in
    let high = v.minute in
    let sum : (c.hour * 3600 + c.minute * 60) * second_nanos + nanos_of_seconds c.seconds ≡ c.hour * hour_nanos + c.minute * minute_nanos + nanos_of_seconds c.seconds = omega arith in
    rw (below_read 24 c.hour low (omega arith), below_read 60 c.minute high (omega arith))
    (seconds_read day (c.hour * 3600 + c.minute * 60) c.seconds c.zone v.seconds v.zone ∙ ap (λ n. Some (at_day day n (offset_of c.zone))) sum)

-- ---- the date

number_read : (y m d : ℕ) → is_date y m d ≡ true → day_number y m d ≡ Some (days_from_civil (pos y) m d)
unfolding day_number
number_read y m d h = rw h refl

alone_read : (y m d : ℕ) → is_date y m d ≡ true → date_alone y m d [] ≡ Some (at_day (days_from_civil (pos y) m d) 0 (pos 0))
unfolding date_alone at_end
alone_read y m d h = rw (number_read y m d h) refl

year_read : (y : ℕ) (cs : List ℕ) → y < 10_000 → spelled_timestamp (print_four y cs) ≡ after_year y cs
unfolding spelled_timestamp
year_read y cs h =
    let sum : y / 100 * 100 + y % 100 ≡ y = omega arith in
    rw (pair_read (y / 100) (omega arith), pair_read (y % 100) (omega arith)) (ap (λ n. after_year n cs) sum)

month_read : (y m : ℕ) (cs : List ℕ) → m < 100 → after_year y (hyphen ∷ print_two m cs) ≡ after_month y m cs
unfolding after_year read_month
month_read y m cs h = rw (pair_read m h) refl

day_read : (y m d : ℕ) (cs : List ℕ) → d < 100 → after_month y m (hyphen ∷ print_two d cs) ≡ after_day y m d cs
unfolding after_month read_day
day_read y m d cs h = rw (pair_read d h) refl

date_read : (y m d : ℕ) (cs : List ℕ) → is_date y m d ≡ true → spelled_timestamp (print_date y m d cs) ≡ after_day y m d cs
date_read y m d cs h =
    let s = date_open y m d h in
    let a = s.year_high in
    let b = s.month_high in
    let e = s.day_high in
    let long = days_in_month_bounds (pos y) m in
    year_read y (hyphen ∷ print_two m (hyphen ∷ print_two d cs)) (omega arith) ∙ month_read y m (hyphen ∷ print_two d cs) (omega arith) ∙ day_read y m d cs (omega arith)

midnight_read : (day : ℤ) → read_time day [] ≡ Some (at_day day 0 (pos 0))
unfolding read_time at_end
midnight_read day = refl

-- each valid text is read as what it means
pub text_read : (x : TimestampText) → IsText x → spelled_timestamp (print_text x) ≡ Some (meaning_of x)
unfolding after_year after_month after_day
text_read (in_year y) v =
    let s = date_open y 1 1 v in
    let a = s.year_high in
    year_read y (capital_t ∷ []) (omega arith) ∙ alone_read y 1 1 v
text_read (in_month y m) v =
    let s = date_open y m 1 v in
    let a = s.year_high in
    let b = s.month_high in
    year_read y (hyphen ∷ print_two m (capital_t ∷ [])) (omega arith) ∙ month_read y m (capital_t ∷ []) (omega arith) ∙ alone_read y m 1 v
text_read (on_day y m d) v = date_read y m d [] v ∙ alone_read y m d v
text_read (marked_day y m d) v = date_read y m d (capital_t ∷ []) v ∙ marked_read y m d v
  where
    marked_read : (y m d : ℕ) → is_date y m d ≡ true → after_day y m d (capital_t ∷ []) ≡ Some (at_day (days_from_civil (pos y) m d) 0 (pos 0))
    marked_read y m d h = rw (number_read y m d h) (midnight_read (days_from_civil (pos y) m d))
text_read (at_time y m d c) v =
    date_read y m d (capital_t ∷ print_clock c) v.0 ∙ timed_read y m d c v.0 v.1
  where
    timed_read : (y m d : ℕ) (c : Clock) → is_date y m d ≡ true → IsClock c → after_day y m d (capital_t ∷ print_clock c) ≡ Some (at_day (days_from_civil (pos y) m d) (nanos_of_clock c) (offset_of c.zone))
    timed_read y m d c h k = rw (number_read y m d h) (clock_read (days_from_civil (pos y) m d) c k)

-- what is spelled is read
pub spelled_read : (cs : List ℕ) (t : Timestamp) → Spells cs t → spelled_timestamp cs ≡ Some t
spelled_read cs t s = ap spelled_timestamp (sym s.characters) ∙ text_read s.text s.valid ∙ ap Some s.timestamp

-- ---- which texts can be read

-- all characters are ASCII
abbrev pub AllLow : List ℕ → Type 0
AllLow [] = Unit {0}
AllLow (c ∷ cs) = (c < 128) × AllLow cs

two_low : (n : ℕ) (cs : List ℕ) → n < 100 → AllLow cs → AllLow (print_two n cs)
two_low n cs h low = (omega arith, (omega arith, low))

zone_low : (z : Zone) → IsZone z → AllLow (print_zone z)
zone_low universal h = (omega arith, tt)
zone_low (ahead h m) (low, high) = (omega arith, two_low h (colon ∷ print_two m []) (omega arith) (omega arith, two_low m [] (omega arith) tt))
zone_low (behind h m) (low, high) = (omega arith, two_low h (colon ∷ print_two m []) (omega arith) (omega arith, two_low m [] (omega arith) tt))

digits_low : (ds cs : List ℕ) → all_ascii_digits ds ≡ true → AllLow cs → AllLow (ds ++ cs)
digits_low [] cs h low = low
digits_low (c ∷ ds) cs h low =
    let two = and_parts (is_ascii_digit c) (all_ascii_digits ds) h in
    (digit_low c two.0, digits_low ds cs two.1 low)
  where
    digit_low : (c : ℕ) → is_ascii_digit c ≡ true → c < 128
    digit_low c t = grind (arith, nat_tests)

fraction_low : (fraction : Option (List ℕ)) (cs : List ℕ) → IfSome fraction IsFraction → AllLow cs → AllLow (print_fraction fraction cs)
fraction_low None cs h low = low
fraction_low (Some ds) cs h low = (omega arith, digits_low ds cs h.digits low)

seconds_low : (seconds : Option Seconds) (cs : List ℕ) → IfSome seconds IsSeconds → AllLow cs → AllLow (print_seconds seconds cs)
seconds_low None cs h low = low
seconds_low (Some s) cs h low =
    let few = h.second in
    (omega arith, two_low s.second (print_fraction s.fraction cs) (omega arith) (fraction_low s.fraction cs h.fraction low))

clock_low : (c : Clock) → IsClock c → AllLow (print_clock c)
clock_low c v =
    let a = v.hour in
    let b = v.minute in
    two_low c.hour (colon ∷ print_two c.minute (print_seconds c.seconds (print_zone c.zone))) (omega arith)
    (omega arith, two_low c.minute (print_seconds c.seconds (print_zone c.zone)) (omega arith) (seconds_low c.seconds (print_zone c.zone) v.seconds (zone_low c.zone v.zone)))

four_low : (y : ℕ) (cs : List ℕ) → y ≤ 9_999 → AllLow cs → AllLow (print_four y cs)
four_low y cs h low = two_low (y / 100) (print_two (y % 100) cs) (omega arith) (two_low (y % 100) cs (omega arith) low)

date_low : (y m d : ℕ) (cs : List ℕ) → is_date y m d ≡ true → AllLow cs → AllLow (print_date y m d cs)
date_low y m d cs h low =
    let s = date_open y m d h in
    let b = s.month_high in
    let e = s.day_high in
    let long = days_in_month_bounds (pos y) m in
    four_low y (hyphen ∷ print_two m (hyphen ∷ print_two d cs)) s.year_high
    (omega arith, two_low m (hyphen ∷ print_two d cs) (omega arith) (omega arith, two_low d cs (omega arith) low))

text_low : (x : TimestampText) → IsText x → AllLow (print_text x)
text_low (in_year y) v = four_low y (capital_t ∷ []) (date_open y 1 1 v).year_high (omega arith, tt)
text_low (in_month y m) v =
    let s = date_open y m 1 v in
    let b = s.month_high in
    four_low y (hyphen ∷ print_two m (capital_t ∷ [])) s.year_high (omega arith, two_low m (capital_t ∷ []) (omega arith) (omega arith, tt))
text_low (on_day y m d) v = date_low y m d [] v tt
text_low (marked_day y m d) v = date_low y m d (capital_t ∷ []) v (omega arith, tt)
text_low (at_time y m d c) v = date_low y m d (capital_t ∷ print_clock c) v.0 (omega arith, clock_low c v.1)

low_ascii : (cs : List ℕ) → AllLow cs → IsAscii cs
low_ascii [] h i = omega arith
low_ascii (c ∷ cs) h zero = h.0
low_ascii (c ∷ cs) h (suc i) = low_ascii cs h.1 i

zone_short : (z : Zone) → length (print_zone z) ≤ 6
zone_short universal = omega arith
zone_short (ahead h m) = omega arith
zone_short (behind h m) = omega arith

fraction_short : (fraction : Option (List ℕ)) (z : Zone) → IfSome fraction IsFraction → length (print_fraction fraction (print_zone z)) ≤ 16
fraction_short None z h = let e = zone_short z in omega arith
fraction_short (Some ds) z h =
    let e = zone_short z in
    let few = h.few in
    let sum = length-append ds (print_zone z) in
    omega arith

seconds_short : (seconds : Option Seconds) (z : Zone) → IfSome seconds IsSeconds → length (print_seconds seconds (print_zone z)) ≤ 19
seconds_short None z h = let e = zone_short z in omega arith
seconds_short (Some s) z h = let e = fraction_short s.fraction z h.fraction in omega arith

text_short : (x : TimestampText) → IsText x → length (print_text x) ≤ 35
text_short (in_year y) v = omega arith
text_short (in_month y m) v = omega arith
text_short (on_day y m d) v = omega arith
text_short (marked_day y m d) v = omega arith
text_short (at_time y m d c) v = let e = seconds_short c.seconds c.zone v.1.seconds in omega arith

-- what is read is ASCII and at most 35 characters
pub read_ascii : (cs : List ℕ) (t : Timestamp) → Spells cs t → IsAscii cs
read_ascii cs t s = let low : AllLow cs = rw s.characters at (text_low s.text s.valid) in low_ascii cs low

pub read_short : (cs : List ℕ) (t : Timestamp) → Spells cs t → length cs ≤ 35
read_short cs t s = rw s.characters at (text_short s.text s.valid)

-- ---- texts that spell nothing

none_by : (cs : List ℕ) (o : Option Timestamp) → spelled_timestamp cs ≡ o → ((t : Timestamp) → Spells cs t → ⊥) → None ≡ spelled_timestamp cs
none_by cs None e h = sym e
none_by cs (Some t) e h = absurd (h t (spells cs t e))

none_of : (cs : List ℕ) → ((t : Timestamp) → Spells cs t → ⊥) → None ≡ spelled_timestamp cs
none_of cs h = none_by cs (spelled_timestamp cs) refl h

pub none_long : (cs : List ℕ) → 36 ≤ length cs → None ≡ spelled_timestamp cs
none_long cs h = none_of cs (λ t s. let e = read_short cs t s in omega arith)

pub none_high : (cs : List ℕ) (i : ℕ) → 128 ≤ slice_index cs i → None ≡ spelled_timestamp cs
none_high cs i h = none_of cs (λ t s. let e = read_ascii cs t s i in omega arith)

-- bytes that aren't all ASCII
pub none_bytes : (bs : List ℕ) → IsUtf8 bs → IsNotAscii bs → None ≡ spelled_timestamp (chars bs)
none_bytes bs u (i, h) = none_of (chars bs) (λ t s.
    let low = read_ascii (chars bs) t s in
    let same : chars bs ≡ bs = sym (encodes-IsAscii (chars bs) low) ∙ encodes-chars bs u in
    let here : slice_index bs i < 128 = rw same at (low i) in
    omega arith)

-- the answer's two clauses on the grammar
pub answer_spells : (o : Option Timestamp) (cs : List ℕ) → o ≡ spelled_timestamp cs → IfSome o (Spells cs)
answer_spells None cs e = tt
answer_spells (Some t) cs e = spells cs t (sym e)

at_place : (xs rest : List ℕ) (c : ℕ) → slice_index (xs ++ c ∷ rest) (length xs) ≡ c
at_place [] rest c = refl
at_place (x ∷ xs) rest c = at_place xs rest c

pub high_none : (xs left rest cs : List ℕ) (c : ℕ) → xs ++ left ≡ cs → left ≡ c ∷ rest → 128 ≤ c → None ≡ spelled_timestamp cs
high_none xs left rest cs c e f h =
    let all : xs ++ c ∷ rest ≡ cs = ap (λ l. xs ++ l) (sym f) ∙ e in
    let here : slice_index cs (length xs) ≡ c = ap (λ l. slice_index l (length xs)) (sym all) ∙ at_place xs rest c in
    none_high cs (length xs) (omega arith)

pub full_none : (xs left rest cs : List ℕ) (c : ℕ) → xs ++ left ≡ cs → left ≡ c ∷ rest → (length xs == 35) ≡ true → None ≡ spelled_timestamp cs
full_none xs left rest cs c e f h =
    let all : xs ++ c ∷ rest ≡ cs = ap (λ l. xs ++ l) (sym f) ∙ e in
    let full : length xs ≡ 35 = exact_unsigned_eq (length xs) 35 h in
    let sum = length-append xs (c ∷ rest) in
    let same : length (xs ++ c ∷ rest) ≡ length cs = ap length all in
    none_long cs (omega arith)
