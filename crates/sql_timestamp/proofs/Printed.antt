-- What is printed is read as the same timestamp.
use Rattle.std.proofs.Common.{◌≡◌, ℕ, zero, suc, ◌+◌, ◌-◌, ◌*◌, ◌/◌, ◌%◌, ◌^◌, ◌<◌, ◌≤◌, Bool, true, false, ◌==◌, if◌then◌else◌, List, [], ◌∷◌, ◌++◌, length, append_assoc, append-nil, Option, Some, None, IfSome, refl, sym, ap, ◌∙◌, arith, ℤ, pos, negsuc, neg_ℤ, ◌+ℤ◌, ◌-ℤ◌, ◌*ℤ◌, ◌≤ℤ◌}
use Rattle.std.specs.Char.{is_ascii_digit, digit_value}
use Rattle.std.specs.Str.{all_ascii_digits, chars}
use Rattle.std.proofs.lemmas.Bool.Decides.{nat_tests}
use Rattle.std.proofs.lemmas.Bool.{and_from}
use Rattle.std.proofs.lemmas.Map.Views.{exact_unsigned_eq}
use Rattle.std.proofs.lemmas.Nat.{div-add-mod'}
use Rattle.std.proofs.lemmas.Str.{chars-IsAscii}
use Rattle.std.proofs.Math.Nat.{pow-succ', div-lt_iff_lt-mul, mod-lt}
use Rattle.jiff_core.proofs.SignedLemmas.{signed_arith}
use Rattle.sql_timestamp.specs.Instants.{Timestamp, timestamp_of, at_day, local_nanos, local_day, time_of_day, is_offset, is_timestamp, second_nanos, minute_nanos, hour_nanos, day_nanos}
use Rattle.sql_timestamp.specs.Calendars.{year_of, month_of, day_of}
use Rattle.sql_timestamp.specs.TimestampText.{digit, capital_t, colon, full_stop, print_two, print_date, print_fraction, print_zone, IsZone, IsFraction, IsClock, IsText, offset_of, fraction_nanos, nanos_of_fraction, nanos_of_clock, meaning_of, Spells}
use Rattle.sql_timestamp.specs.Reading.{spelled_timestamp}
use Rattle.sql_timestamp.specs.Printing.{fraction_digits, printed_fraction, printed_zone, printed_clock, text_of, printed_timestamp}
use Rattle.sql_timestamp.proofs.Dates.{date_of_day, date_close}
use Rattle.sql_timestamp.proofs.Ranges.{day_is, offset_is, offset_between}
use Rattle.sql_timestamp.proofs.ReadSteps.{some_power}
use Rattle.sql_timestamp.proofs.ReadBack.{digit_is, read_ascii, spelled_read}
use Rattle.sql_timestamp.proofs.Spelling.{digit_counts}

-- ---- the digits of a fraction

no_digits : (p : ℕ) → fraction_digits p 0 ≡ []
unfolding fraction_digits
no_digits zero = refl
no_digits (suc p) = refl

pub digits_end : (xs target : List ℕ) (p f : ℕ) → f ≤ 0 → xs ++ fraction_digits p f ≡ target → xs ≡ target
digits_end xs target p f none e =
    let z : f ≡ 0 = omega arith in
    let same : xs ++ [] ≡ target = rw (z, no_digits p) at e in
    sym (append-nil xs) ∙ same

not_zero : (f : ℕ) → 0 < f → (f == 0) ≡ false
not_zero f h = grind (arith, nat_tests)

more_digits : (p f : ℕ) → 0 < f → fraction_digits (suc p) f ≡ digit (f / 10 ^ p) ∷ fraction_digits p (f % 10 ^ p)
unfolding fraction_digits
more_digits p f h = rw (not_zero f h) refl

pub digits_more : (xs ys target : List ℕ) (p f w : ℕ) → 0 < f → f < 10 ^ p → w ≡ 10 ^ (p - 1) → ys ≡ xs ++ digit (f / w) ∷ [] → xs ++ fraction_digits p f ≡ target
    → ys ++ fraction_digits (p - 1) (f % w) ≡ target
digits_more xs ys target zero f w some below e new old = absurd (omega arith)
digits_more xs ys target (suc p) f w some below e new old =
    let back : suc p - 1 ≡ p = omega arith in
    let unit : w ≡ 10 ^ p = rw back at e in
    rw (back, new, unit) (append_assoc xs (digit (f / 10 ^ p) ∷ []) (fraction_digits p (f % 10 ^ p)) ∙ ap (λ l. xs ++ l) (sym (more_digits p f some)) ∙ old)

pub digit_below : (p f w : ℕ) → 0 < f → f < 10 ^ p → w ≡ 10 ^ (p - 1) → (f / w < 10) × (f % w < 10 ^ (p - 1)) × (0 < p) × (0 < w)
digit_below zero f w some below e = absurd (omega arith)
digit_below (suc p) f w some below e =
    let back : suc p - 1 ≡ p = omega arith in
    let unit : w ≡ 10 ^ p = rw back at e in
    let power : 10 ^ suc p ≡ 10 * 10 ^ p = pow-succ' 10 p in
    let large = some_power p in
    rw (back, unit) ((div-lt_iff_lt-mul {k = 10 ^ p} {x = f} {y = 10} (omega arith)).1 (omega arith), mod-lt f (omega arith), omega arith, omega arith)

quotient : (p f : ℕ) → f < 10 ^ suc p → (f / 10 ^ p < 10) × (f % 10 ^ p < 10 ^ p)
quotient p f below =
    let power : 10 ^ suc p ≡ 10 * 10 ^ p = pow-succ' 10 p in
    let large = some_power p in
    ((div-lt_iff_lt-mul {k = 10 ^ p} {x = f} {y = 10} (omega arith)).1 (omega arith), mod-lt f (omega arith))

all_by : (p f : ℕ) (t : Bool) (rest : List ℕ) → f < 10 ^ suc p → all_ascii_digits rest ≡ true → all_ascii_digits (if t then [] else digit (f / 10 ^ p) ∷ rest) ≡ true
all_by p f true rest below h = refl
all_by p f false rest below h = and_from (is_ascii_digit (digit (f / 10 ^ p))) (all_ascii_digits rest) (digit_is (f / 10 ^ p) (quotient p f below).0) h

all_digits : (p f : ℕ) → f < 10 ^ p → all_ascii_digits (fraction_digits p f) ≡ true
unfolding fraction_digits
all_digits zero f below = refl
all_digits (suc p) f below = all_by p f (f == 0) (fraction_digits p (f % 10 ^ p)) below (all_digits p (f % 10 ^ p) (quotient p f below).1)

few_by : (p d : ℕ) (t : Bool) (rest : List ℕ) → length rest ≤ p → length (if t then [] else d ∷ rest) ≤ suc p
few_by p d true rest h = omega arith
few_by p d false rest h = omega arith

few_digits : (p f : ℕ) → length (fraction_digits p f) ≤ p
unfolding fraction_digits
few_digits zero f = omega arith
few_digits (suc p) f = few_by p (digit (f / 10 ^ p)) (f == 0) (fraction_digits p (f % 10 ^ p)) (few_digits p (f % 10 ^ p))

some_digits : (f : ℕ) → 0 < f → 0 < length (fraction_digits 9 f)
some_digits f h = rw (more_digits 8 f h) (omega arith)

count_by_digit : (p f : ℕ) (t : Bool) (rest : List ℕ) → (f == 0) ≡ t → f < 10 ^ suc p → fraction_nanos p rest ≡ f % 10 ^ p
    → fraction_nanos (suc p) (if t then [] else digit (f / 10 ^ p) ∷ rest) ≡ f
count_by_digit p f true rest e below h = sym (exact_unsigned_eq f 0 e)
count_by_digit p f false rest e below h =
    let q = (quotient p f below).0 in
    let value : digit_value (digit (f / 10 ^ p)) ≡ f / 10 ^ p = digit_counts (digit (f / 10 ^ p)) (digit_is (f / 10 ^ p) q) ∙ omega arith in
    let split = div-add-mod' f (10 ^ p) in
    rw (value, h) (omega arith)

digits_count : (p f : ℕ) → f < 10 ^ p → fraction_nanos p (fraction_digits p f) ≡ f
unfolding fraction_digits
digits_count zero f below = omega arith
digits_count (suc p) f below = count_by_digit p f (f == 0) (fraction_digits p (f % 10 ^ p)) refl below (digits_count p (f % 10 ^ p) (quotient p f below).1)

-- ---- the text

fraction_valid : (f : ℕ) → f < 10 ^ 9 → IfSome (printed_fraction f) IsFraction
fraction_valid f below = by (f == 0) refl
  where
    by : (t : Bool) → (f == 0) ≡ t → IfSome (if t then None else Some (fraction_digits 9 f)) IsFraction
    by true e = tt
    by false e = record { some = some_digits f (above f e); few = few_digits 9 f; digits = all_digits 9 f below }
      where
        above : (f : ℕ) → (f == 0) ≡ false → 0 < f
        above f e = grind (arith, nat_tests)

fraction_is : (f : ℕ) → f < 10 ^ 9 → nanos_of_fraction (printed_fraction f) ≡ f
fraction_is f below = by (f == 0) refl
  where
    by : (t : Bool) → (f == 0) ≡ t → nanos_of_fraction (if t then None else Some (fraction_digits 9 f)) ≡ f
    by true e = sym (exact_unsigned_eq f 0 e)
    by false e = digits_count 9 f below

zone_is : (o : ℤ) → offset_of (printed_zone o) ≡ o
zone_is (pos zero) = refl
zone_is (pos (suc o)) = let sum : suc o / 60 * 60 + suc o % 60 ≡ suc o = omega arith in ap pos sum
zone_is (negsuc o) = let sum : suc o / 60 * 60 + suc o % 60 ≡ suc o = omega arith in ap (λ n. neg_ℤ (pos n)) sum

zone_valid : (o : ℤ) → negsuc 1_438 ≤ℤ o → o ≤ℤ pos 1_439 → IsZone (printed_zone o)
zone_valid (pos zero) low high = tt
zone_valid (pos (suc o)) low high = (omega (arith, signed_arith), omega arith)
zone_valid (negsuc o) low high = (omega (arith, signed_arith), omega arith)

clock_valid : (nanos : ℕ) (o : ℤ) → nanos < day_nanos → is_offset o ≡ true → IsClock (printed_clock nanos o)
clock_valid nanos o below h =
    let ends = offset_between o h in
    record {
      hour = omega arith;
      minute = omega arith;
      seconds = record { second = omega arith; fraction = fraction_valid (nanos % second_nanos) (omega arith) };
      zone = zone_valid o ends.0 ends.1;
    }

clock_is : (nanos : ℕ) (o : ℤ) → nanos_of_clock (printed_clock nanos o) ≡ nanos
clock_is nanos o = rw (fraction_is (nanos % second_nanos) (omega arith)) (omega arith)

day_bound : (t : Timestamp) → time_of_day t < day_nanos
unfolding time_of_day
day_bound t = omega (arith, signed_arith)

shown_again : (t : Timestamp) → local_day t *ℤ pos day_nanos +ℤ pos (time_of_day t) ≡ local_nanos t
unfolding local_day time_of_day
shown_again t = omega (arith, signed_arith)

same_instant : (t : Timestamp) → at_day (local_day t) (time_of_day t) t.offset ≡ t
same_instant t =
    let back : local_day t *ℤ pos day_nanos +ℤ pos (time_of_day t) -ℤ t.offset *ℤ pos minute_nanos ≡ t.instant = rw (shown_again t) (omega (arith, signed_arith)) in
    ap (λ i. timestamp_of i t.offset) back

text_valid : (t : Timestamp) → is_timestamp t ≡ true → IsText (text_of t)
text_valid t h =
    let is = date_of_day (local_day t) (day_is t h) in (
      date_close (year_of (local_day t)) (month_of (local_day t)) (day_of (local_day t)) (record {
        year_low = is.year_low;
        year_high = is.year_high;
        month_low = is.month_low;
        month_high = is.month_high;
        day_low = is.day_low;
        day_high = is.day_high;
      }),
      clock_valid (time_of_day t) t.offset (day_bound t) (offset_is t h),
    )

text_means : (t : Timestamp) → is_timestamp t ≡ true → meaning_of (text_of t) ≡ t
text_means t h =
    let is = date_of_day (local_day t) (day_is t h) in
    rw (is.number, clock_is (time_of_day t) t.offset, zone_is t.offset) (same_instant t)

pub printed_back : (t : Timestamp) (bs : List ℕ) → is_timestamp t ≡ true → bs ≡ printed_timestamp t → spelled_timestamp (chars bs) ≡ Some t
unfolding printed_timestamp
printed_back t bs h e =
    let spelled : Spells bs t = record { text = text_of t; valid = text_valid t h; characters = sym e; timestamp = text_means t h } in
    ap spelled_timestamp (chars-IsAscii bs (read_ascii bs t spelled)) ∙ spelled_read bs t spelled

-- ---- the pushes

fraction_then : (fraction : Option (List ℕ)) (rest : List ℕ) → print_fraction fraction [] ++ rest ≡ print_fraction fraction rest
fraction_then None rest = refl
fraction_then (Some ds) rest = ap (λ l. full_stop ∷ l) (append_assoc ds [] rest)

pub pushed : (t : Timestamp) (z a b c d : List ℕ) (y m dd h mi s n : ℕ) (o : ℤ) → y ≡ year_of (local_day t) → m ≡ month_of (local_day t) → dd ≡ day_of (local_day t)
    → h ≡ time_of_day t / hour_nanos → mi ≡ time_of_day t / minute_nanos % 60 → s ≡ time_of_day t / second_nanos % 60 → n ≡ time_of_day t % second_nanos → o ≡ t.offset
    → z ≡ [] → a ≡ z ++ print_date y m dd [] → b ≡ a ++ capital_t ∷ print_two h (colon ∷ print_two mi (colon ∷ print_two s [])) → c ≡ b ++ print_fraction (printed_fraction n) [] → d ≡ c ++ print_zone (printed_zone o)
    → d ≡ printed_timestamp t
unfolding printed_timestamp
pushed t z a b c d y m dd h mi s n o e1 e2 e3 e4 e5 e6 e7 e8 none first second third fourth =
    fourth ∙ rw (third, second, first, none)
    (append_assoc (print_date y m dd (capital_t ∷ print_two h (colon ∷ print_two mi (colon ∷ print_two s [])))) (print_fraction (printed_fraction n) []) (print_zone (printed_zone o))
    ∙ rw (fraction_then (printed_fraction n) (print_zone (printed_zone o)), e1, e2, e3, e4, e5, e6, e7, e8) refl)
