-- Which instants and offsets are timestamps, as bounds on numbers.
use Rattle.std.proofs.Common.{◌≡◌, ℕ, ◌+◌, ◌*◌, ◌<◌, ◌^◌, Bool, true, false, ◌&&◌, ◌==◌, Some, None, refl, sym, ap, ◌∙◌, arith, ℤ, pos, negsuc, ◌+ℤ◌, ◌-ℤ◌, ◌*ℤ◌, ◌<ℤ◌, ◌≤ℤ◌, unsigned_abs, to_z, of_z, to_z-of_z, FitsSigned, w64}
use Rattle.std.specs.Prelude.{int_le}
use Rattle.std.specs.Int.{Width, int_div_euclid, int_rem_euclid}
use Rattle.std.specs.Ordering.{int_eq, int_cmp, nat_cmp, ordering_then}
use Rattle.std.proofs.lemmas.Bool.{and_parts, and_from}
use Rattle.jiff_core.proofs.SignedLemmas.{signed_arith, one_part}
use Rattle.sql_timestamp.specs.Instants.{Timestamp, timestamp_of, at_day, local_nanos, local_day, time_of_day, is_day, is_offset, is_timestamp, made, second_nanos, minute_nanos, day_nanos}
use Rattle.sql_timestamp.specs.Words.{joined, ShowsYear, shows_year_at, seconds_of, nanos_of, seconds_back, nanos_back}
use Rattle.sql_timestamp.proofs.Dates.{at_most_true, day_between, is_day-between}

-- a timestamp's offset, and what its clock shows
pub record Within (t : Timestamp) : Type 0 where
  pub offset_low : negsuc 1_438 ≤ℤ t.offset
  pub offset_high : t.offset ≤ℤ pos 1_439
  pub local_low : negsuc 62_135_596_799_999_999_999 ≤ℤ local_nanos t
  pub local_high : local_nanos t <ℤ pos 253_402_300_800_000_000_000

read_at_most : (a b : ℤ) → int_le a b ≡ true → a ≤ℤ b
read_at_most a b h = omega (arith, signed_arith)

-- the day that a clock shows
abbrev day_at : ℤ → ℤ
day_at local = int_div_euclid local (pos day_nanos)

day_low : (local : ℤ) → negsuc 719_161 ≤ℤ day_at local → negsuc 62_135_596_799_999_999_999 ≤ℤ local
day_low local h = omega (arith, signed_arith)

day_high : (local : ℤ) → day_at local ≤ℤ pos 2_932_896 → local <ℤ pos 253_402_300_800_000_000_000
day_high local h = omega (arith, signed_arith)

low_day : (local : ℤ) → negsuc 62_135_596_799_999_999_999 ≤ℤ local → negsuc 719_161 ≤ℤ day_at local
low_day local h = omega (arith, signed_arith)

high_day : (local : ℤ) → local <ℤ pos 253_402_300_800_000_000_000 → day_at local ≤ℤ pos 2_932_896
high_day local h = omega (arith, signed_arith)

pub within : (t : Timestamp) → is_timestamp t ≡ true → Within t
unfolding is_timestamp local_day
within t h =
    let two = and_parts (is_offset t.offset) (is_day (local_day t)) h in
    let ends = and_parts (int_le (negsuc 1_438) t.offset) (int_le t.offset (pos 1_439)) two.0 in
    let day = day_between (local_day t) two.1 in
    record {
      offset_low = read_at_most (negsuc 1_438) t.offset ends.0;
      offset_high = read_at_most t.offset (pos 1_439) ends.1;
      local_low = day_low (local_nanos t) day.0;
      local_high = day_high (local_nanos t) day.1;
    }

pub is_within : (t : Timestamp) → Within t → is_timestamp t ≡ true
unfolding is_timestamp local_day
is_within t w =
    and_from (is_offset t.offset) (is_day (local_day t))
    (and_from (int_le (negsuc 1_438) t.offset) (int_le t.offset (pos 1_439)) (at_most_true _ _ w.offset_low) (at_most_true _ _ w.offset_high))
    (is_day-between (local_day t) (low_day (local_nanos t) w.local_low) (high_day (local_nanos t) w.local_high))

pub day_is : (t : Timestamp) → is_timestamp t ≡ true → is_day (local_day t) ≡ true
unfolding is_timestamp
day_is t h = (and_parts (is_offset t.offset) (is_day (local_day t)) h).1

made_by : (i o : ℤ) (b : Bool) → is_timestamp (timestamp_of i o) ≡ b → (Within (timestamp_of i o) → ⊥) → made i o ≡ None
unfolding made
made_by i o true e h = absurd (h (within (timestamp_of i o) e))
made_by i o false e h = rw e refl

-- no timestamp
pub made_none : (i o : ℤ) → (Within (timestamp_of i o) → ⊥) → made i o ≡ None
made_none i o h = made_by i o (is_timestamp (timestamp_of i o)) refl h

-- a timestamp
pub made_some : (i o : ℤ) → is_timestamp (timestamp_of i o) ≡ true → made i o ≡ Some (timestamp_of i o)
unfolding made
made_some i o h = rw h refl

-- the order of two instants from their words
pub joined_order : (s t : ℤ) (m n : ℕ) → m < second_nanos → n < second_nanos → ordering_then (int_cmp s t) (nat_cmp m n) ≡ int_cmp (joined s m) (joined t n)
joined_order s t m n h k = grind (arith, signed_arith)

-- ---- the same of an instant in two words

pub shows_within : (s o : ℤ) (n : ℕ) → n < second_nanos → ShowsYear s o → Within (timestamp_of (joined s n) o)
shows_within s o n h y =
    let a = y.local_low in
    let b = y.local_high in
    record {
      offset_low = y.offset_low;
      offset_high = y.offset_high;
      local_low = omega (arith, signed_arith);
      local_high = omega (arith, signed_arith);
    }

pub within_shows : (s o : ℤ) (n : ℕ) → n < second_nanos → Within (timestamp_of (joined s n) o) → ShowsYear s o
within_shows s o n h w =
    let a : negsuc 62_135_596_799_999_999_999 ≤ℤ (s *ℤ pos second_nanos +ℤ pos n +ℤ o *ℤ pos minute_nanos) = w.local_low in
    let b : (s *ℤ pos second_nanos +ℤ pos n +ℤ o *ℤ pos minute_nanos) <ℤ pos 253_402_300_800_000_000_000 = w.local_high in
    record {
      offset_low = w.offset_low;
      offset_high = w.offset_high;
      local_low = omega (arith, signed_arith);
      local_high = omega (arith, signed_arith);
    }

pub shown_open : (s o : ℤ) → shows_year_at s o ≡ true → ShowsYear s o
unfolding shows_year_at
shown_open s o h =
    let l = s +ℤ o *ℤ pos 60 in
    let two = and_parts (is_offset o) (int_le (negsuc 62_135_596_799) l && int_le l (pos 253_402_300_799)) h in
    let ends = and_parts (int_le (negsuc 1_438) o) (int_le o (pos 1_439)) two.0 in
    let local = and_parts (int_le (negsuc 62_135_596_799) l) (int_le l (pos 253_402_300_799)) two.1 in
    record {
      offset_low = read_at_most (negsuc 1_438) o ends.0;
      offset_high = read_at_most o (pos 1_439) ends.1;
      local_low = read_at_most (negsuc 62_135_596_799) l local.0;
      local_high = read_at_most l (pos 253_402_300_799) local.1;
    }

pub shown_close : (s o : ℤ) → ShowsYear s o → shows_year_at s o ≡ true
unfolding shows_year_at
shown_close s o y =
    let l = s +ℤ o *ℤ pos 60 in
    and_from (is_offset o) (int_le (negsuc 62_135_596_799) l && int_le l (pos 253_402_300_799))
    (and_from (int_le (negsuc 1_438) o) (int_le o (pos 1_439)) (at_most_true _ _ y.offset_low) (at_most_true _ _ y.offset_high))
    (and_from (int_le (negsuc 62_135_596_799) l) (int_le l (pos 253_402_300_799)) (at_most_true _ _ y.local_low) (at_most_true _ _ y.local_high))

shows_by : (s o : ℤ) (b : Bool) → shows_year_at s o ≡ b → (ShowsYear s o → ⊥) → shows_year_at s o ≡ false
shows_by s o true e h = absurd (h (shown_open s o e))
shows_by s o false e h = e

pub not_shown : (s o : ℤ) → (ShowsYear s o → ⊥) → false ≡ shows_year_at s o
not_shown s o h = sym (shows_by s o (shows_year_at s o) refl h)

-- what is passed on of a signed number is the number
pub kept : (w : Width) (z : ℤ) → FitsSigned w z → to_z w (of_z w z) ≡ z
kept w z f = to_z-of_z f

-- an instant too far from 1970
pub far_none : (i i' o : ℤ) → i' ≡ i → 10 ^ 21 < unsigned_abs i' → made i o ≡ None
far_none i i' o e h =
    let far : 10 ^ 21 < unsigned_abs i = rw e at h in
    made_none i o (λ w. too_far i o far w.offset_low w.offset_high w.local_low w.local_high)
  where
    too_far : (i o : ℤ) → 10 ^ 21 < unsigned_abs i → negsuc 1_438 ≤ℤ o → o ≤ℤ pos 1_439
        → negsuc 62_135_596_799_999_999_999 ≤ℤ (i +ℤ o *ℤ pos minute_nanos) → (i +ℤ o *ℤ pos minute_nanos) <ℤ pos 253_402_300_800_000_000_000 → ⊥
    too_far i o far a b c d = omega (arith, signed_arith, one_part)

-- the timestamp of two words that are passed on
pub made_kept : (s s' o o' : ℤ) (n : ℕ) → s' ≡ s → o' ≡ o → n < second_nanos → shows_year_at s' o' ≡ true → Some (timestamp_of (joined s' n) o') ≡ made (joined s n) o
made_kept s s' o o' n e f h shows =
    let same : made (joined s' n) o' ≡ made (joined s n) o = rw (e, f) refl in
    sym (made_some (joined s' n) o' (is_within (timestamp_of (joined s' n) o') (shows_within s' o' n h (shown_open s' o' shows)))) ∙ same

pub made_lost : (s s' o o' : ℤ) (n : ℕ) → s' ≡ s → o' ≡ o → n < second_nanos → shows_year_at s' o' ≡ false → None ≡ made (joined s n) o
made_lost s s' o o' n e f h lost =
    let same : made (joined s' n) o' ≡ made (joined s n) o = rw (e, f) refl in
    sym (made_none (joined s' n) o' (λ w. not_both (shows_year_at s' o') (shown_close s' o' (within_shows s' o' n h w)) lost)) ∙ same
  where
    not_both : (b : Bool) → b ≡ true → b ≡ false → ⊥
    not_both b e f = cc

-- ---- what a clock shows

pub offset_is : (t : Timestamp) → is_timestamp t ≡ true → is_offset t.offset ≡ true
unfolding is_timestamp
offset_is t h = (and_parts (is_offset t.offset) (is_day (local_day t)) h).0

-- an offset below a day
pub offset_between : (o : ℤ) → is_offset o ≡ true → (negsuc 1_438 ≤ℤ o) × (o ≤ℤ pos 1_439)
offset_between o h =
    let ends = and_parts (int_le (negsuc 1_438) o) (int_le o (pos 1_439)) h in
    (read_at_most (negsuc 1_438) o ends.0, read_at_most o (pos 1_439) ends.1)

day_of_words : (s o l : ℤ) (n : ℕ) → n < second_nanos → l ≡ s +ℤ o *ℤ pos 60 → int_div_euclid l (pos 86_400) ≡ local_day (timestamp_of (joined s n) o)
unfolding local_day
day_of_words s o l n h e = omega (arith, signed_arith)

time_of_words : (s o l : ℤ) (n : ℕ) → n < second_nanos → l ≡ s +ℤ o *ℤ pos 60
    → unsigned_abs (int_rem_euclid l (pos 86_400)) * second_nanos + n ≡ time_of_day (timestamp_of (joined s n) o)
unfolding time_of_day
time_of_words s o l n h e = omega (arith, signed_arith)

-- the day that a clock shows at the second l, as it is passed on
pub day_shown : (s o l r r' : ℤ) (n : ℕ) (t : Timestamp) → n < second_nanos → timestamp_of (joined s n) o ≡ t → l ≡ s +ℤ o *ℤ pos 60
    → r ≡ int_div_euclid l (pos 86_400) → r' ≡ r → r' ≡ local_day t
day_shown s o l r r' n t h is e f g = g ∙ f ∙ day_of_words s o l n h e ∙ ap local_day is

pub year_shown : (s o : ℤ) (r : ℤ) (n : ℕ) (t : Timestamp) → n < second_nanos → shows_year_at s o ≡ true → timestamp_of (joined s n) o ≡ t → r ≡ local_day t → is_day r ≡ true
year_shown s o r n t h y is e =
    let sound : is_timestamp t ≡ true = rw is at (is_within (timestamp_of (joined s n) o) (shows_within s o n h (shown_open s o y))) in
    rw e (day_is t sound)

pub offset_shown : (s o : ℤ) (n : ℕ) (t : Timestamp) → shows_year_at s o ≡ true → timestamp_of (joined s n) o ≡ t → is_offset t.offset ≡ true
unfolding shows_year_at
offset_shown s o n t h is =
    let l = s +ℤ o *ℤ pos 60 in
    let off = (and_parts (is_offset o) (int_le (negsuc 62_135_596_799) l && int_le l (pos 253_402_300_799)) h).0 in
    ap (λ x. is_offset x.offset) (sym is) ∙ off

-- and the time of day
pub time_shown : (s o l r r' : ℤ) (n : ℕ) (t : Timestamp) → n < second_nanos → timestamp_of (joined s n) o ≡ t → l ≡ s +ℤ o *ℤ pos 60
    → r ≡ int_rem_euclid l (pos 86_400) → r' ≡ r → unsigned_abs r' * second_nanos + n ≡ time_of_day t
time_shown s o l r r' n t h is e f g =
    ap (λ z. unsigned_abs z * second_nanos + n) (g ∙ f) ∙ time_of_words s o l n h e ∙ ap time_of_day is

-- the seconds of a clock's time
pub at_joined : (day s o : ℤ) (second n : ℕ) → s ≡ day *ℤ pos 86_400 +ℤ pos second -ℤ o *ℤ pos 60 → timestamp_of (joined s n) o ≡ at_day day (second * second_nanos + n) o
at_joined day s o second n e =
    let same : joined s n ≡ day *ℤ pos day_nanos +ℤ pos (second * second_nanos + n) -ℤ o *ℤ pos minute_nanos = omega (arith, signed_arith) in
    ap (λ i. timestamp_of i o) same

pub at_shows : (day s o o' : ℤ) (second : ℕ) → is_day day ≡ true → second < 86_400 → is_offset o ≡ true → o' ≡ o
    → s ≡ day *ℤ pos 86_400 +ℤ pos second -ℤ o *ℤ pos 60 → shows_year_at s o' ≡ true
at_shows day s o o' second d h off f e =
    let ends = offset_between o off in
    let days = day_between day d in
    rw f (shown_close s o (record {
      offset_low = ends.0;
      offset_high = ends.1;
      local_low = omega (arith, signed_arith);
      local_high = omega (arith, signed_arith);
    }))

-- ---- seconds later

pub made_moved : (x o' s o k : ℤ) (n : ℕ) (t : Timestamp) → timestamp_of (joined s n) o ≡ t → x ≡ s +ℤ k → o' ≡ o
    → made (joined x n) o' ≡ made (t.instant +ℤ k *ℤ pos second_nanos) t.offset
made_moved x o' s o k n t is e f =
    let same : joined x n ≡ joined s n +ℤ k *ℤ pos second_nanos = omega (arith, signed_arith) in
    rw (← is, f) (ap (λ i. made i o) same)

pub moved_lost : (s o k : ℤ) (n : ℕ) (t : Timestamp) → n < second_nanos → timestamp_of (joined s n) o ≡ t
    → (ShowsYear (s +ℤ k) o → ⊥) → None ≡ made (t.instant +ℤ k *ℤ pos second_nanos) t.offset
moved_lost s o k n t h is lost =
    sym (made_none (joined (s +ℤ k) n) o (λ w. lost (within_shows (s +ℤ k) o n h w))) ∙ made_moved (s +ℤ k) o s o k n t is refl refl

-- the sum, and what is added, fit 64 bits where the sum is a timestamp's
pub sum_fits : (s s' o k k' : ℤ) → s' ≡ s → k' ≡ k → (FitsSigned w64 (s' +ℤ k') → ⊥) → ShowsYear (s +ℤ k) o → ⊥
sum_fits s s' o k k' e f lost y = lost (near s s' o k k' e f y)
  where
    near : (s s' o k k' : ℤ) → s' ≡ s → k' ≡ k → ShowsYear (s +ℤ k) o → FitsSigned w64 (s' +ℤ k')
    near s s' o k k' e f y = omega (arith, signed_arith, y.offset_low, y.offset_high, y.local_low, y.local_high)

pub more_fits : (s o k k' : ℤ) → k' ≡ k → ShowsYear s o → (FitsSigned w64 k' → ⊥) → ShowsYear (s +ℤ k) o → ⊥
more_fits s o k k' f x lost y = lost (near s o k k' f x y)
  where
    near : (s o k k' : ℤ) → k' ≡ k → ShowsYear s o → ShowsYear (s +ℤ k) o → FitsSigned w64 k'
    near s o k k' f x y = omega (arith, signed_arith, x.offset_low, x.offset_high, x.local_low, x.local_high, y.offset_low, y.offset_high, y.local_low, y.local_high)

-- ---- two timestamps that are the same

pub eq_words : (s s' o o' : ℤ) (n n' : ℕ) (t u : Timestamp) (a b r : Bool) → n < second_nanos → n' < second_nanos
    → timestamp_of (joined s n) o ≡ t → timestamp_of (joined s' n') o' ≡ u → a ≡ int_eq s s' → b ≡ (a && (n == n')) → r ≡ (b && int_eq o o')
    → r ≡ (int_eq (seconds_of t.instant) (seconds_of u.instant) && ((nanos_of t.instant == nanos_of u.instant) && int_eq t.offset u.offset))
eq_words s s' o o' n n' t u a b r h k is too e f g =
    rw (g, f, e, ← is, ← too, seconds_back s n h, seconds_back s' n' k, nanos_back s n h, nanos_back s' n' k) (grouped (int_eq s s') (n == n') (int_eq o o'))
  where
    grouped : (x y z : Bool) → ((x && y) && z) ≡ (x && (y && z))
    grouped true y z = refl
    grouped false y z = refl
