-- The year, the month and the day of a day number are a date of that number, and the only one.
use Rattle.std.proofs.Common.{◌≡◌, ℕ, zero, suc, ◌+◌, ◌-◌, ◌<◌, ◌≤◌, Bool, true, false, ◌&&◌, nat_le, refl, sym, ap, ◌∙◌, inl, inr, arith, ℤ, pos, negsuc, ◌+ℤ◌, ◌-ℤ◌, ◌<ℤ◌, ◌≤ℤ◌, unsigned_abs}
use Rattle.std.specs.Prelude.{int_le}
use Rattle.std.proofs.lemmas.Bool.{cases_lt, and_parts}
use Rattle.std.proofs.lemmas.Bool.Decides.{nat_tests}
use Rattle.jiff_core.specs.declared.civil.date.Date.{Date}
use Rattle.jiff_core.specs.Date.{epoch_day, ordinal}
use Rattle.jiff_core.specs.Calendar.{days_from_civil, days_in_month}
use Rattle.jiff_core.proofs.SignedLemmas.{signed_arith, one_part}
use Rattle.jiff_core.proofs.MarchLemmas.{day_count-early}
use Rattle.jiff_core.proofs.CalendarLemmas.{days_from_civil-day_count, day_count-next_month, day_count-later_year, days_in_month_bounds, days_in_year_bounds}
use Rattle.jiff_core.proofs.DateLemmas.{days_from_civil-next_month, days_from_civil-next_year, days_from_civil-day, days_from_civil-max, epoch_day_injective, epoch_day-ordinal, epoch_day_range}
use Rattle.sql_timestamp.specs.Instants.{is_day}
use Rattle.sql_timestamp.specs.Calendars.{IsDateOf, is_date, begun, year_start, month_start, year_of, month_of, day_of}

-- ---- counting starts

-- each start comes before the next
pub record Ascends (start : ℕ → ℤ) (n : ℕ) : Type 0 where
  pub next : (k : ℕ) → 1 ≤ k → k < n → start k <ℤ start (k + 1)

-- the day lies at or behind the start of k, and before the next one, if that is among the first n
pub record Brackets (start : ℕ → ℤ) (day : ℤ) (n k : ℕ) : Type 0 where
  pub some : 1 ≤ k
  pub within : k ≤ n
  pub from : start k ≤ℤ day
  pub before : k < n → day <ℤ start (k + 1)

later : (start : ℕ → ℤ) (n : ℕ) → Ascends start n → (j k : ℕ) → 1 ≤ k → k + j ≤ n → start k ≤ℤ start (k + j)
later start n up zero k some within = let e : k + 0 ≡ k = omega arith in rw e (omega (arith, signed_arith))
later start n up (suc j) k some within =
    let e : k + suc j ≡ k + j + 1 = omega arith in
    let so_far = later start n up j k some (omega arith) in
    let more = up.next (k + j) (omega arith) (omega arith) in
    rw e (omega (arith, signed_arith))

begun_none : (start : ℕ → ℤ) (day : ℤ) → begun start day 0 ≡ 0
unfolding begun
begun_none start day = refl

begun_one : (start : ℕ → ℤ) (day : ℤ) (n : ℕ) → int_le (start (suc n)) day ≡ true → begun start day (suc n) ≡ begun start day n + 1
unfolding begun
begun_one start day n e = rw e refl

begun_same : (start : ℕ → ℤ) (day : ℤ) (n : ℕ) → int_le (start (suc n)) day ≡ false → begun start day (suc n) ≡ begun start day n
unfolding begun
begun_same start day n e = rw e (omega arith)

bracket_first : (start : ℕ → ℤ) (day : ℤ) (t : Bool) → int_le (start 1) day ≡ t → start 1 ≤ℤ day → Brackets start day 1 (begun start day 1)
bracket_first start day true e first =
    let one : begun start day 1 ≡ 1 = omega (arith, begun_one start day 0 e, begun_none start day) in
    rw one (record { some = omega arith; within = omega arith; from = first; before = λ h. absurd (omega arith) })
bracket_first start day false e first = absurd (omega (arith, signed_arith))

bracket_more : (start : ℕ → ℤ) (day : ℤ) (n k : ℕ) (t : Bool) → Ascends start (suc n) → int_le (start (suc n)) day ≡ t → Brackets start day n k → begun start day n ≡ k
    → Brackets start day (suc n) (begun start day (suc n))
bracket_more start day n k true up e so_far is =
    let all : n ≤ k = elim (cases_lt k n) [
      | inl less ↦
          let gap : k + 1 + (n - k) ≡ suc n = omega arith in
          let reached = rw gap at (later start (suc n) up (n - k) (k + 1) (omega arith) (omega arith)) in
          let not_yet = so_far.before less in
          absurd (omega (arith, signed_arith))
      | inr more ↦ more
    ] in
    let here = so_far.within in
    let one : begun start day (suc n) ≡ suc n = omega (arith, begun_one start day n e) in
    rw one (record { some = omega arith; within = omega arith; from = omega (arith, signed_arith); before = λ h. absurd (omega arith) })
bracket_more start day n k false up e so_far is =
    let same : begun start day (suc n) ≡ k = begun_same start day n e ∙ is in
    let some = so_far.some in
    let within = so_far.within in
    rw same (record {
      some = some;
      within = omega arith;
      from = so_far.from;
      before = λ h. elim (cases_lt k n) [
        | inl less ↦ so_far.before less
        | inr more ↦ let last : k + 1 ≡ suc n = omega arith in rw last (omega (arith, signed_arith))
      ];
    })

pub brackets : (start : ℕ → ℤ) (day : ℤ) (n : ℕ) → Ascends start (suc n) → start 1 ≤ℤ day → Brackets start day (suc n) (begun start day (suc n))
brackets start day zero up first = bracket_first start day (int_le (start 1) day) refl first
brackets start day (suc n) up first =
    let low : Ascends start (suc n) = record { next = λ k some within. up.next k some (omega arith) } in
    bracket_more start day (suc n) (begun start day (suc n)) (int_le (start (suc (suc n))) day) up refl (brackets start day n low first) refl

-- ---- years and months

pub first_day : days_from_civil (pos 1) 1 1 ≡ negsuc 719_161
first_day = omega (arith, signed_arith, days_from_civil-day_count, day_count-early (pos 1) 10000 1 1 refl (omega arith) (omega arith) (omega arith))

tested : (t : Bool) (a b : ℤ) → int_le a b ≡ t → a ≤ℤ b → t ≡ true
tested true a b e h = refl
tested false a b e h = absurd (omega (arith, signed_arith))

pub at_most_true : (a b : ℤ) → a ≤ℤ b → int_le a b ≡ true
at_most_true a b h = tested (int_le a b) a b refl h

is_day-ends : (day : ℤ) → is_day day ≡ (int_le (negsuc 719_161) day && int_le day (pos 2_932_896))
unfolding is_day
is_day-ends day = rw (first_day, days_from_civil-max) refl

-- the days of the years 1 to 9999
pub day_between : (day : ℤ) → is_day day ≡ true → (negsuc 719_161 ≤ℤ day) × (day ≤ℤ pos 2_932_896)
day_between day h =
    let two = and_parts (int_le (negsuc 719_161) day) (int_le day (pos 2_932_896)) (sym (is_day-ends day) ∙ h) in
    (omega (arith, signed_arith), omega (arith, signed_arith))

pub is_day-between : (day : ℤ) → negsuc 719_161 ≤ℤ day → day ≤ℤ pos 2_932_896 → is_day day ≡ true
is_day-between day low high =
    is_day-ends day ∙ rw (at_most_true (negsuc 719_161) day low, at_most_true day (pos 2_932_896) high) refl

years_ascend : Ascends year_start 9999
years_ascend = record {
  next = λ k some within.
      let next : pos (k + 1) ≡ pos k +ℤ pos 1 = omega (arith, signed_arith) in
      let long = days_in_year_bounds (pos k) in
      let gap = day_count-later_year (pos k) (pos (k + 1)) (omega (arith, signed_arith)) (omega (arith, signed_arith)) in
      omega (arith, signed_arith, days_from_civil-day_count);
}

months_ascend : (y : ℕ) → Ascends (month_start y) 12
months_ascend y = record {
  next = λ k some within.
      let long = days_in_month_bounds (pos y) k in
      let gap = day_count-next_month (pos y) k some in
      omega (arith, signed_arith, days_from_civil-day_count);
}

-- ---- the date of a day

-- a day of a year lies before the next one
year_before : (day : ℤ) (y : ℕ) → is_day day ≡ true → Brackets year_start day 9999 y → day <ℤ year_start (y + 1)
year_before day y h b = elim (cases_lt y 9999) [
  | inl less ↦ b.before less
  | inr more ↦
      let within = b.within in
      let e : y ≡ 9999 = omega arith in
      let last = days_from_civil-next_year (pos 9999) (pos 10000) (omega (arith, signed_arith)) refl in
      let here = day_between day h in
      rw e (omega (arith, signed_arith, days_from_civil-max))
]

-- and a day of a month before the next one
month_before : (day : ℤ) (y m : ℕ) → day <ℤ year_start (y + 1) → Brackets (month_start y) day 12 m → day <ℤ month_start y (m + 1)
month_before day y m h b = elim (cases_lt m 12) [
  | inl less ↦ b.before less
  | inr more ↦
      let within = b.within in
      let e : m ≡ 12 = omega arith in
      let next : pos (y + 1) ≡ pos y +ℤ pos 1 = omega (arith, signed_arith) in
      let last = days_from_civil-next_year (pos y) (pos (y + 1)) (omega (arith, signed_arith)) next in
      let over = days_from_civil-next_month (pos y) 12 31 (omega arith) refl in
      rw e (omega (arith, signed_arith))
]

date_from : (day : ℤ) (y m d : ℕ) → Brackets year_start day 9999 y → Brackets (month_start y) day 12 m → day <ℤ month_start y (m + 1)
    → d ≡ unsigned_abs (day -ℤ month_start y m) + 1 → IsDateOf day y m d
date_from day y m d years months before is =
    let from : days_from_civil (pos y) m 1 ≤ℤ day = months.from in
    let ahead : day <ℤ days_from_civil (pos y) (m + 1) 1 = before in
    let sides = one_part (day -ℤ days_from_civil (pos y) m 1) in
    let place : d ≡ unsigned_abs (day -ℤ days_from_civil (pos y) m 1) + 1 = is in
    let gap = day_count-next_month (pos y) m months.some in
    let step = days_from_civil-day (pos y) m 1 d (omega arith) (omega arith) in
    record {
      year_low = years.some;
      year_high = years.within;
      month_low = months.some;
      month_high = months.within;
      day_low = omega arith;
      day_high = omega (arith, signed_arith, days_from_civil-day_count);
      number = omega (arith, signed_arith);
    }

year_brackets : (day : ℤ) → is_day day ≡ true → Brackets year_start day 9999 (year_of day)
unfolding year_of
year_brackets day h =
    let low = (day_between day h).0 in
    brackets year_start day 9998 years_ascend (omega (arith, signed_arith, first_day))

month_brackets : (day : ℤ) → is_day day ≡ true → Brackets (month_start (year_of day)) day 12 (month_of day)
unfolding month_of
month_brackets day h = brackets (month_start (year_of day)) day 11 (months_ascend (year_of day)) (year_brackets day h).from

-- the parts of a day are a date with its number
pub date_of_day : (day : ℤ) → is_day day ≡ true → IsDateOf day (year_of day) (month_of day) (day_of day)
unfolding day_of
date_of_day day h =
    let years = year_brackets day h in
    let months = month_brackets day h in
    date_from day (year_of day) (month_of day) _ years months (month_before day (year_of day) (month_of day) (year_before day (year_of day) h years) months) refl

-- and a date with its number has these parts
pub parts_of_date : (date : Date) (day : ℤ) → is_day day ≡ true → epoch_day date ≡ day
    → (date.year ≡ pos (year_of day)) × (date.month ≡ month_of day) × (date.day ≡ day_of day)
parts_of_date date day h e =
    let is = date_of_day day h in
    let a = is.year_low in
    let b = is.year_high in
    let other : Date = record {
      year = pos (year_of day);
      month = month_of day;
      day = day_of day;
      year_in = (omega (arith, signed_arith), omega (arith, signed_arith));
      month_in = (is.month_low, is.month_high);
      day_in = (is.day_low, is.day_high);
    } in
    epoch_day_injective date other (e ∙ sym is.number)

-- a date of the years 1 to 9999 has its day there
pub date_is_day : (date : Date) → pos 1 ≤ℤ date.year → date.year ≤ℤ pos 9_999 → is_day (epoch_day date) ≡ true
date_is_day date low high =
    let y = unsigned_abs date.year in
    let side = one_part date.year in
    let named : date.year ≡ pos y = omega (arith, signed_arith) in
    let gap : 1 + (y - 1) ≡ y = omega (arith, signed_arith) in
    let from = rw gap at (later year_start 9999 years_ascend (y - 1) 1 (omega arith) (omega (arith, signed_arith))) in
    let first : days_from_civil (pos 1) 1 1 ≤ℤ days_from_civil date.year 1 1 = rw named from in
    let place : 1 ≤ ordinal date = let d = date.day_in.0 in omega arith in
    let here = epoch_day-ordinal date in
    is_day-between (epoch_day date) (omega (arith, signed_arith, first_day)) (epoch_day_range date).1

-- ---- the test of a date

-- the parts are a date of the years 1 to 9999
pub record Stands (y m d : ℕ) : Type 0 where
  pub year_low : 1 ≤ y
  pub year_high : y ≤ 9_999
  pub month_low : 1 ≤ m
  pub month_high : m ≤ 12
  pub day_low : 1 ≤ d
  pub day_high : d ≤ days_in_month (pos y) m

at_most : (a b : ℕ) → nat_le a b ≡ true → a ≤ b
at_most a b h = grind (arith, nat_tests)

pub date_open : (y m d : ℕ) → is_date y m d ≡ true → Stands y m d
unfolding is_date
date_open y m d h =
    let a = and_parts _ (nat_le d (days_in_month (pos y) m)) h in
    let b = and_parts _ (nat_le 1 d) a.0 in
    let e = and_parts _ (nat_le m 12) b.0 in
    let f = and_parts _ (nat_le 1 m) e.0 in
    let g = and_parts (nat_le 1 y) (nat_le y 9_999) f.0 in
    record {
      year_low = at_most 1 y g.0;
      year_high = at_most y 9_999 g.1;
      month_low = at_most 1 m f.1;
      month_high = at_most m 12 e.1;
      day_low = at_most 1 d b.1;
      day_high = at_most d (days_in_month (pos y) m) a.1;
    }

most : (a b : ℕ) → a ≤ b → nat_le a b ≡ true
most a b h = grind (arith, nat_tests)

pub date_close : (y m d : ℕ) → Stands y m d → is_date y m d ≡ true
unfolding is_date
date_close y m d s =
    rw (most 1 y s.year_low, most y 9_999 s.year_high, most 1 m s.month_low, most m 12 s.month_high, most 1 d s.day_low, most d (days_in_month (pos y) m) s.day_high) refl

-- a date with that number has no other parts
pub date_alone : (day : ℤ) (y m d : ℕ) → is_day day ≡ true → IsDateOf day y m d → (y ≡ year_of day) × (m ≡ month_of day) × (d ≡ day_of day)
date_alone day y m d h is =
    let a = is.year_low in
    let b = is.year_high in
    let date : Date = record {
      year = pos y;
      month = m;
      day = d;
      year_in = (omega (arith, signed_arith), omega (arith, signed_arith));
      month_in = (is.month_low, is.month_high);
      day_in = (is.day_low, is.day_high);
    } in
    let parts = parts_of_date date day h is.number in
    (ap unsigned_abs parts.0, parts.1, parts.2)
