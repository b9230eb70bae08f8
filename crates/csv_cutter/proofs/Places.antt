-- Places in a line, and walks between them.
use Rattle.std.proofs.Common.{◌≡◌, ◌≢◌, ℕ, zero, suc, ◌+◌, ◌-◌, ◌≤◌, ◌<◌, Bool, true, false, ◌&&◌, ◌||◌, ◌==◌, List, [], ◌∷◌, ◌++◌, take, drop, length, slice_index, slice_range, refl, sym, ◌∙◌, ap, subst, arith, length-drop, ⊎_elim}
use Rattle.std.proofs.lemmas.Bool.{cases_lt}
use Rattle.std.proofs.lemmas.List.{get_or-drop, drop-drop, take-append-drop, drop_all}
use Rattle.std.proofs.Math.Seq.{take-add, drop-cons}
use Rattle.std.specs.Str.{NonePass}
use Rattle.memchr.specs.Find.{Passes, Nowhere, NoneBefore, is_byte, is_byte2}
use Rattle.csv_cutter.specs.declared.dialect.Dialect.{Dialect}
use Rattle.csv_cutter.specs.declared.walk.State.{State}
use Rattle.csv_cutter.specs.declared.walk.State.TheVariants.{Start, Tail, Inside, Paired}
use Rattle.csv_cutter.specs.Walk.{special, is_cut, step, cut_from, Goes, onto, IsNext, Comes, EndsField}
use Rattle.csv_cutter.proofs.Characters.{eq_self, eq_not, eq_is, not_eq, clash, IsApart}
use Rattle.csv_cutter.proofs.Lines.{goes_cut, goes_one, tail_goes, onto_append, cut_nil, inside_single, inside_closing, inside_escape, start_quote, start_as_tail}

not_true : (b : Bool) → (b ≡ true → ⊥) → b ≡ false
not_true true h = absurd (h refl)
not_true false h = refl

pub none_front : (p : ℕ → Bool) (n : ℕ) (bs : List ℕ) → ((k : ℕ) → k < n → p (slice_index bs k) ≡ true → ⊥) → NonePass p (take n bs)
none_front p zero bs h = tt
none_front p (suc n) [] h = tt
none_front p (suc n) (b ∷ bs) h = (not_true (p b) (h 0 (omega arith)), none_front p n bs (λ k l. h (suc k) (omega arith)))

-- ---- the next place of a byte

pub next_found : (test : ℕ → Bool) (line rest : List ℕ) (from at : ℕ) → rest ≡ drop from line → from ≤ length line
    → NoneBefore (Passes test rest) 0 (length rest) at × Passes test rest at → IsNext test line from (from + at)
next_found test line rest from at is within found =
    let n : from + at - from ≡ at = omega arith in
    let P : List ℕ → Type 0 = NonePass test in
    record {
      low = omega arith;
      high = omega (arith, found.0.high, ap length is, length-drop from line);
      clear = subst P (ap (take at) is ∙ ap (λ k. take k (drop from line)) (sym n)) (none_front test at rest (λ k l. found.0.before k (omega arith) l));
      here = λ _. ap test (sym (ap (λ l. slice_index l at) is ∙ get_or-drop from line at 0)) ∙ found.1;
    }

pub next_none : (test : ℕ → Bool) (line rest : List ℕ) (from : ℕ) → rest ≡ drop from line → from ≤ length line
    → Nowhere (Passes test rest) 0 (length rest) → IsNext test line from (length line)
next_none test line rest from is within none =
    let n : length line - from ≡ length rest = omega (arith, ap length is, length-drop from line) in
    let P : List ℕ → Type 0 = NonePass test in
    record {
      low = within;
      high = omega arith;
      clear = subst P (ap (take (length rest)) is ∙ ap (λ k. take k (drop from line)) (sym n)) (none_front test (length rest) rest (λ k l. none k (omega arith) l));
      here = λ l. absurd (omega arith);
    }

-- ---- parts of a line

pub range_split : (line : List ℕ) (i n : ℕ) → i ≤ n → drop i line ≡ slice_range line i n ++ drop n line
range_split line i n h =
    let e : i + (n - i) ≡ n = omega arith in
    sym (take-append-drop (n - i) (drop i line)) ∙ ap (λ l. slice_range line i n ++ l) (drop-drop (n - i) i line ∙ ap (λ k. drop k line) e)

pub range_join : (line : List ℕ) (i m n : ℕ) → i ≤ m → m ≤ n → slice_range line i m ++ slice_range line m n ≡ slice_range line i n
range_join line i m n h g =
    let e : i + (m - i) ≡ m = omega arith in
    let f : (m - i) + (n - m) ≡ n - i = omega arith in
    ap (λ l. slice_range line i m ++ take (n - m) l) (ap (λ k. drop k line) (sym e) ∙ sym (drop-drop (m - i) i line))
    ∙ sym (take-add (m - i) (n - m) (drop i line)) ∙ ap (λ k. take k (drop i line)) f

pub range_none : (line : List ℕ) (i : ℕ) → slice_range line i i ≡ []
range_none line i = let z : i - i ≡ 0 = omega arith in ap (λ n. take n (drop i line)) z

pub here_cons : (line : List ℕ) (i : ℕ) → i < length line → drop i line ≡ slice_index line i ∷ drop (i + 1) line
here_cons line i l = let e : suc i ≡ i + 1 = omega arith in drop-cons line i 0 l ∙ ap (λ k. slice_index line i ∷ drop k line) e

range_one : (line : List ℕ) (i : ℕ) → i < length line → slice_range line i (i + 1) ≡ slice_index line i ∷ []
range_one line i l = let e : i + 1 - i ≡ 1 = omega arith in ap (λ n. take n (drop i line)) e ∙ ap (take 1) (here_cons line i l)

-- ---- walks between places

pub comes_by : (d : Dialect) (line : List ℕ) (s : State) (i : ℕ) (s' : State) (n : ℕ) → i ≤ n → n ≤ length line
    → Goes d s (slice_range line i n) (drop n line) s' → Comes d line s i s' n
comes_by d line s i s' n low high g = record {
  low = low;
  high = high;
  cut = ap (cut_from d s) (range_split line i n low) ∙ goes_cut d s (slice_range line i n) (drop n line) s' g;
}

pub comes_none : (d : Dialect) (line : List ℕ) (s : State) (i : ℕ) → i ≤ length line → Comes d line s i s i
comes_none d line s i h = let P : List ℕ → Type 0 = λ l. Goes d s l (drop i line) s in comes_by d line s i s i (omega arith) h (subst P (sym (range_none line i)) refl)

pub comes_on : (d : Dialect) (line : List ℕ) (s m s' : State) (i j n : ℕ) → Comes d line s i m j → Comes d line m j s' n → Comes d line s i s' n
comes_on d line s m s' i j n c e = record {
  low = omega (arith, c.low, e.low);
  high = e.high;
  cut =
      c.cut ∙ ap (onto (slice_range line i j)) e.cut ∙ sym (onto_append (slice_range line i j) (slice_range line j n) (cut_from d s' (drop n line)))
      ∙ ap (λ l. onto l (cut_from d s' (drop n line))) (range_join line i j n c.low e.low);
}

pub comes_one : (d : Dialect) (line : List ℕ) (s m : State) (i : ℕ) → i < length line → is_cut d s (slice_index line i) ≡ false
    → step d s (slice_index line i) (special d (drop (i + 1) line)) ≡ m → Comes d line s i m (i + 1)
comes_one d line s m i l c e =
    let P : List ℕ → Type 0 = λ k. Goes d s k (drop (i + 1) line) m in
    comes_by d line s i m (i + 1) (omega arith) (omega arith) (subst P (sym (range_one line i l)) (goes_one d s m m (slice_index line i) [] (drop (i + 1) line) c e refl))

-- ---- in a quoted part

pub none_or_left : (x y : Bool) → (x || y) ≡ false → x ≡ false
none_or_left true y e = e
none_or_left false y e = refl

pub none_or_right : (x y : Bool) → (x || y) ≡ false → y ≡ false
none_or_right true y e = absurd (cc)
none_or_right false y e = e

clear_goes : (d : Dialect) (us rest : List ℕ) → NonePass (is_byte2 d.quote d.escape) us → Goes d Inside us rest Inside
clear_goes d [] rest h = refl
clear_goes d (c ∷ cs) rest h =
    goes_one d Inside Inside Inside c cs rest refl
    (inside_single d c (special d (cs ++ rest)) (not_eq c d.quote (none_or_left (c == d.quote) (c == d.escape) h.0))
    (λ e. absurd (not_eq c d.escape (none_or_right (c == d.quote) (c == d.escape) h.0) e))) (clear_goes d cs rest h.1)

pub clear_comes : (d : Dialect) (line : List ℕ) (i n : ℕ) → IsNext (is_byte2 d.quote d.escape) line i n → Comes d line Inside i Inside n
clear_comes d line i n x = comes_by d line Inside i Inside n x.low x.high (clear_goes d (slice_range line i n) (drop n line) x.clear)

both_left : (x y : Bool) → (x && y) ≡ true → x ≡ true
both_left true y e = refl
both_left false y e = absurd (cc)

both_right : (x y : Bool) → (x && y) ≡ true → y ≡ true
both_right true y e = e
both_right false y e = absurd (cc)

pub special_more : (d : Dialect) (line : List ℕ) (i : ℕ) → special d (drop i line) ≡ true → i < length line
special_more d line i h = ⊎_elim (λ l. l) (λ past. absurd (clash (sym h ∙ ap (special d) (drop_all i line past)))) (cases_lt i (length line))

not_both : (x y : Bool) → (x && y) ≡ false → x ≡ true → y ≡ false
not_both true y f t = f
not_both false y f t = absurd (cc)

-- the step over a quote or an escape that is no pair
pub closing_step : (d : Dialect) (line : List ℕ) (i : ℕ) → (slice_index line i == d.escape && special d (drop (i + 1) line)) ≡ false
    → slice_index line i ≡ d.quote → step d Inside (slice_index line i) (special d (drop (i + 1) line)) ≡ Tail
closing_step d line i h q =
    ap (λ c. step d Inside c (special d (drop (i + 1) line))) q
    ∙ inside_closing d (special d (drop (i + 1) line)) (λ e. not_both (slice_index line i == d.escape) (special d (drop (i + 1) line)) h (ap (λ c. c == d.escape) (q ∙ e) ∙ eq_self d.escape))

pub single_step : (d : Dialect) (line : List ℕ) (i : ℕ) → (slice_index line i == d.escape && special d (drop (i + 1) line)) ≡ false
    → slice_index line i ≢ d.quote → step d Inside (slice_index line i) (special d (drop (i + 1) line)) ≡ Inside
single_step d line i h q =
    inside_single d (slice_index line i) (special d (drop (i + 1) line)) q
    (λ e. not_both (slice_index line i == d.escape) (special d (drop (i + 1) line)) h (ap (λ c. c == d.escape) e ∙ eq_self d.escape))

pub pair_step : (d : Dialect) (line : List ℕ) (i : ℕ) → (slice_index line i == d.escape && special d (drop (i + 1) line)) ≡ true
    → step d Inside (slice_index line i) (special d (drop (i + 1) line)) ≡ Paired
pair_step d line i h =
    ap (λ c. step d Inside c (special d (drop (i + 1) line))) (eq_is (slice_index line i) d.escape (both_left (slice_index line i == d.escape) (special d (drop (i + 1) line)) h))
    ∙ inside_escape d (special d (drop (i + 1) line)) (both_right (slice_index line i == d.escape) (special d (drop (i + 1) line)) h)

pub pair_next : (d : Dialect) (line : List ℕ) (i : ℕ) → (slice_index line i == d.escape && special d (drop (i + 1) line)) ≡ true → i + 1 < length line
pair_next d line i h = special_more d line (i + 1) (both_right (slice_index line i == d.escape) (special d (drop (i + 1) line)) h)

pub pair_comes : (d : Dialect) (line : List ℕ) (i : ℕ) → i < length line → (slice_index line i == d.escape && special d (drop (i + 1) line)) ≡ true
    → Comes d line Inside i Inside (i + 2)
pair_comes d line i l h =
    let e : i + 1 + 1 ≡ i + 2 = omega arith in
    let P : ℕ → Type 0 = λ n. Comes d line Inside i Inside n in
    subst P e
    (comes_on d line Inside Paired Inside i (i + 1) (i + 1 + 1) (comes_one d line Inside Paired i l refl (pair_step d line i h))
    (comes_one d line Paired Inside (i + 1) (pair_next d line i h) refl refl))

pub closing_comes : (d : Dialect) (line : List ℕ) (i : ℕ) → i < length line → (slice_index line i == d.escape && special d (drop (i + 1) line)) ≡ false
    → slice_index line i ≡ d.quote → Comes d line Inside i Tail (i + 1)
closing_comes d line i l h q = comes_one d line Inside Tail i l refl (closing_step d line i h q)

pub single_comes : (d : Dialect) (line : List ℕ) (i : ℕ) → i < length line → (slice_index line i == d.escape && special d (drop (i + 1) line)) ≡ false
    → slice_index line i ≢ d.quote → Comes d line Inside i Inside (i + 1)
single_comes d line i l h q = comes_one d line Inside Inside i l refl (single_step d line i h q)

-- at the line's end a quoted part ends too
pub ended_comes : (d : Dialect) (line : List ℕ) (i n : ℕ) → length line ≤ n → Comes d line Inside i Inside n → Comes d line Inside i Tail n
ended_comes d line i n past c = record {
  low = c.low;
  high = c.high;
  cut =
      c.cut ∙ ap (onto (slice_range line i n)) (ap (cut_from d Inside) (drop_all n line past) ∙ cut_nil d Inside ∙ sym (cut_nil d Tail) ∙ ap (cut_from d Tail) (sym (drop_all n line past)));
}

-- ---- a whole field

pub tail_comes : (d : Dialect) (line : List ℕ) (i n : ℕ) → IsNext (is_byte d.field) line i n → Comes d line Tail i Tail n
tail_comes d line i n x = comes_by d line Tail i Tail n x.low x.high (tail_goes d (slice_range line i n) (drop n line) x.clear)

pub quoted_field : (d : Dialect) → IsApart d → (line : List ℕ) (start from n : ℕ) → start < length line → slice_index line start ≡ d.quote
    → Comes d line Inside (start + 1) Tail from → IsNext (is_byte d.field) line from n → EndsField d line start n
quoted_field d a line start from n l q c x =
    let one : Comes d line Start start Inside (start + 1) = comes_one d line Start Inside start l
    (ap (λ b. b == d.field) q ∙ eq_not d.quote d.field (λ e. a.field_quote (sym e)))
    (ap (λ b. step d Start b (special d (drop (start + 1) line))) q ∙ start_quote d (special d (drop (start + 1) line)) a) in
    record {
      comes = comes_on d line Start Inside Tail start (start + 1) n one (comes_on d line Inside Tail Tail (start + 1) from n c (tail_comes d line from n x));
      here = λ h. eq_is (slice_index line n) d.field (x.here h);
    }

pub plain_field : (d : Dialect) (line : List ℕ) (start n : ℕ) → start ≤ length line → (start < length line → slice_index line start ≢ d.quote)
    → IsNext (is_byte d.field) line start n → EndsField d line start n
plain_field d line start n l q x =
    let t = tail_comes d line start n x in
    record {
      comes = record { low = x.low; high = x.high; cut = as_tail ∙ t.cut };
      here = λ h. eq_is (slice_index line n) d.field (x.here h);
    }
  where
    as_tail : cut_from d Start (drop start line) ≡ cut_from d Tail (drop start line)
    as_tail =
        ⊎_elim
        (λ h. ap (cut_from d Start) (here_cons line start h) ∙ start_as_tail d (slice_index line start ∷ drop (start + 1) line) (eq_not (slice_index line start) d.quote (q h))
        ∙ ap (cut_from d Tail) (sym (here_cons line start h)))
        (λ past. ap (cut_from d Start) (drop_all start line past) ∙ start_as_tail d [] refl ∙ ap (cut_from d Tail) (sym (drop_all start line past)))
        (cases_lt start (length line))
