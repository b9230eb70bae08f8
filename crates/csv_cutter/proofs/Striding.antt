-- A walk over bytes that are a front of an object's: what a stride leaves.
use Rattle.std.proofs.Common.{◌≡◌, ◌≢◌, ℕ, zero, suc, ◌+◌, ◌-◌, ◌≤◌, ◌<◌, Bool, true, false, cond, ◌&&◌, ◌==◌, List, [], ◌∷◌, ◌++◌, take, drop, length, slice_index, slice_range, refl, sym, ◌∙◌, ap, subst, arith, append_assoc, length-drop}
use Rattle.std.proofs.lemmas.List.{append-nil, length-take}
use Rattle.std.specs.Str.{bytes_eq, NonePass}
use Rattle.memchr.specs.Find.{is_byte, is_byte2}
use Rattle.line_window.specs.Delimiters.{StandsAt}
use Rattle.csv_cutter.specs.declared.dialect.Dialect.{Dialect}
use Rattle.csv_cutter.specs.declared.walk.State.{State}
use Rattle.csv_cutter.specs.declared.walk.State.TheVariants.{Start, Tail, Inside, Paired, Comment}
use Rattle.csv_cutter.specs.declared.stride.Stretch.{Stretch}
use Rattle.csv_cutter.specs.Dialects.{first_of}
use Rattle.csv_cutter.specs.Walk.{special, step, IsNext}
use Rattle.csv_cutter.specs.Records.{delimiter_of}
use Rattle.csv_cutter.specs.Stops.{may_end, delimited, stops, stop_from, IsTold, IsUntold, Strides, StopsAt, IsStride, IsWalk}
use Rattle.csv_cutter.proofs.Characters.{eq_self, eq_not, not_eq, clash, IsApart, Delimits}
use Rattle.csv_cutter.proofs.Lines.{tail_stays, start_plain, start_quote, inside_single}
use Rattle.csv_cutter.proofs.Places.{range_split, here_cons, none_or_left, none_or_right, pair_step, pair_next}
use Rattle.csv_cutter.proofs.Stopping.{stop_here, stop_onwards, delimited_stands, are_same}

-- ---- strides, one after the other

pub strides_none : (d : Dialect) (bytes : List ℕ) (last : Bool) (from : ℕ) (s : State) → from ≤ length bytes → Strides d bytes last from s from s
strides_none d bytes last from s h = record { low = omega arith; high = h; same = λ more none. omega arith }

pub strides_on : (d : Dialect) (bytes : List ℕ) (last : Bool) (i j n : ℕ) (s m t : State) → Strides d bytes last i s j m → Strides d bytes last j m n t → Strides d bytes last i s n t
strides_on d bytes last i j n s m t a b = record {
  low = omega (arith, a.low, b.low);
  high = b.high;
  same = λ more none. omega (arith, a.same more none, b.same more none, a.low, b.low);
}

-- what follows the bytes doesn't change what is told of one
told_special : (d : Dialect) (bytes more : List ℕ) (last : Bool) (at : ℕ) → IsTold bytes last at → (last ≡ true → more ≡ [])
    → special d (drop (at + 1) bytes ++ more) ≡ special d (drop (at + 1) bytes)
told_special d bytes more true at h none = ap (special d) (ap (λ l. drop (at + 1) bytes ++ l) (none refl) ∙ append-nil (drop (at + 1) bytes))
told_special d bytes more false at h none = by_rest (drop (at + 1) bytes) (omega (arith, h.next refl, length-drop (at + 1) bytes))
  where
    by_rest : (rest : List ℕ) → 0 < length rest → special d (rest ++ more) ≡ special d rest
    by_rest [] l = absurd (omega arith)
    by_rest (x ∷ xs) l = refl

pub front_take : (n : ℕ) (xs more : List ℕ) → n ≤ length xs → take n (xs ++ more) ≡ take n xs
front_take zero [] more h = take_zero more
  where
    take_zero : (ys : List ℕ) → take 0 ys ≡ []
    take_zero [] = refl
    take_zero (y ∷ ys) = refl
front_take (suc n) [] more h = absurd (omega arith)
front_take zero (x ∷ xs) more h = refl
front_take (suc n) (x ∷ xs) more h = ap (λ l. x ∷ l) (front_take n xs more (omega arith))

told_delimited : (d : Dialect) → Delimits d → (bytes more : List ℕ) (last : Bool) (at : ℕ) → IsTold bytes last at → (last ≡ true → more ≡ [])
    → delimited d (drop at bytes ++ more) ≡ delimited d (drop at bytes)
told_delimited d p bytes more true at h none = ap (delimited d) (ap (λ l. drop at bytes ++ l) (none refl) ∙ append-nil (drop at bytes))
told_delimited d p bytes more false at h none =
    ap (λ l. bytes_eq l (delimiter_of d)) (front_take (length (delimiter_of d)) (drop at bytes) more (omega (arith, ap length p.is, p.short, h.next refl, length-drop at bytes)))

-- one byte that is told, where the walk doesn't stop
pub stride_one : (d : Dialect) → Delimits d → (bytes : List ℕ) (last : Bool) (at : ℕ) (s t : State) → IsTold bytes last at
    → stops d s (drop at bytes) ≡ false → step d s (slice_index bytes at) (special d (drop (at + 1) bytes)) ≡ t → Strides d bytes last at s (at + 1) t
stride_one d p bytes last at s t told stays e = record {
  low = omega arith;
  high = omega (arith, told.here);
  same = λ more none.
      let c = slice_index bytes at in
      let rest : List ℕ = drop (at + 1) bytes ++ more in
      let whole : drop at bytes ++ more ≡ c ∷ rest = ap (λ l. l ++ more) (here_cons bytes at told.here) in
      let quiet : stops d s (c ∷ rest) ≡ false = ap (stops d s) (sym whole) ∙ ap (λ b. may_end s && b) (told_delimited d p bytes more last at told none) ∙ stays in
      let next : step d s c (special d rest) ≡ t = ap (step d s c) (told_special d bytes more last at told none) ∙ e in
      omega (arith, ap (stop_from d s) whole, stop_onwards d s c rest quiet, ap (λ u. stop_from d u rest) next);
}

-- ---- runs of bytes without a meaning

run_stop : (d : Dialect) (s : State) (test : ℕ → Bool) → ((c : ℕ) (x : Bool) → test c ≡ false → step d s c x ≡ s)
    → ((c : ℕ) (cs : List ℕ) → test c ≡ false → stops d s (c ∷ cs) ≡ false) → (us rest : List ℕ) → NonePass test us → stop_from d s (us ++ rest) ≡ length us + stop_from d s rest
run_stop d s test stays quiet [] rest h = omega arith
run_stop d s test stays quiet (c ∷ cs) rest h =
    omega (
      arith,
      stop_onwards d s c (cs ++ rest) (quiet c (cs ++ rest) h.0),
      ap (λ t. stop_from d t (cs ++ rest)) (stays c (special d (cs ++ rest)) h.0),
      run_stop d s test stays quiet cs rest h.1,
    )

run_strides : (d : Dialect) (s : State) (test : ℕ → Bool) → ((c : ℕ) (x : Bool) → test c ≡ false → step d s c x ≡ s)
    → ((c : ℕ) (cs : List ℕ) → test c ≡ false → stops d s (c ∷ cs) ≡ false)
    → (bytes : List ℕ) (last : Bool) (from n : ℕ) → IsNext test bytes from n → Strides d bytes last from s n s
run_strides d s test stays quiet bytes last from n x = record {
  low = x.low;
  high = x.high;
  same = λ more none.
      let us : List ℕ = slice_range bytes from n in
      let split : drop from bytes ++ more ≡ us ++ (drop n bytes ++ more) =
      ap (λ l. l ++ more) (range_split bytes from n x.low) ∙ append_assoc us (drop n bytes) more in
      omega (
        arith,
        ap (stop_from d s) split,
        run_stop d s test stays quiet us (drop n bytes ++ more) x.clear,
        length-take (n - from) (drop from bytes),
        length-drop from bytes,
        x.low,
        x.high,
      );
}

-- a byte other than the delimiter's first begins no delimiter
other_byte : (d : Dialect) (p : Delimits d) (c : ℕ) (cs : List ℕ) → c ≢ p.first → delimited d (c ∷ cs) ≡ false
other_byte d p c cs h = by_test (delimited d (c ∷ cs)) refl
  where
    by_test : (b : Bool) → delimited d (c ∷ cs) ≡ b → delimited d (c ∷ cs) ≡ false
    by_test false e = e
    by_test true e = absurd (h (stands_one (delimited_stands d (c ∷ cs) e)))
      where
        stands_one : StandsAt (delimiter_of d) (c ∷ cs) 0 → c ≡ p.first
        stands_one g = let f : take (length (p.first ∷ p.more)) (c ∷ cs) ≡ p.first ∷ p.more = sym (ap (λ l. take (length l) (c ∷ cs)) p.is) ∙ g ∙ p.is in cc

and_none : (x y : Bool) → y ≡ false → (x && y) ≡ false
and_none true y e = e
and_none false y e = refl

quiet_byte : (d : Dialect) (p : Delimits d) (s : State) (c : ℕ) (cs : List ℕ) → c ≢ p.first → stops d s (c ∷ cs) ≡ false
quiet_byte d p s c cs h = and_none (may_end s) (delimited d (c ∷ cs)) (other_byte d p c cs h)

pub inside_run : (d : Dialect) (bytes : List ℕ) (last : Bool) (from n : ℕ) → IsNext (is_byte2 d.quote d.escape) bytes from n → Strides d bytes last from Inside n Inside
inside_run d = run_strides d Inside (is_byte2 d.quote d.escape)
    (λ c x h. inside_single d c x (not_eq c d.quote (none_or_left (c == d.quote) (c == d.escape) h)) (λ e. absurd (not_eq c d.escape (none_or_right (c == d.quote) (c == d.escape) h) e)))
    (λ c cs h. refl)

pub tail_run : (d : Dialect) (p : Delimits d) (bytes : List ℕ) (last : Bool) (from n : ℕ) → IsNext (is_byte2 d.field p.first) bytes from n → Strides d bytes last from Tail n Tail
tail_run d p = run_strides d Tail (is_byte2 d.field p.first)
    (λ c x h. tail_stays d c x (none_or_left (c == d.field) (c == p.first) h))
    (λ c cs h. quiet_byte d p Tail c cs (not_eq c p.first (none_or_right (c == d.field) (c == p.first) h)))

pub comment_run : (d : Dialect) (p : Delimits d) (bytes : List ℕ) (last : Bool) (from n : ℕ) → IsNext (is_byte p.first) bytes from n → Strides d bytes last from Comment n Comment
comment_run d p = run_strides d Comment (is_byte p.first) (λ c x h. refl) (λ c cs h. quiet_byte d p Comment c cs (not_eq c p.first h))

-- ---- the arms of a stride

pub onward_untold : (bytes : List ℕ) (last : Bool) (from at : ℕ) → IsTold bytes last from → IsUntold bytes last at → from < at
onward_untold bytes true from at t u = omega (arith, t.here, u.past refl)
onward_untold bytes false from at t u = omega (arith, t.next refl, u.near)

pub went : (d : Dialect) (bytes : List ℕ) (last : Bool) (from at : ℕ) (s t : State) (r : Stretch) → r ≡ (record { state = t; at = at; stopped = false })
    → Strides d bytes last from s at t → from < at → IsStride d bytes last from s r
went d bytes last from at s t r is h l =
    let P : Stretch → Type 0 = IsStride d bytes last from s in
    subst P (sym is) (record { strides = h; stopped = λ e. absurd (clash (sym e)); onwards = λ _. l })

pub halted : (d : Dialect) (bytes : List ℕ) (last : Bool) (from at : ℕ) (s t : State) (r : Stretch) → r ≡ (record { state = t; at = at; stopped = true })
    → Strides d bytes last from s at t → StopsAt d bytes t at → IsStride d bytes last from s r
halted d bytes last from at s t r is h e =
    let P : Stretch → Type 0 = IsStride d bytes last from s in
    subst P (sym is) (record { strides = h; stopped = λ _. e; onwards = λ f. absurd (clash f) })

-- the delimiter's first byte is the one that was looked for
pub named_pair : (d : Dialect) (p : Delimits d) (bytes : List ℕ) (from n one first : ℕ) → first ≡ first_of d.delimiter → IsNext (is_byte2 one first) bytes from n → IsNext (is_byte2 one p.first) bytes from n
named_pair d p bytes from n one first is h = let P : ℕ → Type 0 = λ b. IsNext (is_byte2 one b) bytes from n in subst P (is ∙ p.named) h

pub named_one : (d : Dialect) (p : Delimits d) (bytes : List ℕ) (from n first : ℕ) → first ≡ first_of d.delimiter → IsNext (is_byte first) bytes from n → IsNext (is_byte p.first) bytes from n
named_one d p bytes from n first is h = let P : ℕ → Type 0 = λ b. IsNext (is_byte b) bytes from n in subst P (is ∙ p.named) h

pub delimiter_here : (d : Dialect) (bytes : List ℕ) (at : ℕ) (s : State) → may_end s ≡ true → delimited d (drop at bytes) ≡ true → StopsAt d bytes s at
delimiter_here d bytes at s m h = record { here = are_same (take (length (delimiter_of d)) (drop at bytes)) (delimiter_of d) h; ends = m }

pub inside_pair : (d : Dialect) → Delimits d → (bytes : List ℕ) (last : Bool) (at : ℕ) → IsTold bytes last at
    → (slice_index bytes at == d.escape && special d (drop (at + 1) bytes)) ≡ true → Strides d bytes last at Inside (at + 2) Inside
inside_pair d p bytes last at told h = record {
  low = omega arith;
  high = omega (arith, pair_next d bytes at h);
  same = λ more none.
      let c = slice_index bytes at in
      let b = slice_index bytes (at + 1) in
      let e : at + 1 + 1 ≡ at + 2 = omega arith in
      let rest : List ℕ = drop (at + 2) bytes ++ more in
      let whole : drop at bytes ++ more ≡ c ∷ (b ∷ rest) =
      ap (λ l. l ++ more) (here_cons bytes at told.here ∙ ap (λ l. c ∷ l) (here_cons bytes (at + 1) (pair_next d bytes at h) ∙ ap (λ n. b ∷ drop n bytes) e)) in
      let next : step d Inside c (special d (b ∷ rest)) ≡ Paired =
      ap (λ x. step d Inside c x) (sym (ap (λ l. special d l) (ap (λ l. l ++ more) (here_cons bytes (at + 1) (pair_next d bytes at h) ∙ ap (λ n. b ∷ drop n bytes) e))) ∙ told_special d bytes more last at told none) ∙ pair_step d bytes at h in
      omega (
        arith,
        ap (stop_from d Inside) whole,
        stop_onwards d Inside c (b ∷ rest) refl,
        ap (λ u. stop_from d u (b ∷ rest)) next,
        stop_onwards d Paired b rest refl,
      );
}

pub inside_one : (d : Dialect) → Delimits d → (bytes : List ℕ) (last : Bool) (at : ℕ) (t : State) → IsTold bytes last at
    → step d Inside (slice_index bytes at) (special d (drop (at + 1) bytes)) ≡ t → Strides d bytes last at Inside (at + 1) t
inside_one d p bytes last at t told e = stride_one d p bytes last at Inside t told refl e

pub paired_one : (d : Dialect) → Delimits d → (bytes : List ℕ) (last : Bool) (at : ℕ) → IsTold bytes last at → Strides d bytes last at Paired (at + 1) Inside
paired_one d p bytes last at told = stride_one d p bytes last at Paired Inside told refl refl

pub tail_field : (d : Dialect) → Delimits d → (bytes : List ℕ) (last : Bool) (at : ℕ) → IsTold bytes last at → slice_index bytes at ≡ d.field → Strides d bytes last at Tail (at + 1) Start
tail_field d p bytes last at told h =
    stride_one d p bytes last at Tail Start told
    (ap (stops d Tail) (here_cons bytes at told.here) ∙ quiet_byte d p Tail (slice_index bytes at) (drop (at + 1) bytes) (λ e. p.field (sym e ∙ h)))
    (ap (λ b. cond b Start Tail) (ap (λ c. c == d.field) h ∙ eq_self d.field))

pub tail_one : (d : Dialect) → Delimits d → (bytes : List ℕ) (last : Bool) (at : ℕ) → IsTold bytes last at → slice_index bytes at ≢ d.field → delimited d (drop at bytes) ≡ false
    → Strides d bytes last at Tail (at + 1) Tail
tail_one d p bytes last at told h n = stride_one d p bytes last at Tail Tail told n (tail_stays d (slice_index bytes at) (special d (drop (at + 1) bytes)) (eq_not (slice_index bytes at) d.field h))

pub comment_one : (d : Dialect) → Delimits d → (bytes : List ℕ) (last : Bool) (at : ℕ) → IsTold bytes last at → delimited d (drop at bytes) ≡ false → Strides d bytes last at Comment (at + 1) Comment
comment_one d p bytes last at told n = stride_one d p bytes last at Comment Comment told n refl

pub start_quoted : (d : Dialect) → IsApart d → Delimits d → (bytes : List ℕ) (last : Bool) (at : ℕ) → IsTold bytes last at → slice_index bytes at ≡ d.quote → Strides d bytes last at Start (at + 1) Inside
start_quoted d a p bytes last at told h =
    stride_one d p bytes last at Start Inside told
    (ap (stops d Start) (here_cons bytes at told.here) ∙ quiet_byte d p Start (slice_index bytes at) (drop (at + 1) bytes) (λ e. p.quote (sym e ∙ h)))
    (ap (λ c. step d Start c (special d (drop (at + 1) bytes))) h ∙ start_quote d (special d (drop (at + 1) bytes)) a)

-- before anything but the quote, a field's start is as any place outside of a quoted part
start_stop : (d : Dialect) (c : ℕ) (cs : List ℕ) → c ≢ d.quote → stop_from d Start (c ∷ cs) ≡ stop_from d Tail (c ∷ cs)
start_stop d c cs h = by_stop (delimited d (c ∷ cs)) refl
  where
    same_step : (b : Bool) → (c == d.field) ≡ b → step d Start c (special d cs) ≡ step d Tail c (special d cs)
    same_step true e = ap (λ b. cond b Start (cond (c == d.quote) Inside Tail)) e ∙ sym (ap (λ b. cond b Start Tail) e)
    same_step false e = start_plain d c (special d cs) e (eq_not c d.quote h) ∙ sym (tail_stays d c (special d cs) e)

    by_stop : (b : Bool) → delimited d (c ∷ cs) ≡ b → stop_from d Start (c ∷ cs) ≡ stop_from d Tail (c ∷ cs)
    by_stop true e = stop_here d Start c cs e ∙ sym (stop_here d Tail c cs e)
    by_stop false e = stop_onwards d Start c cs e ∙ ap (λ t. suc (stop_from d t cs)) (same_step (c == d.field) refl) ∙ sym (stop_onwards d Tail c cs e)

start_as_tail : (d : Dialect) (bytes : List ℕ) (last : Bool) (at n : ℕ) (t : State) → at < length bytes → slice_index bytes at ≢ d.quote → Strides d bytes last at Tail n t → Strides d bytes last at Start n t
start_as_tail d bytes last at n t l h s = record {
  low = s.low;
  high = s.high;
  same = λ more none.
      let whole : drop at bytes ++ more ≡ slice_index bytes at ∷ (drop (at + 1) bytes ++ more) = ap (λ k. k ++ more) (here_cons bytes at l) in
      ap (stop_from d Start) whole ∙ start_stop d (slice_index bytes at) (drop (at + 1) bytes ++ more) h ∙ sym (ap (stop_from d Tail) whole) ∙ s.same more none;
}

pub start_stride : (d : Dialect) (bytes : List ℕ) (last : Bool) (at : ℕ) (r : Stretch) → at < length bytes → slice_index bytes at ≢ d.quote → IsStride d bytes last at Tail r → IsStride d bytes last at Start r
start_stride d bytes last at r l h s = record { strides = start_as_tail d bytes last at r.at r.state l h s.strides; stopped = s.stopped; onwards = s.onwards }

-- ---- the walk

pub walked_stop : (d : Dialect) (bytes : List ℕ) (last : Bool) (from at : ℕ) (s t : State) (r : Stretch) → Strides d bytes last from s at t → IsStride d bytes last at t r → r.stopped ≡ true
    → IsWalk d bytes last from s r
walked_stop d bytes last from at s t r h g e = record {
  strides = strides_on d bytes last from at r.at s t r.state h g.strides;
  stopped = g.stopped;
  untold = λ f. absurd (clash (sym e ∙ f));
}

pub walked_end : (d : Dialect) (bytes : List ℕ) (last : Bool) (from at : ℕ) (s t : State) (r : Stretch) → r ≡ (record { state = t; at = at; stopped = false })
    → Strides d bytes last from s at t → IsUntold bytes last at → IsWalk d bytes last from s r
walked_end d bytes last from at s t r is h u =
    let P : Stretch → Type 0 = IsWalk d bytes last from s in
    subst P (sym is) (record { strides = h; stopped = λ e. absurd (clash (sym e)); untold = λ _. u })
