-- The laws of a reply that grows.
use Rattle.std.proofs.Common.{◌≡◌, ℕ, ◌+◌, ◌-◌, ◌*◌, ◌^◌, ◌<◌, ◌≤◌, zero, suc, min, Bool, true, false, ◌||◌, ◌&&◌, nat_le, List, [], ◌∷◌, ◌++◌, length, map, Option, None, Some, refl, sym, ap, ◌∙◌, subst, append_assoc, append-nil, length-append, arith, if◌then◌else◌}
use Rattle.std.proofs.lemmas.Bool.Decides.{nat_tests}
use Rattle.event_frame.specs.declared.counts.Counts.{Counts}
use Rattle.event_frame.specs.Event.{Event, records, end}
use Rattle.event_frame.specs.CountsText.{stats_of}
use Rattle.select_reply.specs.declared.code.Code.{Code}
use Rattle.select_reply.specs.declared.outcome.Outcome.{Outcome}
use Rattle.select_reply.specs.declared.outcome.Outcome.TheVariants.{Done, Faulted}
use Rattle.select_reply.specs.Pieces.{piece, whole_pieces, remainder, unless_empty}
use Rattle.select_reply.specs.Yields.{Yield, silent, writes, fails, Yielded, is_output, is_fault, bytes_of, outputs, has_fault, output, total_len, fault, fault_on}
use Rattle.select_reply.specs.Answers.{is_answered, processed}
use Rattle.select_reply.specs.Events.{counts, whole_events, closing_events, answer_events, error_event}
use Rattle.select_reply.specs.Begun.{Begun, counted, begun_counts, is_full, one_less}
use Rattle.select_reply.specs.Turns.{grown_events, scanned_more, grown, used_one, more_events, last_events, fault_events, end_events, after_output, after_record, events_if_full, outcome_if_full, after_yield, yield_events, yield_outcome, record_events, record_outcome}
use Rattle.select_reply.specs.Replies.{outcome_of, ending_of, CountsFit, left_of, begun_after, StepsOn, StepsOut, Stops, Begins, EachStepsOn, EachStepsOut, EachStops, EachBegins}
use Rattle.select_reply.proofs.Cutting.{remainder-append}
use Rattle.select_reply.proofs.Framing.{begun_is}
use Rattle.select_reply.proofs.Endings.{full_ends, nothing_if_on, none_if_on, done_if_full}
use Rattle.select_reply.proofs.Processing.{outputs-append, outputs-one, total_len-append, output-append, output-one, has_fault-append, within_limit, below_limit, unanswered_fine, front_unanswered, processed-all, processed-one, processed-behind, fault-append, fault-none}
use Rattle.select_reply.proofs.Growing.{parted, whole_events-one, cut-one, no_more_pieces, whole_events-front}

-- ---- the state behind one more record

counted_fits : (a b c : ℕ) → a + b ≡ c → c < 2 ^ 128 → counted a b ≡ c
counted_fits a b c is fits = omega (arith, is, fits)

left_less : (limit : Option ℕ) (done : List Yielded) (y : Yielded) → is_output y.gives ≡ true → one_less (left_of limit done) ≡ left_of limit (done ++ y ∷ [])
left_less None done y is = refl
left_less (Some n) done y is =
    let more : outputs (done ++ y ∷ []) ≡ outputs done + 1 = outputs-append done (y ∷ []) ∙ ap (λ n. outputs done + n) (outputs-one y) ∙ ap (λ (b : Bool). outputs done + (if b then 1 else 0)) is in
    ap Some (omega (arith, more))

left_same : (limit : Option ℕ) (done : List Yielded) (y : Yielded) → is_output y.gives ≡ false → left_of limit done ≡ left_of limit (done ++ y ∷ [])
left_same None done y is = refl
left_same (Some n) done y is =
    let same : outputs (done ++ y ∷ []) ≡ outputs done = outputs-append done (y ∷ []) ∙ ap (λ n. outputs done + n) (outputs-one y) ∙ ap (λ (b : Bool). outputs done + (if b then 1 else 0)) is ∙ omega arith in
    ap Some (omega (arith, same))

module _ (progress : Bool) (limit : Option ℕ) (done : List Yielded) (y : Yielded) (fits : CountsFit (done ++ y ∷ [])) where
  scanned_is : counted (total_len done) y.len ≡ total_len (done ++ y ∷ [])
  scanned_is = counted_fits (total_len done) y.len (total_len (done ++ y ∷ [])) (sym (total_len-append done (y ∷ []) ∙ omega arith)) fits.scanned

  after_silent : y.gives ≡ silent → scanned_more (begun_after progress limit done) y.len ≡ begun_after progress limit (done ++ y ∷ [])
  after_silent is =
      let o : output (done ++ y ∷ []) ≡ output done = output-append done (y ∷ []) ∙ ap (λ l. output done ++ l) (output-one y ∙ ap bytes_of is) ∙ append-nil (output done) in
      begun_is (scanned_more (begun_after progress limit done) y.len) _ _ _ _ _
      (ap remainder (sym o)) (ap (λ l. length (whole_pieces l) * piece) (sym o)) scanned_is refl (left_same limit done y (ap is_output is))

  after_writes : (bytes : List ℕ) → y.gives ≡ writes bytes → after_output (begun_after progress limit done) y.len bytes ≡ begun_after progress limit (done ++ y ∷ [])
  after_writes bytes is =
      let o : output (done ++ y ∷ []) ≡ output done ++ bytes = output-append done (y ∷ []) ∙ ap (λ l. output done ++ l) (output-one y ∙ ap bytes_of is) in
      begun_is (after_output (begun_after progress limit done) y.len bytes) _ _ _ _ _
      (sym (remainder-append (output done) bytes) ∙ ap remainder (sym o)) (cut-one done y bytes (ap bytes_of is) fits.returned) scanned_is refl (left_less limit done y (ap is_output is))

  -- the whole pieces behind it
  events_silent : y.gives ≡ silent → whole_events progress (done ++ y ∷ []) ≡ whole_events progress done
  events_silent is =
      whole_events-one progress done y [] (ap bytes_of is) fits.returned
      ∙ ap (λ l. whole_events progress done ++ grown_events progress (total_len (done ++ y ∷ [])) (length (whole_pieces (output done)) * piece) l) (no_more_pieces done)
      ∙ append-nil (whole_events progress done)

  events_fails : (code : Code) → y.gives ≡ fails code → whole_events progress (done ++ y ∷ []) ≡ whole_events progress done
  events_fails code is =
      whole_events-one progress done y [] (ap bytes_of is) fits.returned
      ∙ ap (λ l. whole_events progress done ++ grown_events progress (total_len (done ++ y ∷ [])) (length (whole_pieces (output done)) * piece) l) (no_more_pieces done)
      ∙ append-nil (whole_events progress done)

  events_writes : (bytes : List ℕ) → y.gives ≡ writes bytes
      → whole_events progress (done ++ y ∷ []) ≡ whole_events progress done ++ more_events (scanned_more (begun_after progress limit done) y.len) bytes
  events_writes bytes is =
      whole_events-one progress done y bytes (ap bytes_of is) fits.returned
      ∙ ap (λ n. whole_events progress done ++ grown_events progress n (length (whole_pieces (output done)) * piece) (whole_pieces (remainder (output done) ++ bytes))) (sym scanned_is)

-- ---- whether the record answers the query

is_full_at : (n m : ℕ) → m < n → (is_full (Some (n - m)) ≡ false)
is_full_at n m h = full_by (n - m) (omega (arith, h))
  where
    full_by : (k : ℕ) → 0 < k → is_full (Some k) ≡ false
    full_by zero h = absurd (omega (arith, h))
    full_by (suc k) h = refl

-- behind records that don't answer it the limit allows more
goes_on : (limit : Option ℕ) (xs : List Yielded) → is_answered limit xs ≡ false → is_full (left_of limit xs) ≡ false
goes_on None xs h = refl
goes_on (Some n) xs h = is_full_at n (outputs xs) (within_limit n (outputs xs) (first_false (nat_le n (outputs xs)) (has_fault xs) h))
  where
    first_false : (a b : Bool) → (a || b) ≡ false → a ≡ false
    first_false false b h = refl
    first_false true b h = absurd cc

full_from : (n m : ℕ) → (nat_le n m || false) ≡ true → is_full (Some (n - m)) ≡ true
full_from n m h = let z : n - m ≡ 0 = grind (arith, nat_tests) in rw z refl

-- a record without a code that answers it reaches the limit
reaches_limit : (limit : Option ℕ) (xs : List Yielded) → has_fault xs ≡ false → is_answered limit xs ≡ true → is_full (left_of limit xs) ≡ true
reaches_limit None xs fine h = absurd (let p : true ≡ false = sym h ∙ fine in cc)
reaches_limit (Some n) xs fine h = full_from n (outputs xs) (ap (λ b. nat_le n (outputs xs) || b) (sym fine) ∙ h)

fine_with : (done : List Yielded) (y : Yielded) → has_fault done ≡ false → is_fault y.gives ≡ false → has_fault (done ++ y ∷ []) ≡ false
fine_with done y fine is = has_fault-append done (y ∷ []) ∙ rw (fine, is) refl

faulty_with : (done : List Yielded) (y : Yielded) → is_fault y.gives ≡ true → has_fault (done ++ y ∷ []) ≡ true
faulty_with done y is = has_fault-append done (y ∷ []) ∙ rw is (or_true (has_fault done))
  where
    or_true : (b : Bool) → (b || (true || false)) ≡ true
    or_true true = refl
    or_true false = refl

not_silent_full : (limit : Option ℕ) (done : List Yielded) (y : Yielded) → y.gives ≡ silent → is_answered limit done ≡ false → is_answered limit (done ++ y ∷ []) ≡ true → ⊥
not_silent_full limit done y is h g =
    let fine = fine_with done y (unanswered_fine limit done h) (ap is_fault is) in
    let full = reaches_limit limit (done ++ y ∷ []) fine g in
    let on = goes_on limit done h in
    let p : true ≡ false = sym full ∙ ap is_full (sym (left_same limit done y (ap is_output is))) ∙ on in cc

-- ---- the closing events

stats-here : (progress : Bool) (limit : Option ℕ) (xs : List Yielded) → CountsFit xs → begun_counts (begun_after progress limit xs) ≡ counts (total_len xs) (length (output xs))
stats-here progress limit xs fits =
    ap (counts (total_len xs)) (counted_fits (length (whole_pieces (output xs)) * piece) (length (remainder (output xs))) (length (output xs)) ((parted (output xs)).0) fits.returned)

ends_here : (progress : Bool) (limit : Option ℕ) (xs : List Yielded) → has_fault xs ≡ false → CountsFit xs
    → (answer_events progress xs ≡ whole_events progress xs ++ end_events (begun_after progress limit xs)) × (outcome_of xs ≡ Done (begun_counts (begun_after progress limit xs)))
ends_here progress limit xs fine fits =
    let f = fault-none xs fine in
    let s = stats-here progress limit xs fits in (
      ap (λ g. whole_events progress xs ++ (map records (unless_empty (remainder (output xs))) ++ closing_events xs g)) f
          ∙ ap (λ c. whole_events progress xs ++ (map records (unless_empty (remainder (output xs))) ++ stats_of c ∷ end ∷ [])) (sym s),
      ap (ending_of xs) f ∙ ap Done (sym s),
    )

-- ---- the laws

module _ (progress : Bool) (limit : Option ℕ) (done : List Yielded) (y : Yielded) where
  -- what the record does, by what it yields
  outcome_by : (gives : Yield) → y.gives ≡ gives → record_outcome (begun_after progress limit done) y ≡ yield_outcome (begun_after progress limit done) y.start y.len gives
  outcome_by gives is = ap (yield_outcome (begun_after progress limit done) y.start y.len) is

  after_by : (gives : Yield) → y.gives ≡ gives → after_record (begun_after progress limit done) y ≡ after_yield (begun_after progress limit done) y.len gives
  after_by gives is = ap (after_yield (begun_after progress limit done) y.len) is

  events_by : (gives : Yield) → y.gives ≡ gives
      → whole_events progress done ++ yield_events (begun_after progress limit done) y.start y.len gives ≡ whole_events progress done ++ record_events (begun_after progress limit done) y
  events_by gives is = ap (λ g. whole_events progress done ++ yield_events (begun_after progress limit done) y.start y.len g) (sym is)

steps_on : (progress : Bool) (limit : Option ℕ) (done : List Yielded) (y : Yielded) (gives : Yield) → y.gives ≡ gives
    → is_answered limit (done ++ y ∷ []) ≡ false → CountsFit (done ++ y ∷ []) → StepsOn progress limit done y
steps_on progress limit done y silent is h fits = record {
  outcome = outcome_by progress limit done y silent is;
  after = after_by progress limit done y silent is ∙ after_silent progress limit done y fits is;
  events = events_silent progress limit done y fits is ∙ sym (append-nil (whole_events progress done)) ∙ events_by progress limit done y silent is;
}
steps_on progress limit done y (writes bytes) is h fits =
    let b = begun_after progress limit done in
    let after = after_writes progress limit done y fits bytes is in
    let on : is_full (after_output b y.len bytes).left ≡ false = ap (λ (s : Begun). is_full s.left) after ∙ goes_on limit (done ++ y ∷ []) h in
    record {
      outcome = outcome_by progress limit done y (writes bytes) is ∙ none_if_on (after_output b y.len bytes) on;
      after = after_by progress limit done y (writes bytes) is ∙ after;
      events = events_writes progress limit done y fits bytes is
          ∙ ap (λ l. whole_events progress done ++ l) (sym (append-nil (more_events (scanned_more b y.len) bytes)) ∙ ap (λ l. more_events (scanned_more b y.len) bytes ++ l) (sym (nothing_if_on (after_output b y.len bytes) on)))
          ∙ events_by progress limit done y (writes bytes) is;
    }
steps_on progress limit done y (fails code) is h fits =
    absurd (let p : true ≡ false = sym (faulty_with done y (ap is_fault is)) ∙ unanswered_fine limit (done ++ y ∷ []) h in cc)

pub each_steps_on : EachStepsOn
each_steps_on progress limit done y h fits = steps_on progress limit done y y.gives refl h fits

steps_out : (progress : Bool) (limit : Option ℕ) (done : List Yielded) (y : Yielded) (rest : List Yielded) (gives : Yield) → y.gives ≡ gives
    → is_answered limit done ≡ false → is_answered limit (done ++ y ∷ []) ≡ true → CountsFit (done ++ y ∷ []) → StepsOut progress limit done y rest
steps_out progress limit done y rest silent is h g fits = absurd (not_silent_full limit done y is h g)
steps_out progress limit done y rest (writes bytes) is h g fits =
    let all = done ++ y ∷ [] in
    let b = begun_after progress limit done in
    let processed_is = processed-one limit done y rest h g in
    let after = after_writes progress limit done y fits bytes is in
    let fine = fine_with done y (unanswered_fine limit done h) (ap is_fault is) in
    let full = ap (λ (s : Begun). is_full s.left) after ∙ reaches_limit limit all fine g in
    let ends = ends_here progress limit all fine fits in
    let closing : events_if_full (after_output b y.len bytes) ≡ end_events (begun_after progress limit all) = full_ends (after_output b y.len bytes) full ∙ ap end_events after in
    record {
      outcome = outcome_by progress limit done y (writes bytes) is ∙ done_if_full (after_output b y.len bytes) full
          ∙ ap (λ (s : Begun). Some (Done (begun_counts s))) after ∙ ap Some (sym (ap outcome_of processed_is ∙ ends.1));
      events = ap (answer_events progress) processed_is ∙ ends.0
          ∙ ap (λ l. l ++ end_events (begun_after progress limit all)) (events_writes progress limit done y fits bytes is)
          ∙ append_assoc (whole_events progress done) (more_events (scanned_more b y.len) bytes) (end_events (begun_after progress limit all))
          ∙ ap (λ l. whole_events progress done ++ (more_events (scanned_more b y.len) bytes ++ l)) (sym closing)
          ∙ events_by progress limit done y (writes bytes) is;
    }
steps_out progress limit done y rest (fails code) is h g fits =
    let all = done ++ y ∷ [] in
    let processed_is = processed-one limit done y rest h g in
    let o : output all ≡ output done = output-append done (y ∷ []) ∙ ap (λ l. output done ++ l) (output-one y ∙ ap bytes_of is) ∙ append-nil (output done) in
    let f : fault all ≡ Some (code, y.start) = fault-append done (y ∷ []) (unanswered_fine limit done h) ∙ ap (λ k. fault_on y.start k None) is in
    record {
      outcome = outcome_by progress limit done y (fails code) is ∙ ap Some (sym (ap outcome_of processed_is ∙ ap (ending_of all) f));
      events = ap (answer_events progress) processed_is
          ∙ ap (λ l. l ++ (map records (unless_empty (remainder (output all))) ++ closing_events all (fault all))) (events_fails progress limit done y fits code is)
          ∙ ap (λ l. whole_events progress done ++ (map records (unless_empty (remainder l)) ++ closing_events all (fault all))) o
          ∙ ap (λ l. whole_events progress done ++ (map records (unless_empty (remainder (output done))) ++ closing_events all l)) f
          ∙ events_by progress limit done y (fails code) is;
    }

pub each_steps_out : EachStepsOut
each_steps_out progress limit done y rest h g fits = steps_out progress limit done y rest y.gives refl h g fits

pub each_stops : EachStops
each_stops progress limit done h fits =
    let is = processed-all limit done h in
    let ends = ends_here progress limit done (unanswered_fine limit done h) fits in
    record {
      outcome = ap outcome_of is ∙ ends.1;
      events = ap (answer_events progress) is ∙ ends.0;
    }

pub each_begins : EachBegins
each_begins progress limit done rest h =
    let behind = processed-behind limit done rest h in
    let all = done ++ behind.0 in
    let front = whole_events-front progress done behind.0 in
    let closing = map records (unless_empty (remainder (output all))) ++ closing_events all (fault all) in
    record {
      answered = behind.0;
      unanswered = behind.2.0;
      split = behind.2.1;
      goes_on = behind.1;
      more = front.0 ++ closing;
      events = ap (answer_events progress) behind.1 ∙ ap (λ l. l ++ closing) front.1 ∙ append_assoc (whole_events progress done) front.0 closing;
    }
