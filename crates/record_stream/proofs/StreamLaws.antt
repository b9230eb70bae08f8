-- The reply while the records of lines are answered.
use Rattle.std.proofs.Common.{◌≡◌, ℕ, zero, suc, ◌-◌, Bool, true, false, List, [], ◌∷◌, ◌++◌, Option, None, Some, refl, sym, ap, ◌∙◌, subst, arith, append_assoc, append-nil}
use Rattle.std.specs.Prelude.{nat_le, ◌||◌}
use Rattle.std.proofs.lemmas.Bool.{lt-leb}
use Rattle.std.specs.Io.KnownBytes.{Appends}
use Rattle.std.proofs.KnownBytes.{Appends-trans, Appends-nil}
use Rattle.select_ports.specs.Streams.{AppendsFront}
use Rattle.select_ports.proofs.Told.{appends-front-after}
use Rattle.event_frame.specs.Event.{Event}
use Rattle.select_reply.specs.declared.outcome.Outcome.{Outcome}
use Rattle.select_reply.specs.declared.outcome.Outcome.TheVariants.{Done, Faulted}
use Rattle.select_reply.specs.Yields.{Yield, silent, writes, fails, Yielded, is_fault}
use Rattle.select_reply.specs.Pieces.{whole_pieces, remainder}
use Rattle.select_reply.specs.Answers.{is_answered, processed}
use Rattle.select_reply.specs.Events.{answer_events, whole_events, wrapped_frames}
use Rattle.select_reply.specs.Begun.{Begun, unbegun, begun_counts, is_full}
use Rattle.select_reply.specs.Turns.{after_yield, after_output, after_record, scanned_more, yield_events, output_events, record_events, fault_events, end_events, yield_outcome, output_outcome, record_outcome, outcome_if_full}
use Rattle.select_reply.specs.Replies.{CountsFit, begun_after, outcome_of, EachStepsOn, EachStepsOut, EachStops, EachBegins}
use Rattle.record_stream.specs.Replied.{answer_frames, whole_frames}
use Rattle.record_stream.specs.Streaming.{Asking, Stands}
use Rattle.record_stream.specs.Turns.{Turn, passes, yields, ends, closes, events_unless, outcome_unless, turn_events, turn_outcome, after_turn}
use Rattle.record_stream.proofs.Framing.{wrapped_frames-append}

-- ---- a record, and what a turn says of it

-- a record adds what the other does: the length of a faulty one doesn't count
abbrev pub Acts : Yielded → Yielded → Type 0
Acts y z = (z.start ≡ y.start) × (z.gives ≡ y.gives) × (is_fault y.gives ≡ false → z.len ≡ y.len)

events_by : (b : Begun) (start other len more : ℕ) (g h : Yield) → other ≡ start → h ≡ g → (is_fault g ≡ false → more ≡ len)
    → yield_events b other more h ≡ yield_events b start len g
events_by b start other len more silent h place same length_ = ap (yield_events b other more) same
events_by b start other len more (writes bytes) h place same length_ =
    ap (yield_events b other more) same ∙ ap (λ n. output_events b n bytes) (length_ refl)
events_by b start other len more (fails code) h place same length_ =
    ap (yield_events b other more) same ∙ ap (fault_events b code) place

outcome_by : (b : Begun) (start other len more : ℕ) (g h : Yield) → other ≡ start → h ≡ g → (is_fault g ≡ false → more ≡ len)
    → yield_outcome b other more h ≡ yield_outcome b start len g
outcome_by b start other len more silent h place same length_ = ap (yield_outcome b other more) same
outcome_by b start other len more (writes bytes) h place same length_ =
    ap (yield_outcome b other more) same ∙ ap (λ n. output_outcome b n bytes) (length_ refl)
outcome_by b start other len more (fails code) h place same length_ =
    ap (yield_outcome b other more) same ∙ ap (λ n. Some (Faulted code n)) place

after_by : (b : Begun) (len more : ℕ) (g h : Yield) → h ≡ g → (is_fault g ≡ false → more ≡ len) → after_yield b more h ≡ after_yield b len g
after_by b len more silent h same length_ = ap (after_yield b more) same ∙ ap (scanned_more b) (length_ refl)
after_by b len more (writes bytes) h same length_ = ap (after_yield b more) same ∙ ap (λ n. after_output b n bytes) (length_ refl)
after_by b len more (fails code) h same length_ = ap (after_yield b more) same

module _ (b : Begun) (y z : Yielded) (acts : Acts y z) where
  same_events : record_events b z ≡ record_events b y
  same_events = events_by b y.start z.start y.len z.len y.gives z.gives acts.0 acts.1 acts.2

  same_outcome : record_outcome b z ≡ record_outcome b y
  same_outcome = outcome_by b y.start z.start y.len z.len y.gives z.gives acts.0 acts.1 acts.2

  same_after : after_record b z ≡ after_record b y
  same_after = after_by b y.len z.len y.gives z.gives acts.1 acts.2

-- ---- the limit

-- a limit that allows output isn't reached before any record
pub free_unanswered : (limit : Option ℕ) → is_full limit ≡ false → is_answered limit [] ≡ false
free_unanswered None free = refl
free_unanswered (Some zero) free = absurd (cc)
free_unanswered (Some (suc n)) free = let more : nat_le (suc n) 0 ≡ false = lt-leb (suc n) 0 (omega arith) in ap (λ b. b || false) more

-- one that allows none is
pub full_none : (limit : Option ℕ) (ys : List Yielded) → is_full limit ≡ true → processed limit ys ≡ []
full_none None ys full = absurd (cc)
full_none (Some zero) [] full = refl
full_none (Some zero) (y ∷ ys) full = refl
full_none (Some (suc n)) ys full = absurd (cc)

full_after : (b : Begun) → outcome_if_full b ≡ None → is_full b.left ≡ false
full_after b none =
    let P : Bool → Type 0 = λ full. is_full b.left ≡ full → is_full b.left ≡ false in
    (elim (is_full b.left) as P [ true ↦ λ is. absurd (let some : outcome_if_full b ≡ Some (Done (begun_counts b)) = rw is refl in cc) | false ↦ λ is. is ]) refl

full_by : (b : Begun) (start len : ℕ) (g : Yield) → is_full b.left ≡ false → yield_outcome b start len g ≡ None → is_full (after_yield b len g).left ≡ false
full_by b start len silent open_ none = open_
full_by b start len (writes bytes) open_ none = full_after (after_output b len bytes) none
full_by b start len (fails code) open_ none = absurd (cc)

-- a turn behind which the reply goes on leaves room for output
pub open_after : (b : Begun) (turn : Turn) → is_full b.left ≡ false → turn_outcome b turn ≡ None → is_full (after_turn b turn).left ≡ false
open_after b passes open_ none = open_
open_after b (yields y) open_ none = full_by b y.start y.len y.gives open_ none
open_after b ends open_ none = absurd (cc)
open_after b (closes y) open_ none = absurd (cc)

-- ---- the records so far

nothing_left : (n : ℕ) → n - 0 ≡ n
nothing_left n = omega arith

empty_stands : (progress : Bool) (limit : Option ℕ) → unbegun progress limit ≡ begun_after progress limit []
unfolding whole_pieces remainder
empty_stands progress None = refl
empty_stands progress (Some n) = ap (λ m. unbegun progress (Some m)) (sym (nothing_left n))

empty_frames : (wrap : List ℕ → List ℕ) (progress : Bool) → [] ≡ whole_frames wrap progress []
unfolding whole_pieces
empty_frames wrap progress = refl

-- before any record
pub stands_fresh : (a : Asking) (begun : Begun) (before : Option (List ℕ)) → is_answered a.limit [] ≡ false → begun ≡ unbegun a.progress a.limit
    → Stands a [] begun before before
stands_fresh a begun before open_ fresh = record {
  unanswered = open_;
  stands = fresh ∙ empty_stands a.progress a.limit;
  written = subst (Appends before before) (empty_frames a.wrap a.progress) (Appends-nil before);
}

pub stands_at : (a : Asking) (ys zs : List Yielded) (begun : Begun) (before now : Option (List ℕ)) → ys ≡ zs → Stands a ys begun before now → Stands a zs begun before now
stands_at a ys zs begun before now is s = subst (λ l. Stands a l begun before now) is s

-- a turn that adds nothing
pub stands_on : (a : Asking) (ys : List Yielded) (begun : Begun) (before mid now : Option (List ℕ)) → Stands a ys begun before mid → Appends mid now []
    → Stands a ys begun before now
stands_on a ys begun before mid now s added = record {
  unanswered = s.unanswered;
  stands = s.stands;
  written = subst (Appends before now) (append-nil (whole_frames a.wrap a.progress ys)) (Appends-trans before mid now _ _ s.written added);
}

module _ (on : EachStepsOn) (out : EachStepsOut) (stop : EachStops) (begins : EachBegins)
    (a : Asking) (ys : List Yielded) (begun : Begun) (before mid : Option (List ℕ)) (s : Stands a ys begun before mid) where
  -- a front of more events was written, with which the rest of the whole reply begins
  events_front : (now : Option (List ℕ)) (all : List Yielded) (es more : List Event)
      → answer_events a.progress (processed a.limit all) ≡ whole_events a.progress ys ++ (es ++ more)
      → AppendsFront mid now (wrapped_frames a.wrap es) → AppendsFront before now (answer_frames a.wrap a.progress (processed a.limit all))
  events_front now all es more is front =
      let joined : answer_frames a.wrap a.progress (processed a.limit all)
      ≡ whole_frames a.wrap a.progress ys ++ (wrapped_frames a.wrap es ++ wrapped_frames a.wrap more) =
      ap (wrapped_frames a.wrap) is ∙ wrapped_frames-append a.wrap (whole_events a.progress ys) (es ++ more)
      ∙ ap (λ l. whole_frames a.wrap a.progress ys ++ l) (wrapped_frames-append a.wrap es more) in
      subst (AppendsFront before now) (sym joined) (appends-front-after before mid now _ _ (wrapped_frames a.wrap more) s.written front)

  -- the last events of the whole reply were written
  events_whole : (now : Option (List ℕ)) (all : List Yielded) (es : List Event)
      → answer_events a.progress (processed a.limit all) ≡ whole_events a.progress ys ++ es
      → Appends mid now (wrapped_frames a.wrap es) → Appends before now (answer_frames a.wrap a.progress (processed a.limit all))
  events_whole now all es is added =
      let joined : answer_frames a.wrap a.progress (processed a.limit all) ≡ whole_frames a.wrap a.progress ys ++ wrapped_frames a.wrap es =
      ap (wrapped_frames a.wrap) is ∙ wrapped_frames-append a.wrap (whole_events a.progress ys) es in
      subst (Appends before now) (sym joined) (Appends-trans before mid now _ _ s.written added)

  -- what was written is a front of the reply, whatever records come
  pub stands_front : (later : List Yielded) → AppendsFront before mid (answer_frames a.wrap a.progress (processed a.limit (ys ++ later)))
  stands_front later =
      let b = begins a.progress a.limit ys later s.unanswered in
      let is : answer_frames a.wrap a.progress (processed a.limit (ys ++ later)) ≡ whole_frames a.wrap a.progress ys ++ wrapped_frames a.wrap b.more =
      ap (wrapped_frames a.wrap) b.events ∙ wrapped_frames-append a.wrap (whole_events a.progress ys) b.more in
      subst (AppendsFront before mid) (sym is)
      (record { front = whole_frames a.wrap a.progress ys; is_front = record { rest = wrapped_frames a.wrap b.more; joined = refl }; appended = s.written })

  -- a front of nothing more was written
  pub passed_front : (now : Option (List ℕ)) (later : List Yielded) → AppendsFront mid now [] → AppendsFront before now (answer_frames a.wrap a.progress (processed a.limit (ys ++ later)))
  passed_front now later front =
      let b = begins a.progress a.limit ys later s.unanswered in
      events_front now (ys ++ later) [] b.more b.events front

  -- ---- one record more

  module _ (y z : Yielded) (acts : Acts y z) (later : List Yielded) (fits : CountsFit (ys ++ z ∷ [])) where
    -- the reply goes on behind the record
    goes_on : is_answered a.limit (ys ++ z ∷ []) ≡ false
        → (record_outcome begun y ≡ None)
        × (after_record begun y ≡ begun_after a.progress a.limit (ys ++ z ∷ []))
        × (whole_events a.progress (ys ++ z ∷ []) ≡ whole_events a.progress ys ++ record_events begun y)
    goes_on open_ =
        let b = begun_after a.progress a.limit ys in
        let step = on a.progress a.limit ys z open_ fits in (
          ap (λ (c : Begun). record_outcome c y) s.stands ∙ sym (same_outcome b y z acts) ∙ step.outcome,
          ap (λ (c : Begun). after_record c y) s.stands ∙ sym (same_after b y z acts) ∙ step.after,
          step.events ∙ ap (λ (e : List Event). whole_events a.progress ys ++ e) (same_events b y z acts ∙ ap (λ (c : Begun). record_events c y) (sym s.stands)),
        )

    -- the reply ends with the record
    ends_with : is_answered a.limit (ys ++ z ∷ []) ≡ true
        → (record_outcome begun y ≡ Some (outcome_of (processed a.limit (ys ++ z ∷ later))))
        × (answer_events a.progress (processed a.limit (ys ++ z ∷ later)) ≡ whole_events a.progress ys ++ record_events begun y)
    ends_with full =
        let b = begun_after a.progress a.limit ys in
        let step = out a.progress a.limit ys z later s.unanswered full fits in (
          ap (λ (c : Begun). record_outcome c y) s.stands ∙ sym (same_outcome b y z acts) ∙ step.outcome,
          step.events ∙ ap (λ (e : List Event). whole_events a.progress ys ++ e) (same_events b y z acts ∙ ap (λ (c : Begun). record_events c y) (sym s.stands)),
        )

    on_by : (now : Option (List ℕ)) (full : Bool) → is_answered a.limit (ys ++ z ∷ []) ≡ full → record_outcome begun y ≡ None
        → Appends mid now (wrapped_frames a.wrap (record_events begun y)) → Stands a (ys ++ z ∷ []) (after_record begun y) before now
    on_by now true full none added = absurd (let some = (ends_with full).0 in cc)
    on_by now false open_ none added =
        let step = goes_on open_ in
        let frames : whole_frames a.wrap a.progress (ys ++ z ∷ []) ≡ whole_frames a.wrap a.progress ys ++ wrapped_frames a.wrap (record_events begun y) =
        ap (wrapped_frames a.wrap) step.2 ∙ wrapped_frames-append a.wrap (whole_events a.progress ys) (record_events begun y) in
        record {
          unanswered = open_;
          stands = step.1;
          written = subst (Appends before now) (sym frames) (Appends-trans before mid now _ _ s.written added);
        }

    pub record_on : (now : Option (List ℕ)) → record_outcome begun y ≡ None → Appends mid now (wrapped_frames a.wrap (record_events begun y))
        → Stands a (ys ++ z ∷ []) (after_record begun y) before now
    record_on now none added = on_by now (is_answered a.limit (ys ++ z ∷ [])) refl none added

    ended_by_ : (now : Option (List ℕ)) (outcome : Outcome) (full : Bool) → is_answered a.limit (ys ++ z ∷ []) ≡ full
        → record_outcome begun y ≡ Some outcome → Appends mid now (wrapped_frames a.wrap (record_events begun y))
        → Appends before now (answer_frames a.wrap a.progress (processed a.limit (ys ++ z ∷ later))) × (outcome ≡ outcome_of (processed a.limit (ys ++ z ∷ later)))
    ended_by_ now outcome false open_ some added = absurd (let none = (goes_on open_).0 in cc)
    ended_by_ now outcome true full some added =
        let step = ends_with full in
        let same : outcome ≡ outcome_of (processed a.limit (ys ++ z ∷ later)) = let both = sym some ∙ step.0 in cc in
        (events_whole now (ys ++ z ∷ later) (record_events begun y) step.1 added, same)

    pub record_ended : (now : Option (List ℕ)) (outcome : Outcome) → record_outcome begun y ≡ Some outcome
        → Appends mid now (wrapped_frames a.wrap (record_events begun y))
        → Appends before now (answer_frames a.wrap a.progress (processed a.limit (ys ++ z ∷ later))) × (outcome ≡ outcome_of (processed a.limit (ys ++ z ∷ later)))
    record_ended now outcome some added = ended_by_ now outcome (is_answered a.limit (ys ++ z ∷ [])) refl some added

    front_by : (now : Option (List ℕ)) (full : Bool) → is_answered a.limit (ys ++ z ∷ []) ≡ full
        → AppendsFront mid now (wrapped_frames a.wrap (record_events begun y)) → AppendsFront before now (answer_frames a.wrap a.progress (processed a.limit (ys ++ z ∷ later)))
    front_by now true full front =
        let whole = (ends_with full).1 in
        events_front now (ys ++ z ∷ later) (record_events begun y) []
        (whole ∙ ap (λ (e : List Event). whole_events a.progress ys ++ e) (sym (append-nil (record_events begun y)))) front
    front_by now false open_ front =
        let b = begins a.progress a.limit (ys ++ z ∷ []) later open_ in
        events_front now (ys ++ z ∷ later) (record_events begun y) b.more
        (ap (λ l. answer_events a.progress (processed a.limit l)) (sym (append_assoc ys (z ∷ []) later)) ∙ b.events
        ∙ ap (λ (e : List Event). e ++ b.more) (goes_on open_).2 ∙ append_assoc (whole_events a.progress ys) (record_events begun y) b.more) front

    pub record_front : (now : Option (List ℕ)) → AppendsFront mid now (wrapped_frames a.wrap (record_events begun y))
        → AppendsFront before now (answer_frames a.wrap a.progress (processed a.limit (ys ++ z ∷ later)))
    record_front now front = front_by now (is_answered a.limit (ys ++ z ∷ [])) refl front

  -- ---- no record more

  module _ (fits : CountsFit ys) where
    stopped_events : answer_events a.progress (processed a.limit ys) ≡ whole_events a.progress ys ++ end_events begun
    stopped_events =
        let ends_here = stop a.progress a.limit ys s.unanswered fits in
        ends_here.events ∙ ap (λ (b : Begun). whole_events a.progress ys ++ end_events b) (sym s.stands)

    stopped_outcome : outcome_of (processed a.limit ys) ≡ Done (begun_counts begun)
    stopped_outcome =
        let ends_here = stop a.progress a.limit ys s.unanswered fits in
        ends_here.outcome ∙ ap (λ (b : Begun). Done (begun_counts b)) (sym s.stands)

    pub stopped_whole : (now : Option (List ℕ)) (outcome : Outcome) → turn_outcome begun ends ≡ Some outcome → Appends mid now (wrapped_frames a.wrap (end_events begun))
        → Appends before now (answer_frames a.wrap a.progress (processed a.limit ys)) × (outcome ≡ outcome_of (processed a.limit ys))
    stopped_whole now outcome some added =
        let same : outcome ≡ Done (begun_counts begun) = cc in
        (events_whole now ys (end_events begun) stopped_events added, same ∙ sym stopped_outcome)

    pub stopped_front : (now : Option (List ℕ)) → AppendsFront mid now (wrapped_frames a.wrap (end_events begun))
        → AppendsFront before now (answer_frames a.wrap a.progress (processed a.limit ys))
    stopped_front now front =
        events_front now ys (end_events begun) []
        (stopped_events ∙ ap (λ (e : List Event). whole_events a.progress ys ++ e) (sym (append-nil (end_events begun)))) front

  -- ---- one record more, and then none

  module _ (y : Yielded) (fits : CountsFit (ys ++ y ∷ [])) where
    same_record : Acts y y
    same_record = (refl, refl, λ _. refl)

    -- what closes the reply, by how it ended with the record
    closed_by : (full : Bool) → is_answered a.limit (ys ++ y ∷ []) ≡ full
        → (answer_events a.progress (processed a.limit (ys ++ y ∷ [])) ≡ whole_events a.progress ys ++ turn_events begun (closes y))
        × (turn_outcome begun (closes y) ≡ Some (outcome_of (processed a.limit (ys ++ y ∷ []))))
    closed_by true full =
        let step = ends_with y y same_record [] fits full in (
          step.1 ∙ ap (λ (e : List Event). whole_events a.progress ys ++ e) (sym (append-nil (record_events begun y))
              ∙ ap (λ o. record_events begun y ++ events_unless o (after_record begun y)) (sym step.0)),
          ap (λ o. Some (outcome_unless o (after_record begun y))) step.0,
        )
    closed_by false open_ =
        let step = goes_on y y same_record [] fits open_ in
        let zs = ys ++ y ∷ [] in
        let ends_here = stop a.progress a.limit zs open_ fits in (
          ends_here.events ∙ ap (λ (b : Begun). whole_events a.progress zs ++ end_events b) (sym step.1)
              ∙ ap (λ (e : List Event). e ++ end_events (after_record begun y)) step.2
              ∙ append_assoc (whole_events a.progress ys) (record_events begun y) (end_events (after_record begun y))
              ∙ ap (λ o. whole_events a.progress ys ++ (record_events begun y ++ events_unless o (after_record begun y))) (sym step.0),
          ap (λ o. Some (outcome_unless o (after_record begun y))) step.0
              ∙ ap (λ (b : Begun). Some (Done (begun_counts b))) step.1 ∙ ap (λ o. Some o) (sym ends_here.outcome),
        )

    pub closed_whole : (now : Option (List ℕ)) (outcome : Outcome) → turn_outcome begun (closes y) ≡ Some outcome
        → Appends mid now (wrapped_frames a.wrap (turn_events begun (closes y)))
        → Appends before now (answer_frames a.wrap a.progress (processed a.limit (ys ++ y ∷ []))) × (outcome ≡ outcome_of (processed a.limit (ys ++ y ∷ [])))
    closed_whole now outcome some added =
        let step = closed_by (is_answered a.limit (ys ++ y ∷ [])) refl in
        let same : outcome ≡ outcome_of (processed a.limit (ys ++ y ∷ [])) = let both = sym some ∙ step.1 in cc in
        (events_whole now (ys ++ y ∷ []) (turn_events begun (closes y)) step.0 added, same)

    pub closed_front : (now : Option (List ℕ)) → AppendsFront mid now (wrapped_frames a.wrap (turn_events begun (closes y)))
        → AppendsFront before now (answer_frames a.wrap a.progress (processed a.limit (ys ++ y ∷ [])))
    closed_front now front =
        let step = closed_by (is_answered a.limit (ys ++ y ∷ [])) refl in
        events_front now (ys ++ y ∷ []) (turn_events begun (closes y)) []
        (step.0 ∙ ap (λ (e : List Event). whole_events a.progress ys ++ e) (sym (append-nil (turn_events begun (closes y))))) front

-- ---- a reply without a record

pub empty_events : (progress : Bool) (limit : Option ℕ) → answer_events progress [] ≡ end_events (unbegun progress limit)
unfolding whole_pieces remainder
empty_events progress limit = refl

pub none_whole : (wrap : List ℕ → List ℕ) (progress : Bool) (limit : Option ℕ) (begun : Begun) (before now : Option (List ℕ)) → begun ≡ unbegun progress limit
    → Appends before now (wrapped_frames wrap (end_events begun)) → Appends before now (answer_frames wrap progress [])
none_whole wrap progress limit begun before now is added =
    subst (λ (es : List Event). Appends before now (wrapped_frames wrap es)) (ap end_events is ∙ sym (empty_events progress limit)) added

pub none_front : (wrap : List ℕ → List ℕ) (progress : Bool) (limit : Option ℕ) (begun : Begun) (before now : Option (List ℕ)) → begun ≡ unbegun progress limit
    → AppendsFront before now (wrapped_frames wrap (end_events begun)) → AppendsFront before now (answer_frames wrap progress [])
none_front wrap progress limit begun before now is added =
    subst (λ (es : List Event). AppendsFront before now (wrapped_frames wrap es)) (ap end_events is ∙ sym (empty_events progress limit)) added

pub none_outcome : (progress : Bool) (limit : Option ℕ) (begun : Begun) (outcome : Outcome) → begun ≡ unbegun progress limit
    → Some outcome ≡ Some (Done (begun_counts begun)) → outcome ≡ outcome_of []
none_outcome progress limit begun outcome is same =
    let done : outcome ≡ Done (begun_counts begun) = cc in
    done ∙ ap (λ (b : Begun). Done (begun_counts b)) is
