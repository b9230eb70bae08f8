-- The reply while the lines of a window are answered.
use Rattle.std.proofs.Common.{◌≡◌, ℕ, ◌^◌, ◌<◌, ◌≤◌, Bool, true, false, List, [], ◌∷◌, ◌++◌, length, Option, None, Some, refl, sym, ap, ◌∙◌, subst, arith, append_assoc, append-nil}
use Rattle.std.specs.Prelude.{nat_le, ◌||◌, if◌then◌else◌}
use Rattle.std.specs.Io.KnownBytes.{Appends}
use Rattle.select_ports.specs.Streams.{AppendsFront}
use Rattle.line_window.specs.Cuts.{Cut}
use Rattle.line_window.specs.Sliding.{View, left, Holds}
use Rattle.line_window.specs.Answers.{IsNextCut}
use Rattle.line_window.specs.declared.line.Line.{Line}
use Rattle.line_window.specs.declared.line.Line.TheVariants.{At, TooLong, End}
use Rattle.select_reply.specs.declared.outcome.Outcome.{Outcome}
use Rattle.select_reply.specs.Yields.{Yield, Yielded, has_fault, outputs}
use Rattle.select_reply.specs.Answers.{is_answered, processed, last_start, totals_record, unless_faulty}
use Rattle.select_reply.specs.Events.{wrapped_frames}
use Rattle.select_reply.specs.Begun.{Begun, unbegun}
use Rattle.select_reply.specs.Replies.{CountsFit, outcome_of, EachStepsOn, EachStepsOut, EachStops, EachBegins}
use Rattle.select_reply.specs.Turns.{yielded}
use Rattle.record_stream.specs.Lines.{Lines, behind_all, gives, yields_of, end_of, ended_by, records_of, output_of, IsShort}
use Rattle.record_stream.specs.Replied.{answer_frames}
use Rattle.record_stream.specs.LineTurns.{turn_at_end, turn_of, behind_line, last_behind}
use Rattle.record_stream.specs.Streaming.{Asking, all_of, Stands, Streamed}
use Rattle.record_stream.specs.Turns.{Turn, passes, yields, ends, closes, turn_events, turn_outcome, after_turn}
use Rattle.record_stream.proofs.StreamLaws.{stands_fresh, stands_at, stands_on, stands_front, passed_front, record_on, record_ended, record_front, stopped_whole, stopped_front, closed_whole, closed_front}
use Rattle.record_stream.proofs.LineLaws.{Shows, line_shows, yields_of-append, yields_more, behind_more}
use Rattle.record_stream.proofs.BoundLaws.{Bounded, EachFits, each-fits, bounded_fits, one_more_fits, short-all}

-- ---- the end

no_fault : (limit : Option ℕ) (ys : List Yielded) → is_answered limit ys ≡ false → has_fault ys ≡ false
no_fault None ys open_ = open_
no_fault (Some n) ys open_ = second (nat_le n (outputs ys)) (has_fault ys) open_
  where
    second : (a b : Bool) → (a || b) ≡ false → b ≡ false
    second false b is = is
    second true b is = absurd (cc)

unless_is : (ys : List Yielded) (g : Yield) → has_fault ys ≡ false → unless_faulty ys g ≡ ys ++ yielded (last_start ys) 0 g ∷ []
unless_is ys g fine = rw fine refl

-- more records at their end are some at the end
pub ended_more : (ys : List Yielded) (e : Option Yield) → (more : List Yielded) × (ended_by ys e ≡ ys ++ more)
ended_more ys None = ([], sym (append-nil ys))
ended_more ys (Some g) =
    let t = totals_record ys g in
    let P : Bool → Type 0 = λ b. (more : List Yielded) × ((if b then ys else ys ++ t ∷ []) ≡ ys ++ more) in
    elim (has_fault ys) as P [ true ↦ ([], sym (append-nil ys)) | false ↦ (t ∷ [], refl) ]

pub last_of_more : (ys : List Yielded) (z : Yielded) → last_start (ys ++ z ∷ []) ≡ z.start
last_of_more [] z = refl
last_of_more (y ∷ []) z = refl
last_of_more (y ∷ x ∷ ys) z = last_of_more (x ∷ ys) z

module _ (on : EachStepsOn) (out : EachStepsOut) (stop : EachStops) (begins : EachBegins) (a : Asking) where
  -- no line is left
  module _ (ys : List Yielded) (begun : Begun) (before mid : Option (List ℕ)) (s : Stands a ys begun before mid) (fits : Bounded ys)
      (last : ℕ) (last_is : last ≡ last_start ys) where
    closing_is : (g : Yield) → ended_by ys (Some g) ≡ ys ++ yielded last 0 g ∷ []
    closing_is g = unless_is ys g (no_fault a.limit ys s.unanswered) ∙ ap (λ n. ys ++ yielded n 0 g ∷ []) (sym last_is)

    pub end_whole : (e : Option Yield) → length (output_of e) ≤ 33554432 → (now : Option (List ℕ)) (outcome : Outcome)
        → turn_outcome begun (turn_at_end last e) ≡ Some outcome → Appends mid now (wrapped_frames a.wrap (turn_events begun (turn_at_end last e)))
        → Appends before now (answer_frames a.wrap a.progress (processed a.limit (ended_by ys e))) × (outcome ≡ outcome_of (processed a.limit (ended_by ys e)))
    end_whole None short now outcome some added = stopped_whole on out stop begins a ys begun before mid s (bounded_fits ys fits) now outcome some added
    end_whole (Some g) short now outcome some added =
        subst (λ (l : List Yielded). Appends before now (answer_frames a.wrap a.progress (processed a.limit l)) × (outcome ≡ outcome_of (processed a.limit l))) (sym (closing_is g))
        (closed_whole on out stop begins a ys begun before mid s (yielded last 0 g) (one_more_fits ys last g fits short) now outcome some added)

    pub end_front : (e : Option Yield) → length (output_of e) ≤ 33554432 → (now : Option (List ℕ))
        → AppendsFront mid now (wrapped_frames a.wrap (turn_events begun (turn_at_end last e)))
        → AppendsFront before now (answer_frames a.wrap a.progress (processed a.limit (ended_by ys e)))
    end_front None short now front = stopped_front on out stop begins a ys begun before mid s (bounded_fits ys fits) now front
    end_front (Some g) short now front =
        subst (λ (l : List Yielded). AppendsFront before now (answer_frames a.wrap a.progress (processed a.limit l))) (sym (closing_is g))
        (closed_front on out stop begins a ys begun before mid s (yielded last 0 g) (one_more_fits ys last g fits short) now front)

  end_ends : (begun : Begun) (last : ℕ) (e : Option Yield) → turn_outcome begun (turn_at_end last e) ≡ None → ⊥
  end_ends begun last None none = absurd (cc)
  end_ends begun last (Some g) none = absurd (cc)

  -- ---- a stream of cuts

  module _ (cuts : List Cut) (short : IsShort a.lines) (fits : EachFits a.lines a.longest cuts) (coming : List Cut)
      (now : Lines) (last : ℕ) (begun : Begun) (before mid : Option (List ℕ)) (s : Streamed a cuts coming now last begun before mid) where
    abbrev done_yields : List Yielded
    done_yields = all_of a s.done

    -- the records of all cuts begin with those of the cuts done
    records_begin : (later : List Yielded) × (records_of a.lines a.longest cuts ≡ done_yields ++ later)
    records_begin =
        let rest = yields_of (behind_all a.lines a.longest s.done) a.longest coming in
        let all : yields_of a.lines a.longest cuts ≡ done_yields ++ rest =
        ap (yields_of a.lines a.longest) s.split ∙ yields_of-append a.lines a.longest s.done coming in
        let more = ended_more (yields_of a.lines a.longest cuts) (end_of a.lines a.longest cuts) in (
          rest ++ more.0,
          more.1 ∙ ap (λ l. l ++ more.0) all ∙ append_assoc done_yields rest more.0,
        )

    -- what was written is a front of the whole reply
    pub stream_front : AppendsFront before mid (answer_frames a.wrap a.progress (processed a.limit (records_of a.lines a.longest cuts)))
    stream_front =
        let all = records_begin in
        subst (λ (l : List Yielded). AppendsFront before mid (answer_frames a.wrap a.progress (processed a.limit l))) (sym all.1)
        (stands_front on out stop begins a done_yields begun before mid s.answered all.0)

    passed_one : (p : Cut) (rest : List Cut) → coming ≡ p ∷ rest → cuts ≡ (s.done ++ p ∷ []) ++ rest
    passed_one p rest is = s.split ∙ ap (λ l. s.done ++ l) is ∙ sym (append_assoc s.done (p ∷ []) rest)

    -- the next cut, whose record yields, and what the records of all cuts are then
    module _ (next : Lines) (p : Cut) (rest : List Cut) (here : coming ≡ p ∷ rest) (z : Yielded) (is : gives now a.longest p ≡ z ∷ []) where
      more_next : all_of a (s.done ++ p ∷ []) ≡ done_yields ++ z ∷ []
      more_next = yields_more a.lines a.longest s.done p now (z ∷ []) s.behind is

      fits_next : CountsFit (done_yields ++ z ∷ [])
      fits_next = subst CountsFit more_next (bounded_fits (all_of a (s.done ++ p ∷ [])) (fits (s.done ++ p ∷ []) rest (passed_one p rest here)))

      records_next : (later : List Yielded) × (records_of a.lines a.longest cuts ≡ done_yields ++ z ∷ later)
      records_next =
          let behind = yields_of (behind_all a.lines a.longest (s.done ++ p ∷ [])) a.longest rest in
          let all : yields_of a.lines a.longest cuts ≡ (done_yields ++ z ∷ []) ++ behind =
          ap (yields_of a.lines a.longest) (passed_one p rest here) ∙ yields_of-append a.lines a.longest (s.done ++ p ∷ []) rest ∙ ap (λ l. l ++ behind) more_next in
          let more = ended_more (yields_of a.lines a.longest cuts) (end_of a.lines a.longest cuts) in (
            behind ++ more.0,
            more.1 ∙ ap (λ l. l ++ more.0) (all ∙ append_assoc done_yields (z ∷ []) behind) ∙ append_assoc done_yields (z ∷ behind) more.0,
          )

    -- a turn was answered, and the reply goes on
    turn_on : (rest : List Cut) (next : Lines) (turn : Turn) (after : Option (List ℕ))
        → Shows a.longest now next coming rest turn → turn_outcome begun turn ≡ None
        → Appends mid after (wrapped_frames a.wrap (turn_events begun turn))
        → Streamed a cuts rest next (last_behind last turn) (after_turn begun turn) before after
    turn_on rest next passes after shows goes added =
        let more = yields_more a.lines a.longest s.done shows.0 now [] s.behind shows.3 ∙ append-nil done_yields in
        record {
          done = s.done ++ shows.0 ∷ [];
          split = passed_one shows.0 rest shows.1;
          behind = behind_more a.lines a.longest s.done shows.0 now next s.behind shows.2;
          last_is = s.last_is ∙ ap last_start (sym more);
          answered = stands_at a done_yields (all_of a (s.done ++ shows.0 ∷ [])) begun before after (sym more)
              (stands_on a done_yields begun before mid after s.answered added);
        }
    turn_on rest next (yields y) after shows goes added =
        let more = more_next next shows.0 rest shows.1 shows.3 shows.4 in
        let fit = fits_next next shows.0 rest shows.1 shows.3 shows.4 in
        record {
          done = s.done ++ shows.0 ∷ [];
          split = passed_one shows.0 rest shows.1;
          behind = behind_more a.lines a.longest s.done shows.0 now next s.behind shows.2;
          last_is = sym (ap last_start more ∙ last_of_more done_yields shows.3 ∙ shows.5.0);
          answered = stands_at a (done_yields ++ shows.3 ∷ []) (all_of a (s.done ++ shows.0 ∷ [])) (after_turn begun (yields y)) before after (sym more)
              (record_on on out stop begins a done_yields begun before mid s.answered y shows.3 shows.5 [] fit after goes added);
        }
    turn_on rest next ends after shows goes added = absurd shows
    turn_on rest next (closes y) after shows goes added = absurd shows

    -- a turn ended the reply
    turn_ended : (next : Lines) (rest : List Cut) (turn : Turn) (after : Option (List ℕ)) (outcome : Outcome)
        → Shows a.longest now next coming rest turn → turn_outcome begun turn ≡ Some outcome
        → Appends mid after (wrapped_frames a.wrap (turn_events begun turn))
        → Appends before after (answer_frames a.wrap a.progress (processed a.limit (records_of a.lines a.longest cuts)))
        × (outcome ≡ outcome_of (processed a.limit (records_of a.lines a.longest cuts)))
    turn_ended next rest passes after outcome shows ended added = absurd (cc)
    turn_ended next rest (yields y) after outcome shows ended added =
        let all = records_next next shows.0 rest shows.1 shows.3 shows.4 in
        let fit = fits_next next shows.0 rest shows.1 shows.3 shows.4 in
        subst (λ (l : List Yielded). Appends before after (answer_frames a.wrap a.progress (processed a.limit l)) × (outcome ≡ outcome_of (processed a.limit l))) (sym all.1)
        (record_ended on out stop begins a done_yields begun before mid s.answered y shows.3 shows.5 all.0 fit after outcome ended added)
    turn_ended next rest ends after outcome shows ended added = absurd shows
    turn_ended next rest (closes y) after outcome shows ended added = absurd shows

    -- a front of what a turn adds was written
    turn_front : (next : Lines) (rest : List Cut) (turn : Turn) (after : Option (List ℕ)) → Shows a.longest now next coming rest turn
        → AppendsFront mid after (wrapped_frames a.wrap (turn_events begun turn))
        → AppendsFront before after (answer_frames a.wrap a.progress (processed a.limit (records_of a.lines a.longest cuts)))
    turn_front next rest passes after shows front =
        let all = records_begin in
        subst (λ (l : List Yielded). AppendsFront before after (answer_frames a.wrap a.progress (processed a.limit l))) (sym all.1)
        (passed_front on out stop begins a done_yields begun before mid s.answered after all.0 front)
    turn_front next rest (yields y) after shows front =
        let all = records_next next shows.0 rest shows.1 shows.3 shows.4 in
        let fit = fits_next next shows.0 rest shows.1 shows.3 shows.4 in
        subst (λ (l : List Yielded). AppendsFront before after (answer_frames a.wrap a.progress (processed a.limit l))) (sym all.1)
        (record_front on out stop begins a done_yields begun before mid s.answered y shows.3 shows.5 all.0 fit after front)
    turn_front next rest ends after shows front = absurd shows
    turn_front next rest (closes y) after shows front = absurd shows

    -- where no cut is left
    all_done : coming ≡ [] → cuts ≡ s.done
    all_done none = s.split ∙ ap (λ l. s.done ++ l) none ∙ append-nil s.done

    records_done : coming ≡ [] → records_of a.lines a.longest cuts ≡ ended_by done_yields (now.of_end [])
    records_done none =
        ap (records_of a.lines a.longest) (all_done none) ∙ ap (λ (l : Lines). ended_by done_yields (l.of_end [])) (sym s.behind)

    short_end : length (output_of (now.of_end [])) ≤ 33554432
    short_end = subst (λ (l : Lines). length (output_of (l.of_end [])) ≤ 33554432) (sym s.behind) ((short-all a.lines a.longest s.done short).end [])

    fits_done : Bounded done_yields
    fits_done = fits s.done coming s.split

    -- a line was answered, and the reply goes on
    pub line_on : (rest : List Cut) (line : Line) (after : Option (List ℕ)) → IsNextCut a.longest coming rest line
        → turn_outcome begun (turn_of now last line) ≡ None → Appends mid after (wrapped_frames a.wrap (turn_events begun (turn_of now last line)))
        → Streamed a cuts rest (behind_line now line) (last_behind last (turn_of now last line)) (after_turn begun (turn_of now last line)) before after
    line_on rest (At start bytes whole) after next goes added =
        turn_on rest (behind_line now (At start bytes whole)) (turn_of now last (At start bytes whole)) after
        (line_shows now a.longest coming rest last (At start bytes whole) tt next) goes added
    line_on rest (TooLong start) after next goes added =
        turn_on rest (behind_line now (TooLong start)) (turn_of now last (TooLong start)) after
        (line_shows now a.longest coming rest last (TooLong start) tt next) goes added
    line_on rest End after next goes added = absurd (end_ends begun last (now.of_end []) goes)

    -- a line was answered, and the reply ended with it
    pub line_ended : (rest : List Cut) (line : Line) (after : Option (List ℕ)) (outcome : Outcome) → IsNextCut a.longest coming rest line
        → turn_outcome begun (turn_of now last line) ≡ Some outcome → Appends mid after (wrapped_frames a.wrap (turn_events begun (turn_of now last line)))
        → Appends before after (answer_frames a.wrap a.progress (processed a.limit (records_of a.lines a.longest cuts)))
        × (outcome ≡ outcome_of (processed a.limit (records_of a.lines a.longest cuts)))
    line_ended rest (At start bytes whole) after outcome next ended added =
        turn_ended (behind_line now (At start bytes whole)) rest (turn_of now last (At start bytes whole)) after outcome
        (line_shows now a.longest coming rest last (At start bytes whole) tt next) ended added
    line_ended rest (TooLong start) after outcome next ended added =
        turn_ended (behind_line now (TooLong start)) rest (turn_of now last (TooLong start)) after outcome
        (line_shows now a.longest coming rest last (TooLong start) tt next) ended added
    line_ended rest End after outcome next ended added =
        subst (λ (l : List Yielded). Appends before after (answer_frames a.wrap a.progress (processed a.limit l)) × (outcome ≡ outcome_of (processed a.limit l))) (sym (records_done next.0))
        (end_whole done_yields begun before mid s.answered fits_done last s.last_is (now.of_end []) short_end after outcome ended added)

    -- a front of what a line adds was written
    pub line_front : (rest : List Cut) (line : Line) (after : Option (List ℕ)) → IsNextCut a.longest coming rest line
        → AppendsFront mid after (wrapped_frames a.wrap (turn_events begun (turn_of now last line)))
        → AppendsFront before after (answer_frames a.wrap a.progress (processed a.limit (records_of a.lines a.longest cuts)))
    line_front rest (At start bytes whole) after next front =
        turn_front (behind_line now (At start bytes whole)) rest (turn_of now last (At start bytes whole)) after
        (line_shows now a.longest coming rest last (At start bytes whole) tt next) front
    line_front rest (TooLong start) after next front =
        turn_front (behind_line now (TooLong start)) rest (turn_of now last (TooLong start)) after
        (line_shows now a.longest coming rest last (TooLong start) tt next) front
    line_front rest End after next front =
        subst (λ (l : List Yielded). AppendsFront before after (answer_frames a.wrap a.progress (processed a.limit l))) (sym (records_done next.0))
        (end_front done_yields begun before mid s.answered fits_done last s.last_is (now.of_end []) short_end after front)

-- before any cut
pub stream_begins : (a : Asking) (cuts : List Cut) (last : ℕ) (begun : Begun) (before : Option (List ℕ)) → is_answered a.limit [] ≡ false
    → begun ≡ unbegun a.progress a.limit → last ≡ 0 → Streamed a cuts cuts a.lines last begun before before
stream_begins a cuts last begun before open_ fresh zero_ = record {
  done = [];
  split = refl;
  behind = refl;
  last_is = zero_;
  answered = stands_fresh a begun before open_ fresh;
}

-- the reply's state and what is behind the lines, as the code names them
pub streamed_as : (a : Asking) (cuts coming : List Cut) (now next : Lines) (last later : ℕ) (begun again : Begun) (before mid : Option (List ℕ))
    → next ≡ now → later ≡ last → again ≡ begun → Streamed a cuts coming now last begun before mid → Streamed a cuts coming next later again before mid
streamed_as a cuts coming now next last later begun again before mid same place begins_ s = record {
  done = s.done;
  split = s.split;
  behind = same ∙ s.behind;
  last_is = place ∙ s.last_is;
  answered = subst (λ (b : Begun). Stands a (all_of a s.done) b before mid) (sym begins_) s.answered;
}

-- the lines of a window fit the counts
pub window_fits : (lines : Lines) (longest : ℕ) (object : List ℕ) (u : View) → IsShort lines → longest ≤ 16777216 → u.stop ≤ u.size → u.size < 2 ^ 64
    → Holds object u → EachFits lines longest (left object u)
window_fits lines longest object u brief below within small holds =
    each-fits lines longest object u brief below within small (subst (λ n. n < 2 ^ 64) (sym holds.size) small)

-- ---- a reply without a line

empty_bounded : Bounded []
empty_bounded = record { scanned = omega arith; returned = omega arith }

module _ (on : EachStepsOn) (out : EachStepsOut) (stop : EachStops) (begins : EachBegins) (a : Asking) (begun : Begun) (last : ℕ)
    (open_ : is_answered a.limit [] ≡ false) (fresh : begun ≡ unbegun a.progress a.limit) (zero_ : last ≡ 0) (short : IsShort a.lines)
    (before now : Option (List ℕ)) where
  pub none_ended : (outcome : Outcome) → turn_outcome begun (turn_of a.lines last End) ≡ Some outcome
      → Appends before now (wrapped_frames a.wrap (turn_events begun (turn_of a.lines last End)))
      → Appends before now (answer_frames a.wrap a.progress (processed a.limit (ended_by [] (a.lines.of_end []))))
      × (outcome ≡ outcome_of (processed a.limit (ended_by [] (a.lines.of_end []))))
  none_ended outcome some added =
      end_whole on out stop begins a [] begun before before (stands_fresh a begun before open_ fresh) empty_bounded last zero_ (a.lines.of_end []) (short.end []) now outcome some added

  pub none_fronted : AppendsFront before now (wrapped_frames a.wrap (turn_events begun (turn_of a.lines last End)))
      → AppendsFront before now (answer_frames a.wrap a.progress (processed a.limit (ended_by [] (a.lines.of_end []))))
  none_fronted front =
      end_front on out stop begins a [] begun before before (stands_fresh a begun before open_ fresh) empty_bounded last zero_ (a.lines.of_end []) (short.end []) now front
