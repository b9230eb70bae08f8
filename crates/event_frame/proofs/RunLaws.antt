-- A run of `feed` and `take` reads the stream.
use Rattle.std.proofs.Common.{◌≡◌, ℕ, ◌+◌, Bool, true, false, List, [], ◌∷◌, ◌++◌, length, take, drop, Option, None, Some, Ok, Err, refl, sym, ap, ◌∙◌, subst, inl, arith, append_assoc, append-nil, length-append, length-take, take-append-drop}
use Rattle.std.proofs.Math.Seq.{take-append_seam}
use Rattle.event_frame.specs.Event.{Event}
use Rattle.event_frame.specs.Reading.{IsFrame}
use Rattle.event_frame.specs.Reader.{ReaderState, fresh_reader, IsSound, Feeds, released}
use Rattle.event_frame.specs.Stream.{SpellsEvents, IsSameReading}
use Rattle.event_frame.specs.Runs.{Call, fed, took, IsRun, taken_bytes, lent_events, ReadsSoFar, ShowsThere}
use Rattle.event_frame.specs.declared.fault.FrameFault.{FrameFault}
use Rattle.event_frame.proofs.Unique.{same_reading}

released_free : (s : ReaderState) → s.held ≡ false → released s ≡ s
released_free s e = rw e

released_held : (s : ReaderState) → s.held ≡ true → released s ≡ record { kept = []; taken = s.taken; held = false; fault = s.fault }
released_held s e = rw e

same_fault : (s t : ReaderState) (f : FrameFault) → t ≡ s → s.fault ≡ Some f → t.fault ≡ Some f
same_fault s t f same is = ap (λ (x : ReaderState). x.fault) same ∙ is

both : {A : Type 0} (f : FrameFault) (o : Option FrameFault) → o ≡ Some f → o ≡ None → A
both f o some none = let c : Some f ≡ None = sym some ∙ none in cc

-- a fault stays to the end
fault_stays : (calls : List Call) (old new : ReaderState) (f : FrameFault) → IsRun old calls new → old.fault ≡ Some f → new.fault ≡ Some f
fault_stays [] old new f run is = same_fault old new f run is
fault_stays (fed piece (Ok n) ∷ calls) old new f run is = both f old.fault is run.does.no_fault
fault_stays (fed piece (Err g) ∷ calls) old new f run is =
    fault_stays calls run.middle new f run.rest (same_fault old run.middle f (run.does.earlier f is).1 is)
fault_stays (took None ∷ calls) old new f run is =
    fault_stays calls run.middle new f run.rest (same_fault old run.middle f (run.does.1 ∙ released_free old run.does.0) is)
fault_stays (took (Some event) ∷ calls) old new f run is =
    fault_stays calls run.middle new f run.rest (ap (λ (x : ReaderState). x.fault) (run.does.2 ∙ released_held old run.does.0) ∙ is)

-- what holds of every reader holds at the end
sound_end : (calls : List Call) (old new : ReaderState) → IsRun old calls new → IsSound old → IsSound new
sound_end [] old new run sound = subst (λ (s : ReaderState). IsSound s) (sym run) sound
sound_end (call ∷ calls) old new run sound = sound_end calls run.middle new run.rest run.sound

-- a piece was fed, of which n bytes were taken
record Fed (old middle : ReaderState) (piece : List ℕ) (n : ℕ) : Type 0 where
  pub kept : middle.kept ≡ old.kept ++ take n piece
  pub taken : middle.taken ≡ old.taken + length (take n piece)

fed_on : (old middle : ReaderState) (piece : List ℕ) (n : ℕ) → Feeds old piece (Ok n) middle → Fed old middle piece n
fed_on old middle piece n feeds = by_held old.held refl
  where
    by_held : (held : Bool) → old.held ≡ held → Fed old middle piece n
    by_held true e = let h = feeds.held e in rw (h.0, h.1) (record { kept = sym (append-nil old.kept); taken = omega arith })
    by_held false e = let t = (feeds.begun e).took in record { kept = t.kept; taken = t.taken ∙ omega (arith, length-take n piece, t.within) }

-- the bytes taken behind those that were kept are frames of the events lent, and then what is kept
run_spells : (calls : List Call) (old new : ReaderState) → IsRun old calls new → new.fault ≡ None
    → SpellsEvents (old.kept ++ taken_bytes calls) (lent_events calls) new.kept
run_spells [] old new run well = append-nil old.kept ∙ ap (λ (s : ReaderState). s.kept) (sym run)
run_spells (fed piece (Ok n) ∷ calls) old new run well =
    let f = fed_on old run.middle piece n run.does in
    subst (λ (l : List ℕ). SpellsEvents l (lent_events calls) new.kept)
    (ap (λ l. l ++ taken_bytes calls) f.kept ∙ append_assoc old.kept (take n piece) (taken_bytes calls))
    (run_spells calls run.middle new run.rest well)
run_spells (fed piece (Err g) ∷ calls) old new run well =
    both g new.fault (fault_stays calls run.middle new g run.rest run.does.sticks) well
run_spells (took None ∷ calls) old new run well =
    subst (λ (s : ReaderState). SpellsEvents (s.kept ++ taken_bytes calls) (lent_events calls) new.kept)
    (run.does.1 ∙ released_free old run.does.0)
    (run_spells calls run.middle new run.rest well)
run_spells (took (Some event) ∷ calls) old new run well = (
  taken_bytes calls,
  record { frame = old.kept; joined = refl; is_frame = run.does.1 },
  subst (λ (s : ReaderState). SpellsEvents (s.kept ++ taken_bytes calls) (lent_events calls) new.kept)
      (run.does.2 ∙ released_held old run.does.0)
      (run_spells calls run.middle new run.rest well),
)

-- and so many bytes were taken
run_counts : (calls : List Call) (old new : ReaderState) → IsRun old calls new → new.fault ≡ None
    → new.taken ≡ old.taken + length (taken_bytes calls)
run_counts [] old new run well = ap (λ (s : ReaderState). s.taken) run ∙ omega arith
run_counts (fed piece (Ok n) ∷ calls) old new run well =
    let f = fed_on old run.middle piece n run.does in
    let r = run_counts calls run.middle new run.rest well in
    omega (arith, f.taken, r, length-append (take n piece) (taken_bytes calls))
run_counts (fed piece (Err g) ∷ calls) old new run well =
    both g new.fault (fault_stays calls run.middle new g run.rest run.does.sticks) well
run_counts (took None ∷ calls) old new run well =
    let same = ap (λ (s : ReaderState). s.taken) (run.does.1 ∙ released_free old run.does.0) in
    let r = run_counts calls run.middle new run.rest well in
    omega (arith, same, r)
run_counts (took (Some event) ∷ calls) old new run well =
    let same = ap (λ (s : ReaderState). s.taken) (run.does.2 ∙ released_held old run.does.0) in
    let r = run_counts calls run.middle new run.rest well in
    omega (arith, same, r)

fresh_sound : IsSound fresh_reader
fresh_sound = record { counted = omega arith; whole = λ e. cc; begun = λ e f. inl (omega arith) }

pub reads_so_far : (calls : List Call) (new : ReaderState) → IsRun fresh_reader calls new → new.fault ≡ None → ReadsSoFar calls new
reads_so_far calls new run well =
    let sound = sound_end calls fresh_reader new run fresh_sound in
    record {
      spelled = run_spells calls fresh_reader new run well;
      counted = run_counts calls fresh_reader new run well ∙ omega arith;
      whole = sound.whole;
      begun = λ e. sound.begun e well;
    }

-- more bytes behind a rest
spells_more : (bytes : List ℕ) (events : List Event) (rest more : List ℕ) → SpellsEvents bytes events rest → SpellsEvents (bytes ++ more) events (rest ++ more)
spells_more bytes [] rest more spelled = ap (λ l. l ++ more) spelled
spells_more bytes (e ∷ events) rest more spelled = (
  spelled.0 ++ more,
  record {
    frame = spelled.1.frame;
    joined = ap (λ l. l ++ more) spelled.1.joined ∙ append_assoc spelled.1.frame spelled.0 more;
    is_frame = spelled.1.is_frame;
  },
  spells_more spelled.0 events rest more spelled.2,
)

pub shows_there : (calls : List Call) (piece : List ℕ) (fault : FrameFault) (old new : ReaderState)
    → IsRun fresh_reader calls old → old.fault ≡ None → Feeds old piece (Err fault) new → ShowsThere calls piece fault
shows_there calls piece fault old new run well feeds =
    let so_far = reads_so_far calls old run well in
    let shown = (feeds.later well).1 in
    record {
      rest = old.kept ++ piece;
      place = shown.place;
      reads = record {
        spelled = spells_more (taken_bytes calls) (lent_events calls) old.kept piece so_far.spelled;
        ended = record {
          front = new.kept;
          more = drop shown.count piece;
          joined = ap (λ l. old.kept ++ l) (sym (take-append-drop shown.count piece))
              ∙ (sym (append_assoc old.kept (take shown.count piece) (drop shown.count piece))
              ∙ ap (λ l. l ++ drop shown.count piece) (sym shown.took.kept));
          faulty = shown.faulty;
        };
      };
      placed = omega (arith, shown.at, so_far.counted, length-append old.kept piece, length-append (taken_bytes calls) piece);
    }

-- a whole frame behind frames
spells_last : (bytes : List ℕ) (events : List Event) (rest : List ℕ) (event : Event) → SpellsEvents bytes events rest → IsFrame rest event
    → SpellsEvents bytes (events ++ event ∷ []) []
spells_last bytes [] rest event spelled is_frame = (
  [],
  record { frame = rest; joined = spelled ∙ sym (append-nil rest); is_frame = is_frame },
  refl,
)
spells_last bytes (e ∷ events) rest event spelled is_frame = (spelled.0, spelled.1, spells_last spelled.0 events rest event spelled.2 is_frame)

same_but_last : (es ds : List Event) (e d : Event) → es ++ e ∷ [] ≡ ds ++ d ∷ [] → es ≡ ds
same_but_last es ds e d same =
    let whole : length (es ++ e ∷ []) ≡ length (ds ++ d ∷ []) = ap length same in
    let size : length es ≡ length ds = omega (arith, length-append es (e ∷ []), length-append ds (d ∷ [])) in
    sym (take-append_seam es (e ∷ [])) ∙ ap (take (length es)) same ∙ ap (λ n. take n (ds ++ d ∷ [])) size ∙ take-append_seam ds (d ∷ [])

pub same_events : (calls others : List Call) (new other : ReaderState) → IsRun fresh_reader calls new → IsRun fresh_reader others other
    → new.fault ≡ None → other.fault ≡ None → new.held ≡ other.held → taken_bytes calls ≡ taken_bytes others
    → lent_events calls ≡ lent_events others
same_events calls others new other run its well its_well alike same =
    by_held (reads_so_far calls new run well) (reads_so_far others other its its_well) new.held refl
  where
    by_held : ReadsSoFar calls new → ReadsSoFar others other → (held : Bool) → new.held ≡ held → lent_events calls ≡ lent_events others
    by_held a b false free =
        let one : IsSameReading (lent_events calls) (lent_events others) new.kept other.kept None None =
        same_reading (taken_bytes calls) new.kept other.kept (lent_events calls) (lent_events others) None None
        a.spelled (a.begun free)
        (subst (λ (l : List ℕ). SpellsEvents l (lent_events others) other.kept) (sym same) b.spelled) (b.begun (sym alike ∙ free)) in
        one.same_events
    by_held a b true full =
        let e = a.whole full in
        let d = b.whole (sym alike ∙ full) in
        let one : IsSameReading (lent_events calls ++ e.0 ∷ []) (lent_events others ++ d.0 ∷ []) [] [] None None =
        same_reading (taken_bytes calls) [] [] (lent_events calls ++ e.0 ∷ []) (lent_events others ++ d.0 ∷ []) None None
        (spells_last (taken_bytes calls) (lent_events calls) new.kept e.0 a.spelled e.1) (inl (omega arith))
        (spells_last (taken_bytes calls) (lent_events others) other.kept d.0
        (subst (λ (l : List ℕ). SpellsEvents l (lent_events others) other.kept) (sym same) b.spelled) d.1) (inl (omega arith)) in
        same_but_last (lent_events calls) (lent_events others) e.0 d.0 one.same_events
