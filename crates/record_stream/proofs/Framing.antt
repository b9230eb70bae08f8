-- The frames of events, one list after another.
use Rattle.std.proofs.Common.{◌≡◌, ℕ, List, [], ◌++◌, Option, None, Result, Ok, Err, sym, ap, ◌∙◌, subst, append-nil}
use Rattle.std.specs.Io.KnownBytes.{Appends}
use Rattle.std.proofs.KnownBytes.{Appends-trans}
use Rattle.std.proofs.lemmas.Grind.{flat_map-append}
use Rattle.select_ports.specs.Streams.{AppendsFront, AddsAll}
use Rattle.select_ports.proofs.Told.{appends-front-after}
use Rattle.event_frame.specs.Event.{Event, frame_of}
use Rattle.select_reply.specs.Begun.{Begun}
use Rattle.select_reply.specs.Events.{wrapped_frames}
use Rattle.select_reply.specs.Turns.{record_events, record_outcome, after_record, end_events}
use Rattle.select_reply.specs.Yields.{Yielded}
use Rattle.record_stream.specs.Turns.{closes, events_unless, turn_events}

pub wrapped_frames-append : (wrap : List ℕ → List ℕ) (es fs : List Event) → wrapped_frames wrap (es ++ fs) ≡ wrapped_frames wrap es ++ wrapped_frames wrap fs
wrapped_frames-append wrap es fs = flat_map-append (λ e. wrap (frame_of e)) es fs

-- the first bytes were added, and then the second, or a front of them
adds_after : {A E : Type 0} (before mid now : Option (List ℕ)) (first second : List ℕ) (result : Result A E) → Appends before mid first → AddsAll mid now result second
    → AddsAll before now result (first ++ second)
adds_after before mid now first second (Ok a) added more = Appends-trans before mid now first second added more
adds_after before mid now first second (Err e) added more =
    subst (λ l. AppendsFront before now (first ++ l)) (append-nil second) (appends-front-after before mid now first second [] added more)

-- a record was added behind which the reply goes on, and then the reply's end
pub closing_adds : {A E : Type 0} (wrap : List ℕ → List ℕ) (b after : Begun) (y : Yielded) (before mid now : Option (List ℕ)) (result : Result A E)
    → record_outcome b y ≡ None → after ≡ after_record b y → Appends before mid (wrapped_frames wrap (record_events b y))
    → AddsAll mid now result (wrapped_frames wrap (end_events after)) → AddsAll before now result (wrapped_frames wrap (turn_events b (closes y)))
closing_adds wrap b after y before mid now result none is added more =
    let events : turn_events b (closes y) ≡ record_events b y ++ end_events after =
    ap (λ o. record_events b y ++ events_unless o (after_record b y)) none ∙ ap (λ (c : Begun). record_events b y ++ end_events c) (sym is) in
    subst (AddsAll before now result) (sym (ap (wrapped_frames wrap) events ∙ wrapped_frames-append wrap (record_events b y) (end_events after)))
    (adds_after before mid now (wrapped_frames wrap (record_events b y)) (wrapped_frames wrap (end_events after)) result added more)
