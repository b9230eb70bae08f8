-- The frames of events, one list after another.
use Rattle.std.proofs.Common.{OnOk, ◌≡◌, ℕ, ◌+◌, ◌-◌, ◌^◌, min, Bool, true, false, List, [], ◌∷◌, ◌++◌, length, take, drop, Option, None, Some, Result, Ok, Err, refl, sym, ap, ◌∙◌, subst, arith, append_assoc, append-nil}
use Rattle.std.proofs.lemmas.Grind.{flat_map-append}
use Rattle.std.specs.Io.KnownBytes.{Appends}
use Rattle.std.proofs.KnownBytes.{Appends-trans, Appends-nil}
use Rattle.select_ports.specs.Streams.{AppendsFront, AddsAll}
use Rattle.select_ports.proofs.Told.{appends-front-after}
use Rattle.event_frame.specs.Event.{Event, records, error, frame_of}
use Rattle.select_reply.specs.declared.code.Code.{Code}
use Rattle.select_reply.specs.Codes.{code_text, message}
use Rattle.select_reply.specs.Pieces.{piece, whole_pieces, remainder}
use Rattle.select_reply.specs.Events.{wrapped_frames, error_event}
use Rattle.select_reply.specs.Begun.{Begun, counted}
use Rattle.select_reply.specs.Turns.{progress_behind, grown_events, cut_after, piece_and_progress, grown, more_events}
use Rattle.select_reply.proofs.Cutting.{two_parts}

pub wrapped_frames-append : (wrap : List ℕ → List ℕ) (es fs : List Event) → wrapped_frames wrap (es ++ fs) ≡ wrapped_frames wrap es ++ wrapped_frames wrap fs
wrapped_frames-append wrap es fs = flat_map-append (λ e. wrap (frame_of e)) es fs

pub wrapped_frames-one : (wrap : List ℕ → List ℕ) (e : Event) → wrapped_frames wrap (e ∷ []) ≡ wrap (frame_of e)
wrapped_frames-one wrap e = append-nil (wrap (frame_of e))

module _ (wrap : List ℕ → List ℕ) (a b c : Option (List ℕ)) (es fs : List Event) where
  -- the frames of some events were added, and then those of others
  pub events_then : Appends a b (wrapped_frames wrap es) → Appends b c (wrapped_frames wrap fs) → Appends a c (wrapped_frames wrap (es ++ fs))
  events_then first second = subst (Appends a c) (sym (wrapped_frames-append wrap es fs)) (Appends-trans a b c _ _ first second)

  -- and then a front of those of others
  pub events_then_front : Appends a b (wrapped_frames wrap es) → AppendsFront b c (wrapped_frames wrap fs) → AppendsFront a c (wrapped_frames wrap (es ++ fs))
  events_then_front first front =
      subst (AppendsFront a c) (ap (λ l. wrapped_frames wrap es ++ l) (append-nil (wrapped_frames wrap fs)) ∙ sym (wrapped_frames-append wrap es fs))
      (appends-front-after a b c _ _ [] first front)

-- a front of the frames of some events is one of more events
pub front_of_more : (wrap : List ℕ → List ℕ) (a b : Option (List ℕ)) (es fs : List Event) → AppendsFront a b (wrapped_frames wrap es) → AppendsFront a b (wrapped_frames wrap (es ++ fs))
front_of_more wrap a b es fs front =
    subst (AppendsFront a b) (sym (wrapped_frames-append wrap es fs)) (appends-front-after a a b [] (wrapped_frames wrap es) (wrapped_frames wrap fs) (Appends-nil a) front)

-- the frames of some events were added, and then those of others or a front of them
pub events_then_all : {A E : Type 0} → (wrap : List ℕ → List ℕ) (a b c : Option (List ℕ)) (es fs : List Event) (r : Result A E)
    → Appends a b (wrapped_frames wrap es) → AddsAll b c r (wrapped_frames wrap fs) → AddsAll a c r (wrapped_frames wrap (es ++ fs))
events_then_all wrap a b c es fs (Ok x) first second = events_then wrap a b c es fs first second
events_then_all wrap a b c es fs (Err x) first second = events_then_front wrap a b c es fs first second

module _ (wrap : List ℕ → List ℕ) (a b c : Option (List ℕ)) (es : List Event) (e : Event) where
  -- the frame of one more event was added, or a front of it
  pub added_then : Appends a b (wrapped_frames wrap es) → Appends b c (wrap (frame_of e)) → Appends a c (wrapped_frames wrap (es ++ e ∷ []))
  added_then first second = events_then wrap a b c es (e ∷ []) first (subst (Appends b c) (sym (wrapped_frames-one wrap e)) second)

  pub added_then_front : (more : List Event) → Appends a b (wrapped_frames wrap es) → AppendsFront b c (wrap (frame_of e)) → AppendsFront a c (wrapped_frames wrap (es ++ e ∷ more))
  added_then_front more first front =
      events_then_front wrap a b c es (e ∷ more) first (front_of_more wrap b c (e ∷ []) more (subst (AppendsFront b c) (sym (wrapped_frames-one wrap e)) front))

-- a front of the second of two more events
pub added_two_then_front : (wrap : List ℕ → List ℕ) (a b c d : Option (List ℕ)) (es : List Event) (e f : Event)
    → Appends a b (wrapped_frames wrap es) → Appends b c (wrap (frame_of e)) → AppendsFront c d (wrap (frame_of f))
    → AppendsFront a d (wrapped_frames wrap (es ++ e ∷ f ∷ []))
added_two_then_front wrap a b c d es e f first second front =
    subst (λ (l : List Event). AppendsFront a d (wrapped_frames wrap l)) (append_assoc es (e ∷ []) (f ∷ []))
    (added_then_front wrap a c d (es ++ e ∷ []) f [] (added_then wrap a b c es e first second) front)

-- the event of a code's text and its message
pub error_is : (code : Code) (at : ℕ) (text words : List ℕ) → text ≡ code_text code → words ≡ message code at → error text words ≡ error_event code at
error_is code at text words t m = cc

-- ---- pieces that became whole

pub grown-append : (progress : Bool) (scanned cut : ℕ) (xs ys : List (List ℕ))
    → grown_events progress scanned cut (xs ++ ys) ≡ grown_events progress scanned cut xs ++ grown_events progress scanned (cut_after cut xs) ys
grown-append progress scanned cut [] ys = refl
grown-append progress scanned cut (x ∷ xs) ys =
    let next = counted cut piece in
    ap (λ l. records x ∷ (progress_behind progress scanned next ++ l)) (grown-append progress scanned next xs ys)
    ∙ ap (λ l. records x ∷ l) (sym (append_assoc (progress_behind progress scanned next) (grown_events progress scanned next xs) (grown_events progress scanned (cut_after next xs) ys)))

pub cut_after-append : (cut : ℕ) (xs ys : List (List ℕ)) → cut_after cut (xs ++ ys) ≡ cut_after (cut_after cut xs) ys
cut_after-append cut [] ys = refl
cut_after-append cut (x ∷ xs) ys = cut_after-append (counted cut piece) xs ys

pub grown-one : (progress : Bool) (scanned cut : ℕ) (bytes : List ℕ)
    → grown_events progress scanned cut (bytes ∷ []) ≡ records bytes ∷ progress_behind progress scanned (counted cut piece)
grown-one progress scanned cut bytes = ap (λ l. records bytes ∷ l) (append-nil (progress_behind progress scanned (counted cut piece)))

-- a count that goes on by nothing
pub counted_nothing : (n m : ℕ) → counted (counted n m) 0 ≡ counted n m
counted_nothing n m = omega arith

-- a part of the bytes as the code lends it
pub same_part : (bytes : List ℕ) (done room : ℕ) → take (done + room - done) (drop done bytes) ≡ take room (drop done bytes)
same_part bytes done room = ap (λ k. take k (drop done bytes)) (omega arith)

-- the events of one more piece
pub one_more_piece : (begun now : Begun) (xs ys : List (List ℕ)) (bytes part : List ℕ) → ys ≡ xs ++ (now.pending ++ bytes) ∷ []
    → part ≡ bytes → now.cut ≡ cut_after begun.cut xs → now.scanned ≡ begun.scanned → now.progress ≡ begun.progress
    → grown_events begun.progress begun.scanned begun.cut ys ≡ grown_events begun.progress begun.scanned begun.cut xs ++ piece_and_progress now part
one_more_piece begun now xs ys bytes part is same cut scanned progress =
    ap (grown_events begun.progress begun.scanned begun.cut) is
    ∙ grown-append begun.progress begun.scanned begun.cut xs ((now.pending ++ bytes) ∷ [])
    ∙ ap (λ l. grown_events begun.progress begun.scanned begun.cut xs ++ l)
    (grown-one begun.progress begun.scanned (cut_after begun.cut xs) (now.pending ++ bytes) ∙ here)
  where
    here : records (now.pending ++ bytes) ∷ progress_behind begun.progress begun.scanned (counted (cut_after begun.cut xs) piece) ≡ piece_and_progress now part
    here = rw (same, cut, scanned, progress) refl

-- the states of a reply, field by field
pub begun_is : (b : Begun) (pending : List ℕ) (cut scanned : ℕ) (progress : Bool) (left : Option ℕ)
    → b.pending ≡ pending → b.cut ≡ cut → b.scanned ≡ scanned → b.progress ≡ progress → b.left ≡ left
    → b ≡ record { pending = pending; cut = cut; scanned = scanned; progress = progress; left = left }
begun_is b pending cut scanned progress left p c s g l = rw (← p, ← c, ← s, ← g, ← l) refl

-- two parts of an output, one behind the other
module _ (b : Begun) (first second : List ℕ) where
  pub two_events : more_events b (first ++ second) ≡ more_events b first ++ more_events (grown b first) second
  two_events =
      ap (grown_events b.progress b.scanned b.cut) ((two_parts b.pending first second).0)
      ∙ grown-append b.progress b.scanned b.cut (whole_pieces (b.pending ++ first)) (whole_pieces (remainder (b.pending ++ first) ++ second))

  pub two_grown : grown (grown b first) second ≡ grown b (first ++ second)
  two_grown =
      begun_is (grown (grown b first) second) _ _ _ _ _ (sym ((two_parts b.pending first second).1))
      (sym (ap (cut_after b.cut) ((two_parts b.pending first second).0) ∙ cut_after-append b.cut (whole_pieces (b.pending ++ first)) (whole_pieces (remainder (b.pending ++ first) ++ second))))
      refl refl refl

-- what holds at Ok brings what follows from it
pub ok_then : {A E P Q : Type 0} → (r : Result A E) → OnOk r P → (P → Q) → OnOk r Q
ok_then (Ok x) h f = f h
ok_then (Err e) h f = tt
