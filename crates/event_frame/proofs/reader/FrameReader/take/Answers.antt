use Rattle.std.proofs.Common.{◌≡◌, ◌+◌, ◌≤◌, ℕ, List, length, true, refl, ap, sym, subst, ◌∙◌}
use Rattle.event_frame.specs.Event.{Event}
use Rattle.event_frame.specs.Reading.{number_at, headers_part, payload_part, IsFrame}
use Rattle.event_frame.specs.Reader.{ReaderState, LendsEvent, released}
use Rattle.event_frame.specs.ReaderView.{shown, kept_of, held_of}
use Rattle.event_frame.specs.declared.reader.State.{State}
use Rattle.event_frame.specs.declared.reader.State.TheVariants.{Held}
use Rattle.event_frame.proofs.ReaderLaws.{frame-room, lends, released_sound}
use Rattle.event_frame.proofs.reader.FrameReader.take.Goals as goal

-- the frame of a reader that holds one
frame_of_held : (state : State) (items : List ℕ) → state ≡ Held → (held_of state ≡ true → (event : Event) × IsFrame (kept_of state items) event)
    → (event : Event) × IsFrame items event
frame_of_held state items is whole =
    let f = whole (ap held_of is) in
    (f.0, subst (λ (l : List ℕ). IsFrame l f.0) (ap (λ (s : State). kept_of s items) is) f.1)

pub parts-requires : goal.parts-requires
parts-requires c =
    let f = frame_of_held c.self.inside.state c.self.inside.buffer.items c.in-Held.is c.self.invariant.sound.whole in
    subst (λ (l : List ℕ). 16 + number_at l 4 ≤ length l) (sym c.deref.ensures.value) (frame-room c.self.inside.buffer.items f.0 f.1)

pub returns : goal.returns
returns c =
    let f = frame_of_held c.self.inside.state c.self.inside.buffer.items c.in-Held.is c.self.invariant.sound.whole in
    let old : c.args.self.now ≡ shown Held c.self.inside.buffer.items c.self.inside.taken =
    sym c.self.view_is ∙ ap (λ (s : State). shown s c.self.inside.buffer.items c.self.inside.taken) c.in-Held.is in (
      (refl, (λ _. tt), (sym (ap released old), released_sound c.self.inside.buffer.items c.self.inside.taken)),
      record {
        after = tt;
        event = subst (λ (s : ReaderState). LendsEvent s c.event.result) (sym old)
            (lends c.self.inside.buffer.items _ _ c.self.inside.taken f.0 c.event.result f.1
            (c.parts.ensures.headers ∙ ap headers_part c.deref.ensures.value) (c.parts.ensures.payload ∙ ap payload_part c.deref.ensures.value)
            c.event.ensures);
      },
    )
