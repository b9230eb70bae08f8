-- What the checks of a whole message show.
use Rattle.std.proofs.Common.{◌≡◌, ℕ, ◌+◌, ◌-◌, List, length, take, true, false, Option, None, Some, refl, sym, ap, ◌∙◌}
use Rattle.std.specs.Option.{option_map, is_some}
use Rattle.event_frame.specs.Crc.{crc_of}
use Rattle.event_frame.specs.Message.{Header, print_headers, message_of}
use Rattle.event_frame.specs.Event.{Event}
use Rattle.event_frame.specs.Shown.{event_shown}
use Rattle.event_frame.specs.Reading.{number_at, IsWhole, headers_part, payload_part, AreHeaders, event_meant, IsFrame, HasBadHeader, HasNoEvent}
use Rattle.event_frame.specs.HeaderFront.{EndsWell, EndsBadly}
use Rattle.event_frame.specs.declared.event.EventView.{EventView}
use Rattle.event_frame.proofs.RegisterLaws.{AreBytes}
use Rattle.event_frame.proofs.FrameLaws.{message_spelled, whole_small}

-- a whole message whose CRC is good
pub record Checked (bytes : List ℕ) : Type 0 where
  pub whole : IsWhole bytes
  pub are_bytes : AreBytes bytes
  pub crc : number_at bytes (length bytes - 4) ≡ crc_of (take (length bytes - 4) bytes)

pub shows_bad_header : (bytes headers : List ℕ) (at : ℕ) → Checked bytes → headers ≡ headers_part bytes → EndsBadly headers at → HasBadHeader bytes (12 + at)
shows_bad_header bytes headers at c is e =
    record {
      headers = e.headers;
      rest = e.rest;
      payload = payload_part bytes;
      are_headers = e.are_headers;
      stops = e.stops;
      spelled = message_spelled bytes c.whole c.are_bytes c.crc ∙ ap (λ (l : List ℕ). message_of l (payload_part bytes)) (sym is ∙ e.spelled);
      place_is = ap (λ n. 12 + n) e.place_is;
    }

-- what the code found for the event of good headers
abbrev pub Found : List ℕ → List ℕ → Option EventView → Type 0
Found headers payload found =
    (good : List Header) → AreHeaders good → headers ≡ print_headers good → option_map event_shown found ≡ event_meant good payload

pub shows_no_event : (bytes headers payload : List ℕ) (found : Option EventView) → Checked bytes → headers ≡ headers_part bytes → payload ≡ payload_part bytes
    → EndsWell headers → Found headers payload found → is_some found ≡ false → HasNoEvent bytes
shows_no_event bytes headers payload found c is payload_is e meant none =
    record {
      headers = e.headers;
      payload = payload;
      are_headers = e.are_headers;
      spelled = message_spelled bytes c.whole c.are_bytes c.crc
          ∙ ap (λ (l : List ℕ). message_of l (payload_part bytes)) (sym is ∙ e.spelled)
          ∙ ap (message_of (print_headers e.headers)) (sym payload_is);
      none = sym (meant e.headers e.are_headers e.spelled) ∙ absent found none;
    }
  where
    absent : (o : Option EventView) → is_some o ≡ false → option_map event_shown o ≡ None
    absent None h = refl
    absent (Some x) h = absurd (cc)

pub shows_event : (bytes headers payload : List ℕ) (found : Option EventView) → Checked bytes → headers ≡ headers_part bytes → payload ≡ payload_part bytes
    → EndsWell headers → Found headers payload found → is_some found ≡ true → (event : Event) × IsFrame bytes event
shows_event bytes headers payload None c is payload_is e meant some = absurd (cc)
shows_event bytes headers payload (Some view) c is payload_is e meant some = (
  event_shown view,
  record {
    headers = e.headers;
    payload = payload;
    are_headers = e.are_headers;
    spelled = message_spelled bytes c.whole c.are_bytes c.crc
        ∙ ap (λ (l : List ℕ). message_of l (payload_part bytes)) (sym is ∙ e.spelled)
        ∙ ap (message_of (print_headers e.headers)) (sym payload_is);
    meant = sym (meant e.headers e.are_headers e.spelled);
    fits = whole_small bytes c.whole;
  },
)
