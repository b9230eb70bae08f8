-- The frames that are written for events are frames of those events.
use Rattle.std.proofs.Common.{◌≡◌, ℕ, ◌+◌, ◌^◌, ◌<◌, ◌≤◌, true, false, slice_index, List, [], ◌∷◌, length, Some, refl, arith, length-append}
use Rattle.std.specs.Prelude.{decimal}
use Rattle.std.specs.Char.{is_ascii_digit}
use Rattle.std.specs.Int.{IsInRange}
use Rattle.std.proofs.lemmas.Bool.{le-leb}
use Rattle.std.proofs.lemmas.Fmt.{decimal_is_IsNumeral_wide}
use Rattle.std.proofs.lemmas.Str.Parse.{digit_at}
use Rattle.itoa.proofs.Decimal.{length_wide}
use Rattle.event_frame.specs.CountsText.{CountsFit, IsNumber, ReadsCounts, counts_text, progress_of, stats_of, print_counts, print_element, opening}
use Rattle.event_frame.specs.declared.counts.Counts.{Counts}
use Rattle.event_frame.specs.Message.{print_header, print_headers}
use Rattle.event_frame.specs.Event.{Event, records, cont, progress, stats, end, error, header, headers_of, payload_of, frame_of}
use Rattle.event_frame.specs.Reading.{IsHeader, AreHeaders, event_meant, IsFrame}
use Rattle.event_frame.specs.Stream.{SpellsEvents, PartsFit, AllPartsFit, frames_of}
use Rattle.event_frame.proofs.ReaderLaws.{message-size}

can_be_written : (name value : List ℕ) → 0 < length name → length name < 256 → length value < 65536 → IsHeader (header name value)
can_be_written name value some named fits = record { named = some; name_fits = named; value_fits = fits }

are_headers : (event : Event) → PartsFit event → AreHeaders (headers_of event)
are_headers (records output) fit = (
  can_be_written _ _ (omega arith) (omega arith) (omega arith),
  refl,
  (can_be_written _ _ (omega arith) (omega arith) (omega arith), refl, (can_be_written _ _ (omega arith) (omega arith) (omega arith), refl, tt)),
)
are_headers cont fit = (
  can_be_written _ _ (omega arith) (omega arith) (omega arith),
  refl,
  (can_be_written _ _ (omega arith) (omega arith) (omega arith), refl, tt),
)
are_headers (progress text) fit = (
  can_be_written _ _ (omega arith) (omega arith) (omega arith),
  refl,
  (can_be_written _ _ (omega arith) (omega arith) (omega arith), refl, (can_be_written _ _ (omega arith) (omega arith) (omega arith), refl, tt)),
)
are_headers (stats text) fit = (
  can_be_written _ _ (omega arith) (omega arith) (omega arith),
  refl,
  (can_be_written _ _ (omega arith) (omega arith) (omega arith), refl, (can_be_written _ _ (omega arith) (omega arith) (omega arith), refl, tt)),
)
are_headers end fit = (
  can_be_written _ _ (omega arith) (omega arith) (omega arith),
  refl,
  (can_be_written _ _ (omega arith) (omega arith) (omega arith), refl, tt),
)
are_headers (error code message) fit = (
  can_be_written _ _ (omega arith) (omega arith) (omega arith),
  refl,
  (can_be_written _ code (omega arith) (omega arith) (omega (arith, fit.0)), refl, (can_be_written _ message (omega arith) (omega arith) (omega (arith, fit.1)), refl, tt)),
)

size_of : (event : Event) → PartsFit event → length (print_headers (headers_of event)) + length (payload_of event) ≤ 66000
unfolding print_header
size_of (records output) fit = omega arith
size_of cont fit = omega arith
size_of (progress text) fit = omega arith
size_of (stats text) fit = omega arith
size_of end fit = omega arith
size_of (error code message) fit = simp length-append (omega (arith, fit.0, fit.1))

meant : (event : Event) → event_meant (headers_of event) (payload_of event) ≡ Some event
meant (records output) = refl
meant cont = refl
meant (progress text) = refl
meant (stats text) = refl
meant end = refl
meant (error code message) = refl

pub written : (event : Event) → PartsFit event → IsFrame (frame_of event) event
unfolding frame_of
written event fit =
    record {
      headers = headers_of event;
      payload = payload_of event;
      are_headers = are_headers event fit;
      spelled = refl;
      meant = meant event;
      fits = omega (arith, message-size (print_headers (headers_of event)) (payload_of event), size_of event fit);
    }

pub spelled : (events : List Event) → AllPartsFit events → SpellsEvents (frames_of events) events []
spelled [] fit = refl
spelled (event ∷ events) fit = (
  frames_of events,
  record { frame = frame_of event; joined = refl; is_frame = written event fit.0 },
  spelled events fit.1,
)

pub counts_fit : (c : Counts) → CountsFit c → PartsFit (progress_of c) × PartsFit (stats_of c)
unfolding print_counts print_element opening
counts_fit c fit =
    let scanned : length (decimal c.scanned) ≤ 39 = length_wide c.scanned fit.scanned in
    let processed : length (decimal c.processed) ≤ 39 = length_wide c.processed fit.processed in
    let returned : length (decimal c.returned) ≤ 39 = length_wide c.returned fit.returned in
    (simp length-append (omega arith), simp length-append (omega arith))

in_digits : (b : ℕ) → IsInRange 48 57 b → is_ascii_digit b ≡ true
in_digits b within = rw (le-leb 48 b within.0, le-leb b 57 within.1)

number_written : (n : ℕ) → n < 2 ^ 128 → IsNumber (decimal n) n
number_written n fits =
    let d = decimal_is_IsNumeral_wide n (omega (arith, fits)) in
    record {
      some = d.0.0;
      are_digits = λ k h. in_digits (slice_index (decimal n) k) (digit_at (decimal n) k d.0.1 h);
      value = d.1;
      fits = fits;
    }

-- the text that is written for counts is read as those counts
pub counts_written : (name : List ℕ) (c : Counts) → CountsFit c → ReadsCounts name (counts_text name c) c
counts_written name c fit = record {
  text = record {
    declared = true;
    namespaced = false;
    scanned = decimal c.scanned;
    processed = decimal c.processed;
    returned = decimal c.returned;
  };
  printed = refl;
  spelled = record {
    scanned = number_written c.scanned fit.scanned;
    processed = number_written c.processed fit.processed;
    returned = number_written c.returned fit.returned;
  };
}
