-- What a frame's parts are, and what a reader that holds one lends.
use Rattle.std.proofs.Common.{◌≡◌, ℕ, ◌+◌, ◌-◌, ◌^◌, ◌<◌, ◌≤◌, List, ◌++◌, length, take, drop, Option, None, Some, inl, refl, sym, ap, ◌∙◌, arith, append_assoc, length-append}
use Rattle.std.proofs.Math.Seq.{take-append_seam, drop-append_seam}
use Rattle.std.proofs.lemmas.List.{drop-drop}
use Rattle.std.proofs.lemmas.Nat.{from_be_bytes-to_be_bytes_4}
use Rattle.std.specs.Int.{w32, to_be_bytes}
use Rattle.std.specs.Option.{option_map}
use Rattle.event_frame.specs.Crc.{crc_of}
use Rattle.event_frame.specs.Message.{sealed, prelude_of, message_of, print_headers}
use Rattle.event_frame.specs.Event.{Event}
use Rattle.event_frame.specs.Shown.{event_shown}
use Rattle.event_frame.specs.Reading.{number_at, headers_part, payload_part, event_meant, IsFrame}
use Rattle.event_frame.specs.Reader.{IsSound, LendsEvent}
use Rattle.event_frame.specs.ReaderView.{shown}
use Rattle.event_frame.specs.declared.event.EventView.{EventView}
use Rattle.event_frame.specs.declared.reader.State.TheVariants.{Held, Released}
use Rattle.event_frame.proofs.Readings.{Found}

-- what stands behind the prelude
tail_of : List ℕ → List ℕ → List ℕ → List ℕ
tail_of headers payload crc = headers ++ payload ++ crc

message-tail : (headers payload : List ℕ) → (crc : List ℕ) × (length crc ≡ 4) × (drop 12 (message_of headers payload) ≡ headers ++ payload ++ crc)
unfolding message_of sealed prelude_of
message-tail headers payload = (_, refl, refl)

pub message-size : (headers payload : List ℕ) → length (message_of headers payload) ≡ 16 + length headers + length payload
unfolding message_of sealed prelude_of
message-size headers payload =
    let crc : List ℕ = to_be_bytes w32 (crc_of (prelude_of (length headers + length payload + 16) (length headers) ++ headers ++ payload)) in
    let behind : length (message_of headers payload) ≡ 12 + length (headers ++ payload ++ crc) = omega arith in
    omega (arith, length-append (headers ++ payload) crc, length-append headers payload)

pub message-headers_size : (headers payload : List ℕ) → length headers < 2 ^ 32 → number_at (message_of headers payload) 4 ≡ length headers
unfolding message_of sealed prelude_of number_at
message-headers_size headers payload small = from_be_bytes-to_be_bytes_4 (length headers) small

pub message-total : (headers payload : List ℕ) → length headers + length payload + 16 < 2 ^ 32
    → number_at (message_of headers payload) 0 ≡ length headers + length payload + 16
unfolding message_of sealed prelude_of number_at
message-total headers payload small = from_be_bytes-to_be_bytes_4 (length headers + length payload + 16) small

-- the parts of a message
pub record Parts (bytes headers payload : List ℕ) : Type 0 where
  pub size : length bytes ≡ 16 + length headers + length payload
  pub headers_size : number_at bytes 4 ≡ length headers
  pub total : number_at bytes 0 ≡ length bytes
  pub headers_is : headers_part bytes ≡ headers
  pub payload_is : payload_part bytes ≡ payload

pub message-parts : (bytes headers payload : List ℕ) → bytes ≡ message_of headers payload → length bytes ≤ 16777216 → Parts bytes headers payload
message-parts bytes headers payload is small =
    let size : length bytes ≡ 16 + length headers + length payload = ap length is ∙ message-size headers payload in
    let headers_size : number_at bytes 4 ≡ length headers =
    ap (λ (l : List ℕ). number_at l 4) is ∙ message-headers_size headers payload (omega arith) in
    let total : number_at bytes 0 ≡ length headers + length payload + 16 =
    ap (λ (l : List ℕ). number_at l 0) is ∙ message-total headers payload (omega arith) in
    let t = message-tail headers payload in
    let crc : List ℕ = t.0 in
    let behind : drop 12 bytes ≡ headers ++ payload ++ crc = ap (drop 12) is ∙ t.2 in
    let apart : drop 12 bytes ≡ headers ++ (payload ++ crc) = behind ∙ append_assoc headers payload crc in
    let after : drop (12 + number_at bytes 4) bytes ≡ payload ++ crc =
    sym (drop-drop (number_at bytes 4) 12 bytes) ∙ ap (drop (number_at bytes 4)) apart ∙ ap (λ n. drop n (headers ++ (payload ++ crc))) headers_size
    ∙ drop-append_seam headers (payload ++ crc) in
    let rest : length bytes - 4 - (12 + number_at bytes 4) ≡ length payload = omega arith in
    record {
      size = size;
      headers_size = headers_size;
      total = omega arith;
      headers_is = ap (λ n. take n (drop 12 bytes)) headers_size ∙ ap (take (length headers)) apart ∙ take-append_seam headers (payload ++ crc);
      payload_is = ap (λ n. take n (drop (12 + number_at bytes 4) bytes)) rest ∙ ap (take (length payload)) after ∙ take-append_seam payload crc;
    }

pub frame-parts : (bytes : List ℕ) (event : Event) (f : IsFrame bytes event) → Parts bytes (print_headers f.headers) f.payload
frame-parts bytes event f = message-parts bytes (print_headers f.headers) f.payload f.spelled f.fits

pub frame-room : (bytes : List ℕ) (event : Event) → IsFrame bytes event → 16 + number_at bytes 4 ≤ length bytes
frame-room bytes event f = omega (arith, (frame-parts bytes event f).size, (frame-parts bytes event f).headers_size)

-- the event that is lent is the frame's
pub lends : (items headers payload : List ℕ) (taken : ℕ) (event : Event) (found : Option EventView) → IsFrame items event
    → headers ≡ headers_part items → payload ≡ payload_part items → Found headers payload found → LendsEvent (shown Held items taken) found
lends items headers payload taken event found f headers_is payload_is meant =
    let p = frame-parts items event f in
    let known : option_map event_shown found ≡ Some event =
    meant f.headers f.are_headers (headers_is ∙ p.headers_is) ∙ ap (event_meant f.headers) (payload_is ∙ p.payload_is) ∙ f.meant in
    go found known
  where
    go : (o : Option EventView) → option_map event_shown o ≡ Some event → LendsEvent (shown Held items taken) o
    go None e = absurd (cc)
    go (Some view) e = (
      refl,
      record {
        headers = f.headers;
        payload = f.payload;
        are_headers = f.are_headers;
        spelled = f.spelled;
        meant = f.meant ∙ sym e;
        fits = f.fits;
      },
    )

-- a reader whose frame goes is sound
pub released_sound : (items : List ℕ) (taken : ℕ) → IsSound (shown Released items taken)
released_sound items taken =
    record {
      counted = omega arith;
      whole = λ e. absurd (cc);
      begun = λ e n. inl (omega arith);
    }
