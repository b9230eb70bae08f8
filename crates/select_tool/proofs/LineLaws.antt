-- Texts of an event: how they are printed, and how long they are.
use Rattle.std.proofs.Common.{◌≡◌, ℕ, ◌+◌, ◌<◌, List, [], ◌∷◌, ◌++◌, length, take, get_or, Bool, true, false, cond, Option, None, Some, refl, sym, ap, ◌∙◌, subst, arith, append_assoc}
use Rattle.std.specs.Prelude.{codes, unwrap_or, option_and_then}
use Rattle.std.specs.Option.{option_map}
use Rattle.std.specs.Str.{bytes_eq}
use Rattle.std.proofs.lemmas.List.{map_more}
use Rattle.event_frame.specs.Message.{Header}
use Rattle.event_frame.specs.Event.{Event, records, cont, progress, stats, end, error}
use Rattle.event_frame.specs.Reading.{AreHeaders, value_of, event_named, error_meant, event_typed, IsFrame}
use Rattle.select_tool.specs.Lines.{printable, printed, HasShortTexts}

-- one more byte was printed
pub printed_more : (start before now text : List ℕ) (i shown : ℕ) → i < length text → shown ≡ printable (get_or text i 0)
    → before ≡ start ++ printed (take i text) → now ≡ before ++ shown ∷ [] → now ≡ start ++ printed (take (i + 1) text)
unfolding printed
printed_more start before now text i shown within is front added =
    added ∙ ap (λ l. l ++ shown ∷ []) front ∙ append_assoc start (printed (take i text)) (shown ∷ [])
    ∙ ap (λ l. start ++ l) (ap (λ s. printed (take i text) ++ s ∷ []) is ∙ sym (map_more printable text i 0 within))

-- ---- texts are no longer than a header's value

same_some : {A : Type 0} (x y : A) → Some x ≡ Some y → x ≡ y
same_some x y e = cc

chosen_small : (b : Bool) (own value : List ℕ) (rest : Option (List ℕ)) → length own < 65536 → (rest ≡ Some value → length value < 65536)
    → cond b (Some own) rest ≡ Some value → length value < 65536
chosen_small true own value rest small later is = subst (λ (l : List ℕ). length l < 65536) (same_some own value is) small
chosen_small false own value rest small later is = later is

value_small : (name : List ℕ) (headers : List Header) (value : List ℕ) → AreHeaders headers → value_of name headers ≡ Some value → length value < 65536
value_small name [] value are is = absurd (none_is value is)
  where
    none_is : (value : List ℕ) → None ≡ Some value → ⊥
    none_is value e = cc
value_small name (h ∷ headers) value are is =
    chosen_small (bytes_eq h.name name) h.value value (value_of name headers) are.0.value_fits (value_small name headers value are.2) is

or_none_small : (name : List ℕ) (headers : List Header) → AreHeaders headers → (found : Option (List ℕ)) → value_of name headers ≡ found
    → length (unwrap_or found []) < 65536
or_none_small name headers are None is = omega arith
or_none_small name headers are (Some value) is = value_small name headers value are is

short_of : (event other : Event) → Some event ≡ Some other → HasShortTexts event → HasShortTexts other
short_of event other is short = subst HasShortTexts (same_some event other is) short

none_short : (event : Event) → None ≡ Some event → HasShortTexts event
none_short event is = absurd (cc)

named_short : (a b c d e : Bool) (payload : List ℕ) (event : Event)
    → cond a (Some (records payload)) (cond b (Some cont) (cond c (Some (progress payload)) (cond d (Some (stats payload)) (cond e (Some end) None)))) ≡ Some event
    → HasShortTexts event
named_short true b c d e payload event is = short_of (records payload) event is tt
named_short false true c d e payload event is = short_of cont event is tt
named_short false false true d e payload event is = short_of (progress payload) event is tt
named_short false false false true e payload event is = short_of (stats payload) event is tt
named_short false false false false true payload event is = short_of end event is tt
named_short false false false false false payload event is = none_short event is

event_named-short : (kind payload : List ℕ) (event : Event) → event_named kind payload ≡ Some event → HasShortTexts event
event_named-short kind payload event is =
    named_short (bytes_eq kind (codes "Records")) (bytes_eq kind (codes "Cont")) (bytes_eq kind (codes "Progress")) (bytes_eq kind (codes "Stats"))
    (bytes_eq kind (codes "End")) payload event is

error_short : (headers : List Header) (event : Event) (code : Option (List ℕ)) → AreHeaders headers → value_of (codes ":error-code") headers ≡ code
    → option_map (λ code. error code (unwrap_or (value_of (codes ":error-message") headers) [])) code ≡ Some event → HasShortTexts event
error_short headers event None are found is = none_short event is
error_short headers event (Some code) are found is =
    short_of (error code (unwrap_or (value_of (codes ":error-message") headers) [])) event is
    (value_small (codes ":error-code") headers code are found, or_none_small (codes ":error-message") headers are (value_of (codes ":error-message") headers) refl)

type_short : (name : Option (List ℕ)) (payload : List ℕ) (event : Event) → option_and_then (λ name. event_named name payload) name ≡ Some event → HasShortTexts event
type_short None payload event is = none_short event is
type_short (Some name) payload event is = event_named-short name payload event is

typed_short : (is_event is_error : Bool) (headers : List Header) (payload : List ℕ) (event : Event) → AreHeaders headers
    → cond is_event (option_and_then (λ name. event_named name payload) (value_of (codes ":event-type") headers)) (cond is_error (error_meant headers) None) ≡ Some event
    → HasShortTexts event
typed_short true is_error headers payload event are is = type_short (value_of (codes ":event-type") headers) payload event is
typed_short false true headers payload event are is = error_short headers event (value_of (codes ":error-code") headers) are refl is
typed_short false false headers payload event are is = none_short event is

meant_short : (kind : Option (List ℕ)) (headers : List Header) (payload : List ℕ) (event : Event) → AreHeaders headers
    → option_and_then (λ kind. event_typed kind headers payload) kind ≡ Some event → HasShortTexts event
meant_short None headers payload event are is = none_short event is
meant_short (Some kind) headers payload event are is =
    typed_short (bytes_eq kind (codes "event")) (bytes_eq kind (codes "error")) headers payload event are is

-- the texts of a frame's event
pub frame_short : (bytes : List ℕ) (event : Event) → IsFrame bytes event → HasShortTexts event
frame_short bytes event frame = meant_short (value_of (codes ":message-type") frame.headers) frame.headers frame.payload event frame.are_headers frame.meant
