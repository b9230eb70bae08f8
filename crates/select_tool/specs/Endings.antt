-- What an input of replies means: the events that its bytes spell, and how it ends. A reply is a list of events that ends with an
-- End or Error event.
use Rattle.std.specs.Prelude.{◌≡◌, ℕ, ◌+◌, ◌-◌, ◌^◌, ◌<◌, ◌≤◌, ◌⊎◌, Bool, true, false, List, [], ◌∷◌, length, take, None, Some}
use Rattle.std.specs.List.{list_any}
use Rattle.event_frame.specs.Event.{Event, records, cont, progress, stats, end, error}
use Rattle.event_frame.specs.Stream.{Reads}
use Rattle.event_frame.specs.declared.fault.FrameFaultCode.{FrameFaultCode}

-- the most bytes of an input that are read
abbrev pub longest_input : ℕ
longest_input = 2 ^ 40

-- a reply ends with the event
abbrev pub ends_reply : Event → Bool
ends_reply (records output) = false
ends_reply cont = false
ends_reply (progress payload) = false
ends_reply (stats payload) = false
ends_reply end = true
ends_reply (error code message) = true

abbrev pub is_error : Event → Bool
is_error (records output) = false
is_error cont = false
is_error (progress payload) = false
is_error (stats payload) = false
is_error end = false
is_error (error code message) = true

-- a reply ends with the last of these events, and without any as the flag says
abbrev pub ends_after : Bool → List Event → Bool
ends_after ended [] = ended
ends_after ended (event ∷ events) = ends_after (ends_reply event) events

-- the events are one reply or more: the last one ends a reply
abbrev pub are_replies : List Event → Bool
are_replies events = ends_after false events

-- how an input ends
pub data Ending : Type 0 where
  -- with the last of one reply or more, whole; and whether one of them has an Error event
  replied : Bool → Ending
  -- at this place it goes bad, or ends early
  bad : ℕ → Ending
  -- it has more bytes than are read
  long : Ending

-- the input is replies to its end
pub record IsReplied (input : List ℕ) (events : List Event) (erred : Bool) : Type 0 where
  pub within : length input ≤ longest_input
  pub reads : Reads input events [] None
  pub replies : are_replies events ≡ true
  pub told : erred ≡ list_any is_error events

-- a frame shows a fault at the place, which counts from the input's first byte
pub record GoesBad (input : List ℕ) (events : List Event) (place : ℕ) : Type 0 where
  pub rest : List ℕ
  pub code : FrameFaultCode
  pub at : ℕ
  pub reads : Reads (take longest_input input) events rest (Some (code, at))
  pub placed : place ≡ length (take longest_input input) - length rest + at

-- the input ends inside a frame, inside a reply or before the first one
pub record EndsEarly (input : List ℕ) (events : List Event) (place : ℕ) : Type 0 where
  pub within : length input ≤ longest_input
  pub rest : List ℕ
  pub reads : Reads input events rest None
  pub unfinished : (0 < length rest) ⊎ (are_replies events ≡ false)
  pub placed : place ≡ length input

-- the input goes on behind the bytes that are read, which show no fault
pub record IsLong (input : List ℕ) (events : List Event) : Type 0 where
  pub over : longest_input < length input
  pub rest : List ℕ
  pub reads : Reads (take longest_input input) events rest None

-- the bytes of the input that are read spell these events, and it ends so
abbrev pub EndsWith : List ℕ → List Event → Ending → Type 0
EndsWith input events (replied erred) = IsReplied input events erred
EndsWith input events (bad place) = GoesBad input events place ⊎ EndsEarly input events place
EndsWith input events long = IsLong input events
