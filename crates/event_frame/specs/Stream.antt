-- A stream of frames: the events that its bytes spell, and what stands behind the last whole frame.
use Rattle.std.specs.Prelude.{◌≡◌, ℕ, ◌≤◌, List, [], ◌∷◌, ◌++◌, length, Option, None, Some, ⊤}
use Rattle.event_frame.specs.Event.{Event, records, cont, progress, stats, end, error, frame_of}
use Rattle.event_frame.specs.Reading.{IsBegun, IsFrame, IsFaulty}
use Rattle.event_frame.specs.declared.fault.FrameFaultCode.{FrameFaultCode}

-- a front of the bytes shows the fault at this place
pub record HasFaultyFront (bytes : List ℕ) (code : FrameFaultCode) (place : ℕ) : Type 0 where
  pub front : List ℕ
  pub more : List ℕ
  pub joined : bytes ≡ front ++ more
  pub faulty : IsFaulty front code place

-- the bytes begin a frame, or show a fault
abbrev pub EndsIn : List ℕ → Option (FrameFaultCode × ℕ) → Type 0
EndsIn bytes None = IsBegun bytes
EndsIn bytes (Some fault) = HasFaultyFront bytes fault.0 fault.1

-- a frame of the event stands at the front, and then the rest
pub record HasFrame (bytes : List ℕ) (event : Event) (rest : List ℕ) : Type 0 where
  pub frame : List ℕ
  pub joined : bytes ≡ frame ++ rest
  pub is_frame : IsFrame frame event

-- frames of the events, one after the other, and then the rest
abbrev pub SpellsEvents : List ℕ → List Event → List ℕ → Type 0
SpellsEvents bytes [] rest = bytes ≡ rest
SpellsEvents bytes (event ∷ events) rest = (behind : List ℕ) × HasFrame bytes event behind × SpellsEvents behind events rest

-- the parts of an event fit the frame that is written for it: a payload has at most 65,536 bytes, a
-- code and a message at most 256
abbrev pub PartsFit : Event → Type 0
PartsFit (records output) = length output ≤ 65536
PartsFit cont = ⊤
PartsFit (progress text) = length text ≤ 65536
PartsFit (stats text) = length text ≤ 65536
PartsFit end = ⊤
PartsFit (error code message) = (length code ≤ 256) × (length message ≤ 256)

abbrev pub AllPartsFit : List Event → Type 0
AllPartsFit [] = ⊤
AllPartsFit (event ∷ events) = PartsFit event × AllPartsFit events

-- the frames that are written for the events, one after the other
abbrev pub frames_of : List Event → List ℕ
frames_of [] = []
frames_of (event ∷ events) = frame_of event ++ frames_of events

-- the bytes spell the events and end so
pub record Reads (bytes : List ℕ) (events : List Event) (rest : List ℕ) (fault : Option (FrameFaultCode × ℕ)) : Type 0 where
  pub spelled : SpellsEvents bytes events rest
  pub ended : EndsIn rest fault

-- two readings of the same bytes are one
pub record IsSameReading (events events' : List Event) (rest rest' : List ℕ) (fault fault' : Option (FrameFaultCode × ℕ)) : Type 0 where
  pub same_events : events ≡ events'
  pub same_rest : rest ≡ rest'
  pub same_fault : fault ≡ fault'
