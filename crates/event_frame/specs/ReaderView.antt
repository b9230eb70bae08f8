-- How the fields of a reader show its state.
use Rattle.std.specs.Prelude.{ℕ, ◌≤◌, Bool, true, false, List, [], Option, None, Some, vec_capacity}
use Rattle.event_frame.specs.Reader.{ReaderState, IsSound}
use Rattle.event_frame.specs.declared.fault.FrameFault.{FrameFault}
use Rattle.event_frame.specs.declared.reader.State.{State}
use Rattle.event_frame.specs.declared.reader.State.TheVariants.{Reading, Held, Released, Faulty}
use Rattle.event_frame.specs.declared.reader.FrameReader.TheInside.{Inside}

-- a released frame isn't kept, though its bytes are still lent
abbrev pub kept_of : State → List ℕ → List ℕ
kept_of Reading items = items
kept_of Held items = items
kept_of Released items = []
kept_of (Faulty fault) items = items

abbrev pub held_of : State → Bool
held_of Reading = false
held_of Held = true
held_of Released = false
held_of (Faulty fault) = false

abbrev pub fault_of : State → Option FrameFault
fault_of Reading = None
fault_of Held = None
fault_of Released = None
fault_of (Faulty fault) = Some fault

-- what a reader in this state shows of its buffer
abbrev pub shown : State → List ℕ → ℕ → ReaderState
shown state items taken = record { kept = kept_of state items; taken = taken; held = held_of state; fault = fault_of state }

abbrev pub state_of : Inside → ReaderState
state_of a = shown a.state a.buffer.items a.taken

pub record IsConsistent (a : Inside) : Type 0 where
  pub room : 16777216 ≤ vec_capacity a.buffer
  pub places_room : 3355440 ≤ vec_capacity a.places
  pub sound : IsSound (state_of a)
