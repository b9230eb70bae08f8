-- Runs: the calls of a reader's `feed` and `take`, one after the other, and what they show of the stream.
use Rattle.std.specs.Prelude.{◌≡◌, ℕ, ◌+◌, true, false, List, [], ◌∷◌, ◌++◌, length, take, Option, None, Some, Result, Ok, Err}
use Rattle.event_frame.specs.Event.{Event}
use Rattle.event_frame.specs.Reading.{IsBegun, IsFrame}
use Rattle.event_frame.specs.Reader.{ReaderState, IsSound, Feeds, released}
use Rattle.event_frame.specs.Stream.{SpellsEvents, Reads}
use Rattle.event_frame.specs.declared.fault.FrameFault.{FrameFault}

-- a call with its answer: `feed` of a piece, and `take` with the event that it lent
pub data Call : Type 0 where
  fed : List ℕ → Result ℕ FrameFault → Call
  took : Option Event → Call

-- what `take` does
abbrev pub Takes : ReaderState → Option Event → ReaderState → Type 0
Takes old None new = (old.held ≡ false) × (new ≡ released old)
Takes old (Some event) new = (old.held ≡ true) × IsFrame old.kept event × (new ≡ released old)

-- what the call does
abbrev pub Does : Call → ReaderState → ReaderState → Type 0
Does (fed piece result) old new = Feeds old piece result new
Does (took event) old new = Takes old event new

-- one call, and then a run from what it left
pub record Goes (call : Call) (old : ReaderState) (later : ReaderState → Type 0) : Type 0 where
  pub middle : ReaderState
  pub does : Does call old middle
  pub sound : IsSound middle
  pub rest : later middle

-- the calls lead from one state to the other
abbrev pub IsRun : ReaderState → List Call → ReaderState → Type 0
IsRun old [] new = new ≡ old
IsRun old (call ∷ calls) new = Goes call old (λ middle. IsRun middle calls new)

-- the bytes that were taken, but for those of a piece that showed a fault
abbrev pub taken_bytes : List Call → List ℕ
taken_bytes [] = []
taken_bytes (fed piece (Ok n) ∷ calls) = take n piece ++ taken_bytes calls
taken_bytes (fed piece (Err fault) ∷ calls) = taken_bytes calls
taken_bytes (took event ∷ calls) = taken_bytes calls

-- the events that were lent
abbrev pub lent_events : List Call → List Event
lent_events [] = []
lent_events (fed piece result ∷ calls) = lent_events calls
lent_events (took None ∷ calls) = lent_events calls
lent_events (took (Some event) ∷ calls) = event ∷ lent_events calls

-- the bytes taken are frames of the events lent, and then what is kept: a whole frame, or the front of one
pub record ReadsSoFar (calls : List Call) (new : ReaderState) : Type 0 where
  pub spelled : SpellsEvents (taken_bytes calls) (lent_events calls) new.kept
  pub counted : new.taken ≡ length (taken_bytes calls)
  pub whole : new.held ≡ true → (event : Event) × IsFrame new.kept event
  pub begun : new.held ≡ false → IsBegun new.kept

-- the bytes taken and this piece behind them are frames of the events lent, and then a rest that shows the fault, whose place counts
-- from the first byte of all
pub record ShowsThere (calls : List Call) (piece : List ℕ) (fault : FrameFault) : Type 0 where
  pub rest : List ℕ
  pub place : ℕ
  pub reads : Reads (taken_bytes calls ++ piece) (lent_events calls) rest (Some (fault.code, place))
  pub placed : fault.at + length rest ≡ length (taken_bytes calls ++ piece) + place
