-- A reader of frames, as its callers see it.
use Rattle.std.specs.Prelude.{◌≡◌, ℕ, ◌+◌, ◌≤◌, Bool, true, false, List, [], ◌++◌, length, take, Option, None, Some, Result, Ok, Err, if◌then◌else◌}
use Rattle.event_frame.specs.Event.{Event}
use Rattle.event_frame.specs.Reading.{IsBegun, IsFrame, IsFaulty}
use Rattle.event_frame.specs.Shown.{event_shown}
use Rattle.event_frame.specs.declared.event.EventView.{EventView}
use Rattle.event_frame.specs.declared.fault.FrameFault.{FrameFault}

-- the bytes of the current frame that came, how many bytes came in all, whether the frame is whole, and
-- the fault that ended the reading
pub record ReaderState : Type 0 where
  pub kept : List ℕ
  pub taken : ℕ
  pub held : Bool
  pub fault : Option FrameFault

-- the reader before any byte
abbrev pub fresh_reader : ReaderState
fresh_reader = record { kept = []; taken = 0; held = false; fault = None }

-- what holds of every reader: a held frame is one, and what is kept otherwise begins one
pub record IsSound (s : ReaderState) : Type 0 where
  pub counted : length s.kept ≤ s.taken
  pub whole : s.held ≡ true → (event : Event) × IsFrame s.kept event
  pub begun : s.held ≡ false → s.fault ≡ None → IsBegun s.kept

-- the reader took the first n bytes of the piece
pub record Took (old : ReaderState) (piece : List ℕ) (n : ℕ) (new : ReaderState) : Type 0 where
  pub within : n ≤ length piece
  pub kept : new.kept ≡ old.kept ++ take n piece
  pub taken : new.taken ≡ old.taken + n

-- it took all bytes and its frame goes on, or those up to the frame's end
pub record TookOn (old : ReaderState) (piece : List ℕ) (n : ℕ) (new : ReaderState) : Type 0 where
  pub took : Took old piece n new
  pub no_fault : new.fault ≡ None
  pub whole : new.held ≡ true → (event : Event) × IsFrame new.kept event
  pub begun : new.held ≡ false → IsBegun new.kept × (n ≡ length piece)

-- the bytes up to some place show the fault there
pub record ShowsFault (old : ReaderState) (piece : List ℕ) (fault : FrameFault) (new : ReaderState) : Type 0 where
  pub count : ℕ
  pub place : ℕ
  pub took : Took old piece count new
  pub not_held : new.held ≡ false
  pub faulty : IsFaulty new.kept fault.code place
  pub at : fault.at + length old.kept ≡ old.taken + place

-- what `feed` does: an earlier fault stays, a held frame takes nothing, and else the frame goes on
pub record FeedsOn (old : ReaderState) (piece : List ℕ) (n : ℕ) (new : ReaderState) : Type 0 where
  pub no_fault : old.fault ≡ None
  pub held : old.held ≡ true → (n ≡ 0) × (new ≡ old)
  pub begun : old.held ≡ false → TookOn old piece n new

pub record FeedsFault (old : ReaderState) (piece : List ℕ) (fault : FrameFault) (new : ReaderState) : Type 0 where
  pub sticks : new.fault ≡ Some fault
  pub earlier : (f : FrameFault) → old.fault ≡ Some f → (fault ≡ f) × (new ≡ old)
  pub later : old.fault ≡ None → (old.held ≡ false) × ShowsFault old piece fault new

abbrev pub Feeds : ReaderState → List ℕ → Result ℕ FrameFault → ReaderState → Type 0
Feeds old piece (Ok n) new = FeedsOn old piece n new
Feeds old piece (Err fault) new = FeedsFault old piece fault new

-- what `take` lends: the event of the held frame, if one is held
abbrev pub LendsEvent : ReaderState → Option EventView → Type 0
LendsEvent old None = old.held ≡ false
LendsEvent old (Some view) = (old.held ≡ true) × IsFrame old.kept (event_shown view)

-- the reader without its held frame
abbrev pub released : ReaderState → ReaderState
released s = if s.held then record { kept = []; taken = s.taken; held = false; fault = s.fault } else s
