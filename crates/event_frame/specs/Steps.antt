-- One step of a frame that comes in.
use Rattle.std.specs.Prelude.{◌≡◌, ℕ, ◌≤◌, List, ◌++◌, length, take}
use Rattle.event_frame.specs.Event.{Event}
use Rattle.event_frame.specs.Reading.{IsBegun, IsFrame, IsFaulty}
use Rattle.event_frame.specs.declared.intake.Step.{Step}
use Rattle.event_frame.specs.declared.intake.Step.TheVariants.{Begun, Whole, Faulty}

-- the first bytes of a piece were added
pub record Adds (old piece new : List ℕ) : Type 0 where
  pub count : ℕ
  pub within : count ≤ length piece
  pub joined : new ≡ old ++ take count piece

-- the frame goes on behind the piece, is whole, or shows a fault
abbrev pub Steps : List ℕ → List ℕ → List ℕ → Step → Type 0
Steps old piece new Begun = (new ≡ old ++ piece) × IsBegun new
Steps old piece new Whole = Adds old piece new × ((event : Event) × IsFrame new event)
Steps old piece new (Faulty code place) = Adds old piece new × IsFaulty new code place × (place ≤ length new)
