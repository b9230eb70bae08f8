-- A step of writing a text out.
use Rattle.std.specs.Prelude.{◌≡◌, ◌≤◌, ℕ, Bool, List, ◌++◌, length, take}
use Rattle.std.specs.Str.{chars, IsCharBoundary, NonePass}
use Rattle.text_view.specs.Room.{Room}

-- what was to come is now partly in the buffer, behind what was there
pub record WritesFront (old new : Room) (was left : List ℕ) : Type 0 where
  pub bytes : new.bytes ++ left ≡ old.bytes ++ was
  pub room : new.room ≡ old.room
  pub front : take (length old.bytes) new.bytes ≡ old.bytes
  pub fits : length old.bytes ≤ old.room → length new.bytes ≤ new.room

-- no character of the first n bytes passes the test, and the text may be cut behind them
pub record StandsForItself (test : ℕ → Bool) (bytes : List ℕ) (n : ℕ) : Type 0 where
  pub boundary : IsCharBoundary bytes n
  pub own : NonePass test (chars (take n bytes))
