-- Bytes that are added to a buffer of fixed room.
use Rattle.std.specs.Prelude.{◌≡◌, ◌+◌, ◌≤◌, ℕ, List, ◌++◌, length, take, Result, IsOk, OnOk, OnErr, ◌↔◌}
use Rattle.text_view.specs.Room.{Room}
use Rattle.text_view.specs.declared.output.Full.{Full}

-- the bytes were added, or they don't fit and some front of them may have been
pub record Appends (result : Result (Unit {0}) Full) (old new : Room) (bytes : List ℕ) : Type 0 where
  pub fits : IsOk result ↔ (length old.bytes + length bytes ≤ old.room)
  pub ok : OnOk result (new ≡ record old { bytes = old.bytes ++ bytes })
  pub kept : OnErr result (record new { bytes = take (length old.bytes) new.bytes } ≡ old)

-- a front of what was to come was added, and the rest is left
pub record Adds (old new : Room) (was left : List ℕ) : Type 0 where
  pub front : List ℕ
  pub added : new ≡ record old { bytes = old.bytes ++ front }
  pub whole : was ≡ front ++ left
