-- Connections in memory: what was handed in, how far it has been used, and what is seen of it.
use Rattle.std.specs.Prelude.{◌≡◌, ℕ, zero, suc, ◌<◌, ◌≤◌, ◌⊎◌, Bool, true, false, if◌then◌else◌, List, [], ◌∷◌, ◌++◌, length, take, drop, None, Some, Result, Ok, Err, slice_index_or}
use Rattle.select_ports.specs.Turns.{Script, IsToFail}
use Rattle.network_ports.specs.Told.{Connection, Connections}
use Rattle.network_ports.specs.Calls.{Dialed, Link}

-- a connection that wasn't there: nothing comes, and it is broken
abbrev pub lost : Connection
lost = record { left = []; came = []; written = []; broke = true }

-- the first so many connections, a lost one for each call past the last
abbrev pub first_begun : ℕ → List Connection → List Connection
first_begun zero cs = []
first_begun (suc n) [] = lost ∷ first_begun n []
first_begun (suc n) (c ∷ cs) = c ∷ first_begun n cs

-- connections in memory
pub record Scripted : Type 0 where
  -- those that were handed in, with what befell them
  pub handed_in : List Connection
  -- how many calls began one, up to 2^64 - 1
  pub begun : ℕ
  pub script : Script

-- the connection that the last of so many calls began, or a lost one
abbrev pub current_of : ℕ → List Connection → Connection
current_of zero cs = lost
current_of (suc n) cs = slice_index_or cs n lost

-- what is told after so many calls that began a connection
abbrev pub told : List Connection → ℕ → Connections
told cs zero = record { earlier = Some []; left = None; came = None; written = None; broke = true }
told cs (suc n) = record {
  earlier = Some (first_begun n cs);
  left = Some (slice_index_or cs n lost).left;
  came = Some (slice_index_or cs n lost).came;
  written = Some (slice_index_or cs n lost).written;
  broke = (slice_index_or cs n lost).broke;
}

-- the connection with this number, changed
abbrev pub changed_at : ℕ → (Connection → Connection) → List Connection → List Connection
changed_at n change [] = []
changed_at zero change (c ∷ cs) = change c ∷ cs
changed_at (suc n) change (c ∷ cs) = c ∷ changed_at n change cs

-- the current connection, changed
abbrev pub changed_current : ℕ → (Connection → Connection) → List Connection → List Connection
changed_current zero change cs = cs
changed_current (suc n) change cs = changed_at n change cs

-- the connection from its beginning, broken where its call failed
abbrev pub anew : Bool → Connection → Connection
anew went c = record { left = c.came ++ c.left; came = []; written = []; broke = if went then false else true }

-- n bytes came
abbrev pub received : ℕ → Connection → Connection
received n c = record c { left = drop n c.left; came = c.came ++ take n c.left }

-- the bytes were written
abbrev pub sent : List ℕ → Connection → Connection
sent bytes c = record c { written = c.written ++ bytes }

-- a call failed
abbrev pub broken : Connection → Connection
broken c = record c { broke = true }

-- what a read makes of the current connection
abbrev pub after_read : {E : Type 0} → Result ℕ E → Connection → Connection
after_read (Ok n) c = received n c
after_read (Err e) c = broken c

-- what a write of the piece makes of it
abbrev pub after_write : {E : Type 0} → List ℕ → Result ℕ E → Connection → Connection
after_write piece (Ok n) c = sent (take n piece) c
after_write piece (Err e) c = broken c

-- the call fails that begins a connection: the script says so, or none is left
abbrev pub FailsToBegin : Scripted → Type 0
FailsToBegin s = IsToFail s.script ⊎ (length s.handed_in ≤ s.begun)

-- there is no current connection: none was begun, or the last call found none
abbrev pub HasNoCurrent : Scripted → Type 0
HasNoCurrent s = (s.begun ≡ 0) ⊎ (length s.handed_in < s.begun)

-- a side that dials, in memory
pub record DialState : Type 0 where
  pub connections : Scripted
  pub faults : ℕ

abbrev pub dialed : DialState → Dialed
dialed s = record { faults = s.faults; dials = s.connections.begun; connections = told s.connections.handed_in s.connections.begun }

-- a side that listens, in memory
pub record ListenState : Type 0 where
  pub connections : Scripted
  pub missed : ℕ
  pub read_faults : ℕ
  pub write_faults : ℕ
  pub ends : ℕ
  pub begun_at : ℕ

abbrev pub link : ListenState → Link
link s = record {
  missed = s.missed;
  read_faults = s.read_faults;
  write_faults = s.write_faults;
  ends = s.ends;
  begun_at = s.begun_at;
  connections = told s.connections.handed_in s.connections.begun;
}
