-- What the calls of a side that dials and of a side that listens say of their counts and connections.
use Rattle.std.specs.Prelude.{◌≡◌, ℕ, ◌≤◌, ◌==◌, ◌&&◌, Bool, nat_lt, if◌then◌else◌, List, length, Result, MatchResult}
use Rattle.select_ports.specs.Causes.{Rose, RoseBy}
use Rattle.select_ports.specs.Turns.{next_count}
use Rattle.network_ports.specs.Told.{Connections, Begins, Receives, Sends}

-- a count of failures: it rose at `Err`, stays at `Ok`, and never falls
pub record CountsErr {A E : Type 0} (before now : ℕ) (result : Result A E) : Type 0 where
  pub kept : before ≤ now
  pub counted : MatchResult result (λ _. now ≡ before) (λ _. Rose before now)

-- what is seen of a side that dials
pub record Dialed : Type 0 where
  -- how many calls have failed
  pub faults : ℕ
  -- how many calls of `dial` there were
  pub dials : ℕ
  pub connections : Connections

pub record Dials {A E : Type 0} (old new : Dialed) (result : Result A E) : Type 0 where
  pub faults : CountsErr old.faults new.faults result
  pub dials : RoseBy 1 old.dials new.dials
  pub connections : Begins old.connections new.connections result

pub record DialReceives {E : Type 0} (old new : Dialed) (result : Result ℕ E) (buffer : List ℕ) : Type 0 where
  pub faults : CountsErr old.faults new.faults result
  pub dials : new.dials ≡ old.dials
  pub connections : Receives old.connections new.connections result buffer

pub record DialSends {E : Type 0} (old new : Dialed) (result : Result ℕ E) (piece : List ℕ) : Type 0 where
  pub faults : CountsErr old.faults new.faults result
  pub dials : new.dials ≡ old.dials
  pub connections : Sends old.connections new.connections result piece

-- what is seen of a side that listens
pub record Link : Type 0 where
  -- how many calls of `next` have failed
  pub missed : ℕ
  -- how many reads have failed
  pub read_faults : ℕ
  -- how many writes have failed
  pub write_faults : ℕ
  -- how many reads have found a connection's end
  pub ends : ℕ
  -- how many writes had failed when the current connection began
  pub begun_at : ℕ
  pub connections : Connections

-- a read of no byte into a buffer that isn't empty found the end
abbrev pub finds_end : ℕ → List ℕ → Bool
finds_end n buffer = (n == 0) && nat_lt 0 (length buffer)

-- the count of ends rises at a read that found one, and at nothing else
abbrev pub CountsEnd : {E : Type 0} → ℕ → ℕ → Result ℕ E → List ℕ → Type 0
CountsEnd before now result buffer =
    MatchResult result (λ n. now ≡ (if finds_end n buffer then next_count before else before)) (λ _. now ≡ before)

pub record Accepts {A E : Type 0} (old new : Link) (result : Result A E) : Type 0 where
  pub missed : CountsErr old.missed new.missed result
  pub read_faults : new.read_faults ≡ old.read_faults
  pub write_faults : new.write_faults ≡ old.write_faults
  pub ends : new.ends ≡ old.ends
  pub begun_at : new.begun_at ≡ old.write_faults
  pub connections : Begins old.connections new.connections result

pub record LinkReceives {E : Type 0} (old new : Link) (result : Result ℕ E) (buffer : List ℕ) : Type 0 where
  pub missed : new.missed ≡ old.missed
  pub read_faults : CountsErr old.read_faults new.read_faults result
  pub write_faults : new.write_faults ≡ old.write_faults
  pub ends : CountsEnd old.ends new.ends result buffer
  pub begun_at : new.begun_at ≡ old.begun_at
  pub connections : Receives old.connections new.connections result buffer

pub record LinkSends {E : Type 0} (old new : Link) (result : Result ℕ E) (piece : List ℕ) : Type 0 where
  pub missed : new.missed ≡ old.missed
  pub read_faults : new.read_faults ≡ old.read_faults
  pub write_faults : CountsErr old.write_faults new.write_faults result
  pub ends : new.ends ≡ old.ends
  pub begun_at : new.begun_at ≡ old.begun_at
  pub connections : Sends old.connections new.connections result piece
