-- The connections of a network object, as far as they are told, and what its calls say of them.
use Rattle.std.specs.Prelude.{◌≡◌, ℕ, ◌+◌, ◌-◌, ◌^◌, Bool, true, false, nat_lt, if◌then◌else◌, List, [], ◌∷◌, ◌++◌, length, take, Option, Some, is_some, Result, is_ok, MatchResult, IsSome, IsNone, IsErr}
use Rattle.std.specs.Option.{option_map}
use Rattle.std.specs.Io.KnownBytes.{Appends, ReadConsumes, WriteAppends}

-- a connection: the bytes still to come, those that came, those that were written, and whether a call on it failed
pub record Connection : Type 0 where
  pub left : List ℕ
  pub came : List ℕ
  pub written : List ℕ
  pub broke : Bool

-- the connections that were begun: those before the current one, the parts of the current one, and whether a call on it
-- failed. Parts that aren't told are None, and so are those of the current one where there is none, which counts as broken
pub record Connections : Type 0 where
  pub earlier : Option (List Connection)
  pub left : Option (List ℕ)
  pub came : Option (List ℕ)
  pub written : Option (List ℕ)
  pub broke : Bool

-- the current connection, where it is told: a list of one, or of none
abbrev pub listed : Option (List ℕ) → Option (List ℕ) → Option (List ℕ) → Bool → List Connection
listed (Some left) (Some came) (Some written) broke = record { left = left; came = came; written = written; broke = broke } ∷ []
listed left came written broke = []

-- the list of connections stands still where it has as many as a count of 64 bits can tell
abbrev pub most_connections : ℕ
most_connections = 2 ^ 64 - 1

-- the connections before the current one, and then that one
abbrev pub with_current : List Connection → List Connection → List Connection
with_current earlier current = if nat_lt (length earlier + 1) most_connections then earlier ++ current else earlier

-- all connections that were begun, the current one last
abbrev pub all_begun : Connections → Option (List Connection)
all_begun c = option_map (λ earlier. with_current earlier (listed c.left c.came c.written c.broke)) c.earlier

-- whether the connection is broken after a call: a call that fails breaks it
abbrev pub broke_after : {A E : Type 0} → Bool → Result A E → Bool
broke_after before result = if is_ok result then before else true

-- a connection was begun, in place of the one before it, which is now the last of the earlier ones. Nothing came on it and
-- nothing was written, and it broke where the call failed
pub record Begins {A E : Type 0} (old new : Connections) (result : Result A E) : Type 0 where
  pub earlier : new.earlier ≡ all_begun old
  pub left : is_some new.left ≡ is_some old.earlier
  pub came : new.came ≡ option_map (λ _. []) old.earlier
  pub written : new.written ≡ option_map (λ _. []) old.earlier
  pub broke : new.broke ≡ (if is_ok result then false else true)

-- the connections are told, and none was begun
abbrev pub HasNone : Connections → Type 0
HasNone c = IsSome c.earlier × IsNone c.left

-- bytes of the current connection came into the buffer's front: as of an input, with no byte only at the end; where there is
-- no connection the call fails
pub record Receives {E : Type 0} (old new : Connections) (result : Result ℕ E) (buffer : List ℕ) : Type 0 where
  pub left : ReadConsumes old.left new.left result buffer
  pub came : MatchResult result (λ n. Appends old.came new.came (take n buffer)) (λ _. new.came ≡ old.came)
  pub written : new.written ≡ old.written
  pub earlier : new.earlier ≡ old.earlier
  pub broke : new.broke ≡ broke_after old.broke result
  pub none : HasNone old → IsErr result

-- a front of the piece was written to the current connection, as to an output; where there is no connection the call fails
pub record Sends {E : Type 0} (old new : Connections) (result : Result ℕ E) (piece : List ℕ) : Type 0 where
  pub written : WriteAppends old.written new.written result piece
  pub left : new.left ≡ old.left
  pub came : new.came ≡ old.came
  pub earlier : new.earlier ≡ old.earlier
  pub broke : new.broke ≡ broke_after old.broke result
  pub none : HasNone old → IsErr result
