-- Bytes of the current connection that came, while nothing else befell it.
use Rattle.std.specs.Prelude.{◌≡◌, ℕ, ◌<◌, ◌++◌, true, List, length}
use Rattle.std.specs.Io.KnownBytes.{Appends, Consumes, IsAtEnd}
use Rattle.select_ports.specs.Causes.{Rose}
use Rattle.network_ports.specs.Calls.{Link}
use Rattle.httparse.specs.Grammar.{HasNoRequest}
use Rattle.http_intake.specs.Heads.{judged, most_head, RefusesHead}
use Rattle.http_intake.specs.declared.halt.Halt.{Halt}
use Rattle.http_intake.specs.declared.halt.Halt.TheVariants.{Closed, Refused, ReadFault, OutOfMemory}

-- these bytes came: what was written, the earlier connections and the counts of other calls are as they were
pub record Came (old new : Link) (bytes : List ℕ) : Type 0 where
  pub left : Consumes old.connections.left new.connections.left bytes
  pub came : Appends old.connections.came new.connections.came bytes
  pub written : new.connections.written ≡ old.connections.written
  pub earlier : new.connections.earlier ≡ old.connections.earlier
  pub missed : new.missed ≡ old.missed
  pub write_faults : new.write_faults ≡ old.write_faults
  pub begun_at : new.begun_at ≡ old.begun_at

-- no read failed, and none found the end
pub record IsWell (old new : Link) : Type 0 where
  pub read_faults : new.read_faults ≡ old.read_faults
  pub ends : new.ends ≡ old.ends
  pub broke : new.connections.broke ≡ old.connections.broke

-- the bytes that came stand behind those that were kept
pub record Comes (old new : Link) (before now : List ℕ) : Type 0 where
  pub bytes : List ℕ
  pub came : Came old new bytes
  pub kept : now ≡ before ++ bytes
  pub well : IsWell old new

-- a read found the end behind the bytes that came: nothing is left of a connection that is told
pub record Ends (old new : Link) (before now : List ℕ) : Type 0 where
  pub bytes : List ℕ
  pub came : Came old new bytes
  pub kept : now ≡ before ++ bytes
  pub read_faults : new.read_faults ≡ old.read_faults
  pub broke : new.connections.broke ≡ old.connections.broke
  pub rose : Rose old.ends new.ends
  pub left : IsAtEnd new.connections.left

-- a read failed behind the bytes that came
pub record Fails (old new : Link) (before now : List ℕ) : Type 0 where
  pub bytes : List ℕ
  pub came : Came old new bytes
  pub kept : now ≡ before ++ bytes
  pub ends : new.ends ≡ old.ends
  pub broke : new.connections.broke ≡ true
  pub rose : Rose old.read_faults new.read_faults

-- memory was refused: what came last is lost
pub record Loses (old new : Link) : Type 0 where
  pub bytes : List ℕ
  pub came : Came old new bytes
  pub well : IsWell old new

-- why no whole message came, and what befell the connection
abbrev pub Halts : Link → Link → List ℕ → List ℕ → Halt → Type 0
Halts old new before now Closed = Ends old new before now
Halts old new before now (Refused refusal) = Comes old new before now × RefusesHead now refusal
Halts old new before now ReadFault = Fails old new before now
Halts old new before now OutOfMemory = Loses old new

-- a read that failed or gave nothing leaves what was kept, and refuses nothing
abbrev pub LeavesKept : List ℕ → List ℕ → Halt → Type 0
LeavesKept before now Closed = now ≡ before
LeavesKept before now (Refused refusal) = ⊥
LeavesKept before now ReadFault = now ≡ before
LeavesKept before now OutOfMemory = now ≡ before

-- no head stands in front, and one may still come
abbrev pub HasNoHeadYet : List ℕ → Type 0
HasNoHeadYet kept = (length kept < most_head) × HasNoRequest (judged kept)

-- where no head was waited for to its end, none is there
abbrev pub LacksHead : List ℕ → Halt → Type 0
LacksHead kept Closed = HasNoHeadYet kept
LacksHead kept (Refused refusal) = Unit {0}
LacksHead kept ReadFault = HasNoHeadYet kept
LacksHead kept OutOfMemory = HasNoHeadYet kept

-- where a body wasn't waited for to its end, some of it is wanting. No body is refused
abbrev pub LacksBody : ℕ → List ℕ → Halt → Type 0
LacksBody len kept Closed = length kept < len
LacksBody len kept (Refused refusal) = ⊥
LacksBody len kept ReadFault = length kept < len
LacksBody len kept OutOfMemory = length kept < len

-- nothing was read
pub record Rests (old new : Link) (before now : List ℕ) : Type 0 where
  pub link : new ≡ old
  pub kept : now ≡ before
