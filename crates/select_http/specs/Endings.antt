-- How the serving of a connection ends, and what is sent by then.
use Rattle.std.specs.Prelude.{◌≡◌, ℕ, suc, ◌-◌, ◌^◌, ◌<◌, ◌≤◌, true, List, ◌++◌, Option, Some}
use Rattle.std.specs.Io.KnownBytes.{Appends, Consumes, IsAtEnd}
use Rattle.select_ports.specs.Causes.{Rose}
use Rattle.select_ports.specs.Stored.{Objects}
use Rattle.network_ports.specs.Calls.{Link}
use Rattle.http_replies.specs.Chunks.{IsMarked}
use Rattle.select_http.specs.Answers.{written_if}
use Rattle.select_http.specs.Exchanges.{Exchanged, IsMessage, IsRefused, IsUnfinished, IsCutShort}
use Rattle.select_http.specs.declared.served.End.{End}
use Rattle.select_http.specs.declared.served.End.TheVariants.{PeerClosed, AskedClose, Refused, Counted, ReadFault, WriteFault, StoreFault, OutOfMemory}
use Rattle.select_http.specs.declared.served.Served.{Served}

-- the link took these bytes from the current connection, and gave it those. The earlier connections and the count of
-- connections that were missed are as they were
pub record Progress (held : Option Objects) (old new : Link) (took wrote : List ℕ) : Type 0 where
  pub left : Consumes old.connections.left new.connections.left took
  pub came : Appends old.connections.came new.connections.came took
  pub written : Appends (written_if held old.connections.written) (written_if held new.connections.written) wrote
  pub earlier : new.connections.earlier ≡ old.connections.earlier
  pub missed : new.missed ≡ old.missed
  pub begun_at : new.begun_at ≡ old.begun_at
  pub write_faults : old.write_faults ≤ new.write_faults

-- a connection on which, where a write failed, it is known to be broken
pub record IsFresh (link : Link) : Type 0 where
  pub begun : link.begun_at ≤ link.write_faults
  pub marked : IsMarked link

-- what was sent for the bytes that came behind the messages after which the connection went on
abbrev pub EndsBy : ℕ → Option Objects → ℕ → List ℕ → List ℕ → End → Type 0
EndsBy longest held number rest sent PeerClosed = IsUnfinished rest sent
EndsBy longest held number rest sent ReadFault = IsUnfinished rest sent
EndsBy longest held number rest sent AskedClose = IsMessage longest held number rest sent (Some AskedClose)
EndsBy longest held number rest sent Counted = IsMessage longest held number rest sent (Some Counted)
EndsBy longest held number rest sent Refused = IsRefused rest sent
EndsBy longest held number rest sent WriteFault = IsCutShort longest held number rest sent
EndsBy longest held number rest sent StoreFault = IsCutShort longest held number rest sent
EndsBy longest held number rest sent OutOfMemory = IsCutShort longest held number rest sent

-- how many replies were sent whole, where it ends at the message of this number
abbrev pub requests_at : ℕ → End → ℕ
requests_at number PeerClosed = number - 1
requests_at number ReadFault = number - 1
requests_at number AskedClose = number
requests_at number Counted = number
requests_at number Refused = number
requests_at number WriteFault = number - 1
requests_at number StoreFault = number - 1
requests_at number OutOfMemory = number - 1

-- what befell the link or the store. A count of failed writes that stands at its largest value tells nothing of one connection
abbrev pub HasCause : Link → Link → ℕ → ℕ → End → Type 0
HasCause old new store_before store_now PeerClosed = Rose old.ends new.ends × IsAtEnd new.connections.left
HasCause old new store_before store_now ReadFault = Rose old.read_faults new.read_faults × (new.connections.broke ≡ true)
HasCause old new store_before store_now AskedClose = Unit {0}
HasCause old new store_before store_now Counted = Unit {0}
HasCause old new store_before store_now Refused = Unit {0}
HasCause old new store_before store_now WriteFault =
    Rose old.write_faults new.write_faults × (new.write_faults < 2 ^ 64 - 1 → new.connections.broke ≡ true)
HasCause old new store_before store_now StoreFault = Rose store_before store_now
HasCause old new store_before store_now OutOfMemory = Unit {0}

-- what came on the connection while it was served, and what was sent: messages with their answers, and what ended it
pub record Serves (longest : ℕ) (held : Option Objects) (old new : Link) (served : Served) : Type 0 where
  pub count : ℕ
  pub came : List ℕ
  pub wrote : List ℕ
  pub exchanged : Exchanged longest held count came wrote
  pub rest : List ℕ
  pub sent : List ℕ
  pub ended : EndsBy longest held (suc count) rest sent served.end
  pub requests : served.requests ≡ requests_at (suc count) served.end
  pub progress : Progress held old new (came ++ rest) (wrote ++ sent)
