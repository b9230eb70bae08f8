-- All of some bytes sent over the current connection of a side that listens.
use Rattle.std.specs.Prelude.{◌≡◌, ℕ, List, Option, Result}
use Rattle.select_ports.specs.Streams.{AddsAll}
use Rattle.network_ports.specs.Told.{Connection, broke_after}
use Rattle.network_ports.specs.Calls.{Link, CountsErr}

-- what no write changes: all but the bytes written, the failed writes, and whether the connection broke
pub record Apart : Type 0 where
  pub missed : ℕ
  pub read_faults : ℕ
  pub ends : ℕ
  pub begun_at : ℕ
  pub earlier : Option (List Connection)
  pub left : Option (List ℕ)
  pub came : Option (List ℕ)

abbrev pub apart : Link → Apart
apart l = record {
  missed = l.missed;
  read_faults = l.read_faults;
  ends = l.ends;
  begun_at = l.begun_at;
  earlier = l.connections.earlier;
  left = l.connections.left;
  came = l.connections.came;
}

-- at `Ok` all bytes were written, at `Err` a front of them
pub record SendsAll {A E : Type 0} (old new : Link) (result : Result A E) (bytes : List ℕ) : Type 0 where
  pub written : AddsAll old.connections.written new.connections.written result bytes
  pub apart_kept : apart new ≡ apart old
  pub write_faults : CountsErr old.write_faults new.write_faults result
  pub broke : new.connections.broke ≡ broke_after old.connections.broke result
