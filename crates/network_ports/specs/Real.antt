-- The values of the forms over TCP, which tell nothing of what their connections hold.
use Rattle.std.specs.Prelude.{ℕ, Bool, List, None}
use Rattle.network_ports.specs.Told.{Connections}
use Rattle.network_ports.specs.Calls.{Dialed, Link}

-- of connections that aren't told only whether the current one broke
abbrev pub untold : Bool → Connections
untold broke = record { earlier = None; left = None; came = None; written = None; broke = broke }

-- a side that dials
pub record SocketDial : Type 0 where
  -- the bytes of the address
  pub address : List ℕ
  -- whether there is a connection
  pub connected : Bool
  pub broke : Bool
  pub faults : ℕ
  pub dials : ℕ

abbrev pub dialed : SocketDial → Dialed
dialed s = record { faults = s.faults; dials = s.dials; connections = untold s.broke }

-- a side that listens
pub record SocketListen : Type 0 where
  -- whether its address is bound
  pub bound : Bool
  -- whether there is a connection
  pub connected : Bool
  pub broke : Bool
  pub missed : ℕ
  pub read_faults : ℕ
  pub write_faults : ℕ
  pub ends : ℕ
  pub begun_at : ℕ

abbrev pub link : SocketListen → Link
link s = record {
  missed = s.missed;
  read_faults = s.read_faults;
  write_faults = s.write_faults;
  ends = s.ends;
  begun_at = s.begun_at;
  connections = untold s.broke;
}
