use Rattle.std.proofs.Common.{◌≡◌, ◌≤◌, ◌+◌, ◌-◌, ℕ, List, length, take, drop}
use Rattle.select_ports.specs.Stored.{Opened}
use Rattle.parquet_metadata.specs.Layout.{Tells}
use Rattle.parquet_metadata.proofs.reading.read_exact.Given as goal

pub record IsFilled (opened : Opened) (at done len : ℕ) (buffer : List ℕ) : Type 0 where
  pub within : done ≤ len
  pub same : length buffer ≡ len
  pub front : (object : List ℕ) → Tells opened object → take done buffer ≡ take done (drop at object)

abbrev pub invariant-loop-done : goal.invariant-loop-done
invariant-loop-done g l =
    IsFilled (g.S.Store.current l.initial.store) l.at l.done (length l.initial.buffer) l.buffer
    × (g.S.Store.current l.store ≡ g.S.Store.current l.initial.store)
    × (g.S.Store.held l.store ≡ g.S.Store.held l.initial.store)
    × (g.S.Store.absent l.store ≡ g.S.Store.absent l.initial.store)
    × (g.S.Store.faults l.initial.store ≤ g.S.Store.faults l.store)
    × (g.S.Store.taken l.store ≤ g.S.Store.taken l.initial.store + l.done)

abbrev pub decreases-loop-done : goal.decreases-loop-done
decreases-loop-done g l = length l.initial.buffer - l.done
