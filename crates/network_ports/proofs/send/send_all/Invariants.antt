use Rattle.std.proofs.Common.{length, ◌-◌, ◌≤◌, take}
use Rattle.network_ports.proofs.Sending.{Sent}
use Rattle.network_ports.proofs.send.send_all.Given as goal

abbrev pub invariant-loop-done : goal.invariant-loop-done
invariant-loop-done g l = (l.done ≤ length l.bytes) × Sent (g.L.Listen.seen l.initial.link) (g.L.Listen.seen l.link) (take l.done l.bytes)

abbrev pub decreases-loop-done : goal.decreases-loop-done
decreases-loop-done g l = length l.bytes - l.done
