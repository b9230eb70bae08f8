use Rattle.std.proofs.Common.{◌≡◌, drop}
use Rattle.select_ports.specs.Memory.{first_of}
use Rattle.select_ports.proofs.memory_store.place_of.Given as goal

abbrev pub invariant-loop-i : goal.invariant-loop-i
invariant-loop-i l = first_of l.objects l.name ≡ first_of (drop l.i l.objects) l.name
