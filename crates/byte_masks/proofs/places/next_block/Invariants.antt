use Rattle.std.proofs.Common.{◌≡◌, ◌-◌, ◌≤◌, length}
use Rattle.byte_masks.specs.Walks.{places_from}
use Rattle.byte_masks.proofs.places.next_block.Given as goal

abbrev pub invariant-loop-i : goal.invariant-loop-i
invariant-loop-i l = (l.i ≤ length l.bytes) × (places_from l.byte l.bytes l.i ≡ places_from l.byte l.bytes l.from)

abbrev pub decreases-loop-i : goal.decreases-loop-i
decreases-loop-i l = length l.bytes - l.i
