use Rattle.std.proofs.Common.{◌≤◌, length, vec_capacity}
use Rattle.event_frame.proofs.HeaderSort.{Listing}
use Rattle.event_frame.proofs.headers.list_headers.Given as goal

abbrev pub invariant-loop-after : goal.invariant-loop-after
invariant-loop-after l = Listing l.headers l.places.items l.rest × (vec_capacity l.initial.places ≤ vec_capacity l.places)

abbrev pub decreases-loop-after : goal.decreases-loop-after
decreases-loop-after l = length l.rest
