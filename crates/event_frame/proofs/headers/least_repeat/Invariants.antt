use Rattle.event_frame.proofs.headers.least_repeat.Given as goal
use Rattle.event_frame.proofs.HeaderSort.{RepeatSoFar}

abbrev pub invariant-loop-i : goal.invariant-loop-i
invariant-loop-i l = RepeatSoFar l.headers l.places l.end l.i l.least
