use Rattle.event_frame.proofs.HeaderList.{GoodUpTo}
use Rattle.event_frame.proofs.headers.first_bad.Given as goal

abbrev pub invariant-loop : goal.invariant-loop
invariant-loop l = GoodUpTo l.headers l.at
