use Rattle.std.proofs.Common.{◌≡◌, List, length}
use Rattle.event_frame.specs.Message.{Header, print_headers}
use Rattle.event_frame.specs.Reading.{AreHeaders}
use Rattle.event_frame.proofs.HeaderLaws.{Left}
use Rattle.event_frame.proofs.headers.value.Given as goal

-- what is left has the value that all headers have
abbrev pub invariant-loop-other : goal.invariant-loop-other
invariant-loop-other l = (good : List Header) → AreHeaders good → l.headers ≡ print_headers good → Left l.name good l.rest

abbrev pub decreases-loop-other : goal.decreases-loop-other
decreases-loop-other l = length l.rest
