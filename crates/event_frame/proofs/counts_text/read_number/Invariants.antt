use Rattle.std.proofs.Common.{◌-◌, length}
use Rattle.event_frame.proofs.CountsLaws.{ReadUpTo}
use Rattle.event_frame.proofs.counts_text.read_number.Given as goal

abbrev pub invariant-loop-digit : goal.invariant-loop-digit
invariant-loop-digit l = ReadUpTo l.bytes l.at l.number

abbrev pub decreases-loop-digit : goal.decreases-loop-digit
decreases-loop-digit l = length l.bytes - l.at
