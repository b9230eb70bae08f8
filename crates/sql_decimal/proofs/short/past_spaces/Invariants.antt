use Rattle.std.proofs.Common.{length, ◌-◌, ◌≤◌}
use Rattle.sql_decimal.specs.ReadingBytes.{ReadsSpaces}
use Rattle.sql_decimal.proofs.short.past_spaces.Given as goal

abbrev pub invariant-loop-at : goal.invariant-loop-at
invariant-loop-at l = (l.from ≤ l.at) × (l.at ≤ length l.bytes) × ReadsSpaces l.bytes l.from l.at

abbrev pub decreases-loop-at : goal.decreases-loop-at
decreases-loop-at l = length l.bytes - l.at
