use Rattle.std.proofs.Common.{length, ◌-◌, ◌^◌, ◌<◌, ◌≤◌}
use Rattle.sql_decimal.specs.ReadingBytes.{ReadsDigits}
use Rattle.sql_decimal.proofs.short.read_digits.Given as goal

abbrev pub invariant-loop-end : goal.invariant-loop-end
invariant-loop-end l = (l.all < 10 ^ 18) × (l.from ≤ l.end) × (l.end ≤ length l.bytes) × ReadsDigits l.bytes l.from l.value l.end l.all

abbrev pub decreases-loop-end : goal.decreases-loop-end
decreases-loop-end l = length l.bytes - l.end
