use Rattle.std.proofs.Common.{◌≡◌, ◌++◌, length}
use Rattle.sql_timestamp.proofs.read.read_shown.Given as goal

abbrev pub invariant-characters : goal.invariant-characters
invariant-characters l = l.bytes.items ++ l.left ≡ l.text

abbrev pub decreases-characters : goal.decreases-characters
decreases-characters l = length l.left
