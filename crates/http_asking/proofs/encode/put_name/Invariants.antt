-- What was added, and then what is left, is all.
use Rattle.std.proofs.Common.{◌≡◌, ◌++◌, length}
use Rattle.http_asking.specs.Asking.{encoded}
use Rattle.http_asking.proofs.encode.put_name.Given as goal

abbrev pub invariant-loop-left : goal.invariant-loop-left
invariant-loop-left l = l.text.items ++ encoded l.left ≡ l.initial.text.items ++ encoded l.fn.name

abbrev pub decreases-loop-left : goal.decreases-loop-left
decreases-loop-left l = length l.left
