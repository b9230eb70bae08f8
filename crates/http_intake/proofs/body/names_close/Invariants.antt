-- The members that are left decide.
use Rattle.std.proofs.Common.{◌≡◌, length}
use Rattle.std.specs.List.{list_any}
use Rattle.http_intake.specs.Bodies.{is_close, members_of}
use Rattle.http_intake.proofs.body.names_close.Given as goal

abbrev pub invariant-loop-member : goal.invariant-loop-member
invariant-loop-member l = list_any is_close (members_of l.left) ≡ list_any is_close (members_of l.value)

abbrev pub decreases-loop-member : goal.decreases-loop-member
decreases-loop-member l = length l.left
