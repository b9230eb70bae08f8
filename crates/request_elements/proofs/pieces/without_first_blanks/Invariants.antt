-- The blanks that were passed change nothing.
use Rattle.std.proofs.Common.{◌≡◌, length}
use Rattle.request_elements.specs.Pieces.{without_first_blanks}
use Rattle.request_elements.proofs.pieces.without_first_blanks.Given as goal

abbrev pub invariant-blanks : goal.invariant-blanks
invariant-blanks l = without_first_blanks l.fn.bytes ≡ without_first_blanks l.left

abbrev pub decreases-blanks : goal.decreases-blanks
decreases-blanks l = length l.left
