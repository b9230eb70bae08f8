use Rattle.std.proofs.Common.{◌≡◌, ◌+◌, length}
use Rattle.text_view.specs.Finding.{like_end}
use Rattle.text_view.specs.Spelled.{seen}
use Rattle.text_view.proofs.like.fits_end.Given as goal

abbrev pub invariant-each : goal.invariant-each
invariant-each l = like_end l.parts (seen l.rest) ≡ like_end l.initial.parts (seen l.initial.rest)

abbrev pub decreases-each : goal.decreases-each
decreases-each l = length l.parts + length l.rest.rest.now
