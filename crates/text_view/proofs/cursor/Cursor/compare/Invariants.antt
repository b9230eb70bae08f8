use Rattle.std.proofs.Common.{◌≡◌, length}
use Rattle.std.specs.Ordering.{nat_cmp}
use Rattle.std.specs.Cmp.Lexicographic.{slice_cmp}
use Rattle.text_view.specs.Spelled.{seen}
use Rattle.text_view.proofs.cursor.Cursor.compare.Given as goal

abbrev pub invariant-each : goal.invariant-each
invariant-each l = slice_cmp nat_cmp (seen l.self) (seen l.other) ≡ slice_cmp nat_cmp (seen l.initial.self) (seen l.initial.other)

abbrev pub decreases-each : goal.decreases-each
decreases-each l = length l.self.rest.now
