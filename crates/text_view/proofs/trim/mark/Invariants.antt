use Rattle.std.proofs.Common.{◌≡◌, ℕ, ◌||◌, length}
use Rattle.text_view.specs.Spelled.{seen}
use Rattle.text_view.specs.Trimmed.{contains, is_marked}
use Rattle.text_view.proofs.trim.mark.Given as goal

abbrev pub invariant-each : goal.invariant-each
invariant-each l = (c : ℕ) → (is_marked l.marks c || contains (seen l.set) c) ≡ (is_marked l.initial.marks c || contains (seen l.initial.set) c)

abbrev pub decreases-each : goal.decreases-each
decreases-each l = length l.set.rest.now
