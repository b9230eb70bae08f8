-- The first place from here on is the first of all.
use Rattle.std.specs.Prelude.{◌≡◌, ◌==◌, drop}
use Rattle.std.specs.List.{position_from}
use Rattle.scan_plan.proofs.bounds.place_among.Given as goal

abbrev pub invariant-used : goal.invariant-used
invariant-used l = (l.place ≡ l.candidate-index) × (position_from (λ u. u == l.column) l.place (drop l.candidate-index l.used) ≡ position_from (λ u. u == l.column) 0 l.used)
