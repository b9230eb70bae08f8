-- The names so far, then those of what is left, are all.
use Rattle.std.specs.Prelude.{◌≡◌, ◌++◌, suc, drop}
use Rattle.scan_plan.specs.Plans.{total_names}
use Rattle.scan_plan.proofs.names.total_names.Given as goal

abbrev pub invariant-totals : goal.invariant-totals
invariant-totals l = (l.number ≡ l.total-index) × (l.names ++ total_names (suc l.number) (drop l.total-index l.totals) ≡ total_names 1 l.totals)
