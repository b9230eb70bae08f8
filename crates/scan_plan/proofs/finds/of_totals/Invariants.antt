-- What was found, then what is left finds, is what all find.
use Rattle.std.specs.Prelude.{◌≡◌, ◌++◌, drop, map}
use Rattle.scan_plan.specs.Order.{joined}
use Rattle.scan_plan.specs.Finds.{total_finds}
use Rattle.scan_plan.proofs.finds.of_totals.Given as goal

abbrev pub invariant-totals : goal.invariant-totals
invariant-totals l = l.finds ++ joined (map (total_finds l.columns l.alias) (drop l.total-index l.totals)) ≡ l.fn.finds ++ joined (map (total_finds l.columns l.alias) l.totals)
