-- The names so far, then those of what is left, are all.
use Rattle.std.specs.Prelude.{◌≡◌, ◌++◌, suc, drop}
use Rattle.scan_plan.specs.Plans.{item_names}
use Rattle.scan_plan.proofs.names.item_names.Given as goal

abbrev pub invariant-items : goal.invariant-items
invariant-items l = (l.number ≡ l.item-index) × (l.names ++ item_names (suc l.number) (drop l.item-index l.items) ≡ item_names 1 l.items)
