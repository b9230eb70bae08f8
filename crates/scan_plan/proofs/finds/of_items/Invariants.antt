-- What was found, then what is left finds, is what all find.
use Rattle.std.specs.Prelude.{◌≡◌, ◌++◌, drop, map}
use Rattle.scan_plan.specs.Order.{joined}
use Rattle.scan_plan.specs.Finds.{item_finds}
use Rattle.scan_plan.proofs.finds.of_items.Given as goal

abbrev pub invariant-items : goal.invariant-items
invariant-items l = l.finds ++ joined (map (item_finds l.columns l.alias) (drop l.item-index l.items)) ≡ l.fn.finds ++ joined (map (item_finds l.columns l.alias) l.items)
