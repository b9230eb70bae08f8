-- What was bound, then what is left, bound, is all; what is left is lawful.
use Rattle.std.specs.Prelude.{◌≡◌, ◌++◌, true, drop, map}
use Rattle.std.specs.List.{list_all}
use Rattle.sql_lawful.specs.Lawful.{is_lawful_item}
use Rattle.scan_plan.specs.Plans.{bound_item}
use Rattle.scan_plan.proofs.bindings.bind_items.Given as goal

abbrev pub invariant-items : goal.invariant-items
invariant-items l = record {
  lawful : list_all is_lawful_item (drop l.item-index l.items) ≡ true;
  bound : l.bounds ++ map (bound_item l.at.columns.now l.at.alias.now l.at.used.now) (drop l.item-index l.items) ≡ map (bound_item l.at.columns.now l.at.alias.now l.at.used.now) l.items;
}
