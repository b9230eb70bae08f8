-- What was copied, then what is left, is all.
use Rattle.std.specs.Prelude.{◌≡◌, ◌++◌, drop}
use Rattle.sql_printer.proofs.copies.copy_items.Given as goal

abbrev pub invariant-items : goal.invariant-items
invariant-items l = l.copies ++ drop l.item-index l.items ≡ l.items
