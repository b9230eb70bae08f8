-- What was copied, then what is left, is all.
use Rattle.std.specs.Prelude.{◌≡◌, ◌++◌, drop}
use Rattle.sql_printer.proofs.copies.copy_totals.Given as goal

abbrev pub invariant-totals : goal.invariant-totals
invariant-totals l = l.copies ++ drop l.total-index l.totals ≡ l.totals
