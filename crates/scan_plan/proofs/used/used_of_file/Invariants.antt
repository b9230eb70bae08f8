-- The used columns so far, then those from here on, are all.
use Rattle.std.specs.Prelude.{◌≡◌, ◌++◌, drop}
use Rattle.scan_plan.specs.Finds.{used_from}
use Rattle.scan_plan.proofs.used.used_of_file.Given as goal

abbrev pub invariant-columns : goal.invariant-columns
invariant-columns l = (l.place ≡ l.index) × (l.used ++ used_from l.place (drop l.index l.columns) l.finds ≡ used_from 0 l.columns l.finds)
