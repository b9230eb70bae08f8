-- The first fault from here on is the first of all.
use Rattle.std.specs.Prelude.{◌≡◌, drop}
use Rattle.scan_plan.specs.Finds.{first_fault}
use Rattle.scan_plan.proofs.used.first_fault.Given as goal

abbrev pub invariant-finds : goal.invariant-finds
invariant-finds l = first_fault (drop l.find-index l.finds) ≡ first_fault l.finds
