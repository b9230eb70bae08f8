-- What is marked, or found from here on, is what some path finds.
use Rattle.std.specs.Prelude.{◌≡◌, ◌<◌, ◌||◌, ℕ, false, drop, length, get_or}
use Rattle.scan_plan.specs.Finds.{some_finds}
use Rattle.scan_plan.proofs.used.marked.Given as goal

abbrev pub invariant-finds : goal.invariant-finds
invariant-finds l = record {
  count : length l.marks.items ≡ l.count;
  marked : (place : ℕ) → place < l.count → (get_or l.marks.items place false || some_finds place (drop l.find-index l.finds)) ≡ some_finds place l.finds;
}
