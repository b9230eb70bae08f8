-- The first match from here on is the first of all.
use Rattle.std.specs.Prelude.{◌≡◌, drop}
use Rattle.std.specs.List.{position_from}
use Rattle.scan_plan.specs.Paths.{matches}
use Rattle.scan_plan.proofs.paths.file_place.Given as goal

abbrev pub invariant-columns : goal.invariant-columns
invariant-columns l = (l.place ≡ l.column-index) × (position_from (λ column. matches l.name column.name) l.place (drop l.column-index l.columns) ≡ position_from (λ column. matches l.name column.name) 0 l.columns)
