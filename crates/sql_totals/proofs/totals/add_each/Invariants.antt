-- The totals that were added to, in front of what the aggregates left add to theirs, are what all of them make.
use Rattle.std.specs.Prelude.{◌≡◌, map}
use Rattle.sql_totals.specs.Slots.{partial_of}
use Rattle.sql_totals.specs.Stepped.{added}
use Rattle.sql_totals.proofs.Adding.{added_from}
use Rattle.sql_totals.proofs.totals.add_each.Given as goal

abbrev pub invariant-aggregates : goal.invariant-aggregates
invariant-aggregates g l =
    added_from (g.R.Row.cells l.row) l.i l.aggs (map partial_of l.slots) ≡ added (g.R.Row.cells l.row) l.aggs (map partial_of l.fn.slots)
