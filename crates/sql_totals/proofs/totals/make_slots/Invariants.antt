-- The slots so far are those of the aggregates that were passed.
use Rattle.std.specs.Prelude.{◌≡◌, map, take}
use Rattle.sql_totals.specs.Partials.{start}
use Rattle.sql_totals.specs.Slots.{partial_of}
use Rattle.sql_totals.proofs.totals.make_slots.Given as goal

abbrev pub invariant-aggregates : goal.invariant-aggregates
invariant-aggregates l = map partial_of l.slots.items ≡ map start (take l.agg-index l.aggs)
