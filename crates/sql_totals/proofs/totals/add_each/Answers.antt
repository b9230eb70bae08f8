use Rattle.std.proofs.Common.{rules, ◌≡◌, ◌<◌, List, Ok, Err, length, arith, sym, ◌∙◌}
use Rattle.sql_bound.specs.declared.tree.BoundAgg.{BoundAgg}
use Rattle.sql_value.specs.declared.value.Value.{Value}
use Rattle.sql_totals.specs.declared.slots.Slot.{Slot}
use Rattle.sql_totals.specs.Slots.{partial_of}
use Rattle.sql_totals.specs.Stepped.{added_one}
use Rattle.sql_totals.proofs.Adding.{goes_on, fault_there}
use Rattle.sql_totals.proofs.totals.add_each.Goals as goal

pub returns-in-Some : goal.returns-in-Some
returns-in-Some g c =
    let cells : List Value = g.R.Row.cells c.args.row.now in
    let aggs : List BoundAgg = c.args.aggs.now in
    let slots : List Slot = c.aggregates.slots in
    let le : c.aggregates.i < length aggs = search in
    let lt : c.aggregates.i < length slots = omega (arith, le, c.requires, c.aggregates.auto.slots) in
    let told : added_one cells c.index-aggs-i.result (partial_of c.index-slots-i.result) ≡ Err c.in-Some.fault = search rules in
    sym c.aggregates.invariant
    ∙ fault_there cells c.aggregates.i aggs slots _ _ c.in-Some.fault le lt c.index-aggs-i.is c.index-slots-i.is told

pub aggregates-preserved : goal.aggregates-preserved
aggregates-preserved g c =
    let cells : List Value = g.R.Row.cells c.args.row.now in
    let aggs : List BoundAgg = c.args.aggs.now in
    let slots : List Slot = c.aggregates.slots in
    let le : c.aggregates.i < length aggs = search in
    let lt : c.aggregates.i < length slots = omega (arith, le, c.requires, c.aggregates.auto.slots) in
    let told : added_one cells c.index-aggs-i.result (partial_of c.index-slots-i.result) ≡ Ok (partial_of c.add.new.self) = search rules in
    sym (goes_on cells c.aggregates.i aggs slots _ _ c.add.new.self le lt c.index-aggs-i.is c.index-slots-i.is told)
    ∙ c.aggregates.invariant
