use Rattle.std.specs.Str.{chars}
use Rattle.std.proofs.Common.{◌≤◌, ◌+◌, suc, length, drop, map, ap, ◌∙◌, arith}
use Rattle.sql_eval.specs.Meaning.{meaning}
use Rattle.scan_plan.specs.Plans.{name_or_number}
use Rattle.record_yields.specs.Adding.{over_unless}
use Rattle.record_yields.specs.Projections.{first_fault}
use Rattle.record_yields.specs.Codes.{value_code}
use Rattle.record_yields.specs.Names.{name_at}
use Rattle.record_yields.proofs.Selecting.{rest_is, next_item, no_item, settings_stay, step_ok, step_fault, step_over, end_yields}
use Rattle.record_yields.proofs.items.write_items.Goals as goal

pub returns-in-Err-Value-clause-yields : goal.returns-in-Err-Value-clause-yields
returns-in-Err-Value-clause-yields g c =
    let f = meaning (g.R.Row.cells c.args.row.now) in
    let bounds = c.args.bounds.now in
    let i = c.bounds.bound-index in
    let bound = c.bound-item.result in
    step_fault (name_at c.args.names.now) (map f bounds) (map f (drop i bounds)) c.bounds.k c.bounds.out c.bounds.invariant.passed
    c.add_meaning.new.out (f bound) (map f (drop (i + 1) bounds)) (next_item f bounds i bound c.bounds-test.true c.bound-item.is)
    _ (ap (λ n. chars (name_or_number (suc c.bounds.k) n)) c.name_of.ensures)
    c.in-Err-Value.field-0 c.in-Err-Value.fault c.in-Err-Value.field-0-is c.in-Err-Value.ensures
    c.args.out.now.output c.args.out.now.longest c.value_code.result (c.value_code.ensures ∙ ap value_code c.in-Err-Value.fault-is)

pub returns-in-Err-OverMaxRecordSize-clause-yields : goal.returns-in-Err-OverMaxRecordSize-clause-yields
returns-in-Err-OverMaxRecordSize-clause-yields g c =
    let f = meaning (g.R.Row.cells c.args.row.now) in
    let bounds = c.args.bounds.now in
    let i = c.bounds.bound-index in
    let bound = c.bound-item.result in
    step_over (name_at c.args.names.now) (map f bounds) (map f (drop i bounds)) c.bounds.k c.bounds.out c.bounds.invariant.passed
    c.add_meaning.new.out (f bound) (map f (drop (i + 1) bounds)) (next_item f bounds i bound c.bounds-test.true c.bound-item.is)
    _ (ap (λ n. chars (name_or_number (suc c.bounds.k) n)) c.name_of.ensures)
    c.in-Err-OverMaxRecordSize.field-0 c.in-Err-OverMaxRecordSize.field-0-is c.in-Err-OverMaxRecordSize.ensures
    c.args.out.now c.bounds.invariant.settings c.over_unless_faulty.result
    (c.over_unless_faulty.ensures ∙ ap (λ l. over_unless (first_fault (map f l))) (rest_is (c.bounds.k + 1) bounds) ∙ ap (λ j. over_unless (first_fault (map f (drop (j + 1) bounds)))) c.bounds.invariant.at)

pub bounds-preserved : goal.bounds-preserved
bounds-preserved g c =
    let f = meaning (g.R.Row.cells c.args.row.now) in
    let bounds = c.args.bounds.now in
    let i = c.bounds.bound-index in
    let bound = c.bound-item.result in
    record {
      at = ap (λ n. n + 1) c.bounds.invariant.at;
      settings = settings_stay c.args.out.now c.bounds.out c.add_meaning.new.out c.bounds.invariant.settings c.add_meaning.ensures.settings;
      passed =
          step_ok (name_at c.args.names.now) (map f bounds) (map f (drop i bounds)) c.bounds.k c.bounds.out c.bounds.invariant.passed
          c.add_meaning.new.out (f bound) (map f (drop (i + 1) bounds)) (next_item f bounds i bound c.bounds-test.true c.bound-item.is)
          _ (ap (λ n. chars (name_or_number (suc c.bounds.k) n)) c.name_of.ensures) c.in-Ok.field-0 c.in-Ok.ensures;
    }

pub returns-clause-yields : goal.returns-clause-yields
returns-clause-yields g c =
    let f = meaning (g.R.Row.cells c.args.row.now) in
    let bounds = c.args.bounds.now in
    let i = c.bounds.bound-index in
    let past : length bounds ≤ i = omega (arith, c.bounds-test.false) in
    end_yields (name_at c.args.names.now) (map f bounds) (map f (drop i bounds)) c.bounds.k c.bounds.out c.bounds.invariant.passed
    (no_item f bounds i past) c.args.out.now c.bounds.invariant.settings _ c.finish.ensures
