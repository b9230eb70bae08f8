use Rattle.std.specs.Str.{chars}
use Rattle.std.proofs.Common.{◌<◌, ◌≤◌, ◌+◌, suc, length, map, drop, ap, ◌∙◌, arith}
use Rattle.scan_plan.specs.Plans.{name_or_number}
use Rattle.sql_totals.specs.Partials.{final, final_at}
use Rattle.record_yields.specs.Codes.{value_code}
use Rattle.record_yields.specs.Names.{name_at}
use Rattle.record_yields.proofs.Finals.{total_next, total_none, totals_is}
use Rattle.record_yields.proofs.Selecting.{settings_stay, step_ok, step_fault, step_over, end_yields}
use Rattle.record_yields.proofs.totals.write_totals.Goals as goal

pub returns-in-Err-Value-clause-yields : goal.returns-in-Err-Value-clause-yields
returns-in-Err-Value-clause-yields c =
    let ts = c.args.totals.now in
    let k = c.totals.k in
    let here : k < length ts = omega (arith, c.len-count.ensures, c.totals-test.true) in
    totals_is _ c.args.names.now c.args.out.now.output c.args.out.now.longest ts
    (step_fault (name_at c.args.names.now) (map final ts) (map final (drop k ts)) k c.totals.out c.totals.invariant.passed
    c.add_total.new.out (final_at ts k) (map final (drop (k + 1) ts)) (total_next ts k here)
    _ (ap (λ n. chars (name_or_number (suc k) n)) c.name_of.ensures)
    c.in-Err-Value.field-0 c.in-Err-Value.fault c.in-Err-Value.field-0-is c.in-Err-Value.ensures
    c.args.out.now.output c.args.out.now.longest c.value_code.result (c.value_code.ensures ∙ ap value_code c.in-Err-Value.fault-is))

pub returns-in-Err-OverMaxRecordSize-clause-yields : goal.returns-in-Err-OverMaxRecordSize-clause-yields
returns-in-Err-OverMaxRecordSize-clause-yields c =
    let ts = c.args.totals.now in
    let k = c.totals.k in
    let here : k < length ts = omega (arith, c.len-count.ensures, c.totals-test.true) in
    totals_is _ c.args.names.now c.args.out.now.output c.args.out.now.longest ts
    (step_over (name_at c.args.names.now) (map final ts) (map final (drop k ts)) k c.totals.out c.totals.invariant.passed
    c.add_total.new.out (final_at ts k) (map final (drop (k + 1) ts)) (total_next ts k here)
    _ (ap (λ n. chars (name_or_number (suc k) n)) c.name_of.ensures)
    c.in-Err-OverMaxRecordSize.field-0 c.in-Err-OverMaxRecordSize.field-0-is c.in-Err-OverMaxRecordSize.ensures
    c.args.out.now c.totals.invariant.settings c.over_unless_faulty.result c.over_unless_faulty.ensures)

pub totals-preserved : goal.totals-preserved
totals-preserved c =
    let ts = c.args.totals.now in
    let k = c.totals.k in
    let here : k < length ts = omega (arith, c.len-count.ensures, c.totals-test.true) in
    record {
      settings = settings_stay c.args.out.now c.totals.out c.add_total.new.out c.totals.invariant.settings c.add_total.ensures.settings;
      passed =
          step_ok (name_at c.args.names.now) (map final ts) (map final (drop k ts)) k c.totals.out c.totals.invariant.passed
          c.add_total.new.out (final_at ts k) (map final (drop (k + 1) ts)) (total_next ts k here)
          _ (ap (λ n. chars (name_or_number (suc k) n)) c.name_of.ensures) c.in-Ok.field-0 c.in-Ok.ensures;
    }

pub returns-clause-yields : goal.returns-clause-yields
returns-clause-yields c =
    let ts = c.args.totals.now in
    let past : length ts ≤ c.totals.k = omega (arith, c.len-count.ensures, c.totals-test.false) in
    totals_is _ c.args.names.now c.args.out.now.output c.args.out.now.longest ts
    (end_yields (name_at c.args.names.now) (map final ts) (map final (drop c.totals.k ts)) c.totals.k c.totals.out c.totals.invariant.passed
    (total_none ts c.totals.k past) c.args.out.now c.totals.invariant.settings _ c.finish.ensures)
