use Rattle.std.proofs.Common.{◌<◌, ◌≤◌, length, ap, sym, ◌∙◌, arith}
use Rattle.record_yields.specs.Projections.{first_fault}
use Rattle.record_yields.proofs.Finals.{total_none, total_faulty, total_fine, first_of_none}
use Rattle.record_yields.proofs.totals.first_fault.Goals as goal

pub returns-in-Some : goal.returns-in-Some
returns-in-Some c =
    let here : c.rest.k < length c.args.totals.now = omega (arith, c.len-count.ensures, c.rest-test.true) in
    sym (total_faulty c.args.totals.now c.rest.k here c.in-Some.fault c.in-Some.ensures) ∙ c.rest.invariant

pub rest-preserved : goal.rest-preserved
rest-preserved c =
    let here : c.rest.k < length c.args.totals.now = omega (arith, c.len-count.ensures, c.rest-test.true) in
    sym (total_fine c.args.totals.now c.rest.k here c.in_default.ensures) ∙ c.rest.invariant

pub returns : goal.returns
returns c =
    let past : length c.args.totals.now ≤ c.rest.k = omega (arith, c.len-count.ensures, c.rest-test.false) in
    sym (ap first_fault (total_none c.args.totals.now c.rest.k past) ∙ first_of_none) ∙ c.rest.invariant
