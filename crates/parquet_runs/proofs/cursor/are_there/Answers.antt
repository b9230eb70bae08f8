use Rattle.std.proofs.Common.{◌≡◌, ◌∙◌, ◌-◌, length, ap, sym, arith}
use Rattle.std.proofs.lemmas.List.{length-drop}
use Rattle.parquet_runs.specs.Hybrid.{are_there}
use Rattle.parquet_runs.proofs.Turns.{none_there, passed_there, all_there}
use Rattle.parquet_runs.proofs.cursor.are_there.Goals as goal

pub returns-in_default : goal.returns-in_default
returns-in_default c =
    sym (none_there c.args.width c.loop-left.left c.loop-left.rest.now (sym c.in_default.ensures.exact) c.loop-left-test.true) ∙ c.loop-left.invariant.there

pub loop-left-preserved : goal.loop-left-preserved
loop-left-preserved c =
    let some = c.in-Some.ensures.some in
    let passed = passed_there c.args.width c.loop-left.left c.loop-left.rest.now c.in-Some.run' (sym c.in-Some.ensures.exact) c.loop-left-test.true some
    c.in-Some.ensures.size in
    let few = c.loop-left.invariant.few in
    let len : length c.split_at.result.1.now ≡ length c.loop-left.rest.now - c.in-Some.run'.size =
    ap length c.split_at.ensures.back ∙ length-drop c.in-Some.run'.size c.loop-left.rest.now in
    record {
      there = ap (are_there c.args.width (c.loop-left.left - c.in-Some.run'.count) 0) c.split_at.ensures.back ∙ sym passed ∙ c.loop-left.invariant.there;
      few = omega (arith, len, few);
    }

pub returns : goal.returns
returns c =
    let last = c.loop-left-test.false in
    sym (all_there c.args.width c.loop-left.left c.loop-left.rest.now (omega (arith, last))) ∙ c.loop-left.invariant.there
