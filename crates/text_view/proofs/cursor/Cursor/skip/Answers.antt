use Rattle.std.proofs.Common.{◌≡◌, ◌-◌, refl, arith}
use Rattle.std.specs.Str.{chars}
use Rattle.text_view.specs.Fronts.{CutsBefore}
use Rattle.text_view.proofs.Cuts.{walks_begin, walks_more, dropped, cuts_behind, cuts_stopped}
use Rattle.text_view.proofs.cursor.Cursor.skip.Goals as goal

pub each-init : goal.each-init
each-init c = record { value = refl; within = omega arith; walks = walks_begin _ _ _ }

pub each-preserved : goal.each-preserved
each-preserved c = record {
  value = dropped c.each.left _ _ _ _ (omega arith) c.in-Some.ensures.value c.each.invariant.value;
  within = omega (arith, c.each.invariant.within);
  walks = walks_more _ _ _ _ _ _ c.args.count c.each.left (omega arith) c.each.invariant.within c.each.invariant.walks c.in-Some.ensures.walks;
}

pub returns-in-None-clause-front : goal.returns-in-None-clause-front
returns-in-None-clause-front c =
    cuts_stopped _ _ c.each.self c.next.new.self c.args.count c.each.left c.each.invariant.walks c.in-None.ensures.value.0 c.in-None.ensures.walks

pub returns-clause-front : goal.returns-clause-front
returns-clause-front c =
    let whole : c.args.count - c.each.left ≡ c.args.count = omega arith in
    let walks = rw whole at c.each.invariant.walks in
    cuts_behind _ _ _ _ c.args.count walks
