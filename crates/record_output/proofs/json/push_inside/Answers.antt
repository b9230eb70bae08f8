use Rattle.std.proofs.Common.{subst}
use Rattle.std.proofs.lemmas.Result.{err_from_is_err_and}
use Rattle.record_output.specs.Appending.{Adds}
use Rattle.record_output.specs.JsonStrings.{spelled_text}
use Rattle.record_output.proofs.Appended.{full_between, the_rest}
use Rattle.record_output.proofs.json.push_inside.Goals as goal

pub returns-in_err-push_cut : goal.returns-in_err-push_cut
returns-in_err-push_cut c =
    let p = err_from_is_err_and c.from_residual.result c.from_residual.ensures.1 in
    rw p.1
    (full_between _ _ c.args.out.now c.parts.out c.push_cut.new.out (spelled_text c.args.text.now) (spelled_text c.parts.rest.now) _ (spelled_text c.in-Some.cut.behind.now)
    c.parts.invariant c.in_err-push_cut.ensures c.in-Some.ensures.1)

pub returns : goal.returns
returns c =
    the_rest c.push.result c.args.out.now c.parts.out c.push.new.out (spelled_text c.args.text.now) c.parts.rest.now
    (subst (Adds c.args.out.now c.parts.out (spelled_text c.args.text.now)) c.in_default.ensures c.parts.invariant) c.push.ensures
