use Rattle.std.proofs.Common.{subst, sym}
use Rattle.httparse.specs.Grammar.{ReadsRequest}
use Rattle.http_intake.specs.Heads.{judged}
use Rattle.std.proofs.lemmas.Result.{err_from_is_err_and}
use Rattle.http_intake.proofs.Reading.{comes_as, comes_more, halts_after, lacks_still, refused_as}
use Rattle.http_intake.proofs.intake.Intake.wait_head.Goals as goal

pub returns-in-Refused-clause-err : goal.returns-in-Refused-clause-err
returns-in-Refused-clause-err g c =
    refused_as _ _ c.args.self.now.kept.items c.loop-self.self.kept.items c.look.new.self.kept.items c.in-Refused.refusal c.loop-self.invariant.0
    c.look.ensures.kept c.in-Refused.ensures.front

pub returns-in_err-fill-clause-err : goal.returns-in_err-fill-clause-err
returns-in_err-fill-clause-err g c =
    let p = err_from_is_err_and c.from_residual.result c.from_residual.ensures.1 in
    let comes = comes_as _ _ c.args.self.now.kept.items c.loop-self.self.kept.items c.look.new.self.kept.items c.loop-self.invariant.0 c.look.ensures.kept in
    rw (p.1, p.2)
    (halts_after _ _ _ c.args.self.now.kept.items c.look.new.self.kept.items c.fill.new.kept.items c.in_err-fill.field-0.0 comes c.in_err-fill.ensures.err)

pub returns-in_err-fill-clause-lacks : goal.returns-in_err-fill-clause-lacks
returns-in_err-fill-clause-lacks g c =
    let p = err_from_is_err_and c.from_residual.result c.from_residual.ensures.1 in
    rw (p.1, p.2)
    (lacks_still c.loop-self.self.kept.items c.look.new.self.kept.items c.fill.new.kept.items c.in_err-fill.field-0.0 c.in-More.ensures.front
    c.look.ensures.kept c.in_err-fill.ensures.leaves)

pub returns-in-Refused-look-clause-err : goal.returns-in-Refused-look-clause-err
returns-in-Refused-look-clause-err g c =
    refused_as _ _ c.args.self.now.kept.items c.loop-self.self.kept.items c.look-2.new.self.kept.items c.in-Refused-look.refusal c.loop-self.invariant.0
    c.look-2.ensures.kept c.in-Refused-look.ensures.front

pub loop-self-preserved : goal.loop-self-preserved
loop-self-preserved g c = (
  comes_more _ _ _ c.args.self.now.kept.items c.look.new.self.kept.items c.fill.new.kept.items
      (comes_as _ _ c.args.self.now.kept.items c.loop-self.self.kept.items c.look.new.self.kept.items c.loop-self.invariant.0 c.look.ensures.kept)
      c.in_ok-fill.ensures.ok,
  λ tree rest reads. absurd (c.in-More.ensures.front.1 tree rest
      (subst (λ kept. ReadsRequest (judged kept) tree rest) (sym (c.loop-self.invariant.1 tree rest reads).kept) reads)),
)
