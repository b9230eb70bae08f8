use Rattle.std.proofs.Common.{◌∙◌, sym, ap}
use Rattle.std.specs.Prelude.{is_some}
use Rattle.select_http.proofs.Turning.{goes_as, goes_on, stops_answer, stops_closing}
use Rattle.select_http.proofs.turn.take_message.Goals as goal

pub body_of-requires : goal.body_of-requires
body_of-requires g c = (c.in-Ok.ensures.ok (g.S.Store.held c.args.store.now)).enough

pub drop_front-requires : goal.drop_front-requires
drop_front-requires g c = (c.in-Ok.ensures.ok (g.S.Store.held c.args.store.now)).enough

pub returns-in-Err-answer-clause-err : goal.returns-in-Err-answer-clause-err
returns-in-Err-answer-clause-err g c =
    stops_answer c.args.limits.longest (g.S.Store.held c.args.store.now) _ (g.L.Listen.seen c.receive.new.link) _ c.args.number _ c.receive.new.intake.kept.items
    c.body_of.result.now c.args.heading.now c.is_some.result c.requires.head (c.in-Ok.ensures.ok (g.S.Store.held c.args.store.now)) c.body_of.ensures
    (c.is_some.ensures ∙ ap (λ e. is_some e) c.closing-closing.ensures)
    _ _ c.in-Err-answer.end c.requires.fresh c.in-Err-answer.ensures.affects c.in-Err-answer.ensures.sends

pub returns-in-Some-clause-err : goal.returns-in-Some-clause-err
returns-in-Some-clause-err g c =
    stops_closing c.args.limits.longest (g.S.Store.held c.args.store.now) _ (g.L.Listen.seen c.receive.new.link) _ c.args.number _ c.receive.new.intake.kept.items
    c.body_of.result.now c.args.heading.now c.is_some.result c.requires.head (c.in-Ok.ensures.ok (g.S.Store.held c.args.store.now)) c.body_of.ensures
    (c.is_some.ensures ∙ ap (λ e. is_some e) c.closing-closing.ensures)
    _ _ _ c.in-Some.end c.in-Ok-answer.ensures.affects c.in-Ok-answer.ensures.sends
    (sym c.closing-closing.ensures ∙ c.in-Some.is)

pub returns-in-None-clause-ok : goal.returns-in-None-clause-ok
returns-in-None-clause-ok g c =
    goes_as c.args.limits.longest (g.S.Store.held c.args.store.now) _ (g.L.Listen.seen c.answer.new.link) _ c.args.number _ _ _ c.settle.ensures c.drop_front.ensures
    (goes_on c.args.limits.longest (g.S.Store.held c.args.store.now) _ (g.L.Listen.seen c.receive.new.link) _ c.args.number _ c.receive.new.intake.kept.items
    c.body_of.result.now c.args.heading.now c.is_some.result c.requires.head (c.in-Ok.ensures.ok (g.S.Store.held c.args.store.now)) c.body_of.ensures
    (c.is_some.ensures ∙ ap (λ e. is_some e) c.closing-closing.ensures)
    _ _ _ c.in-Ok-answer.ensures.affects c.in-Ok-answer.ensures.sends (sym c.closing-closing.ensures ∙ c.in-None.is))
