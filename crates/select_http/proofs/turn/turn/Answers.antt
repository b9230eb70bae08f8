use Rattle.std.proofs.Common.{subst, sym, Ok, Err, Result, IfErr, OnOk}
use Rattle.httparse.specs.Spans.{IsRequestAt}
use Rattle.http_intake.specs.Heads.{judged}
use Rattle.select_http.proofs.Turning.{goes_after, stops_after, stops_at_head, stops_at_heading}
use Rattle.select_http.proofs.Whole.{heading_in}
use Rattle.select_http.proofs.turn.turn.Goals as goal

ok_after : {A E P Q : Type 0} (result : Result A E) → (P → Q) → OnOk result P → OnOk result Q
ok_after (Ok x) f p = f p
ok_after (Err e) f p = tt

err_after : {A E : Type 0} {P Q : E → Type 0} (result : Result A E) → ((e : E) → P e → Q e) → IfErr result P → IfErr result Q
err_after (Ok x) f p = tt
err_after (Err e) f p = f e p

pub returns-in-Err-clause-err : goal.returns-in-Err-clause-err
returns-in-Err-clause-err g c =
    stops_at_head c.args.limits.longest _ c.args.number _ _ _ (g.L.Listen.seen c.wait_head.new.link) _ _ c.wait_head.new.self.kept.items c.in-Err.halt c.stop_at_head.result
    c.requires.fresh c.in-Err.ensures.err c.in-Err.ensures.lacks c.stop_at_head.ensures

pub take_message-requires-clause-head : goal.take_message-requires-clause-head
take_message-requires-clause-head g c =
    let has = c.in-Ok.ensures.head in
    heading_in c.wait_head.new.self.kept.items c.wait_head.new.self.spans.items c.in-Ok.head c.in-Ok-read_heading.heading has
    (c.in-Ok-read_heading.ensures.says has.tree
    (subst (λ buf. IsRequestAt buf c.as_slice.result.now c.in-Ok.head has.tree) (sym c.front.ensures)
    (subst (λ spans. IsRequestAt (judged c.wait_head.new.self.kept.items) spans c.in-Ok.head has.tree) (sym c.as_slice.ensures.value) has.is_head.at)))

pub returns-in-Ok-read_heading-clause-ok : goal.returns-in-Ok-read_heading-clause-ok
returns-in-Ok-read_heading-clause-ok g c =
    ok_after c.take_message.result
    (goes_after c.args.limits.longest _ _ _ _ c.args.number _ c.wait_head.new.self.kept.items _ c.in-Ok.ensures.ok) c.take_message.ensures.ok

pub returns-in-Ok-read_heading-clause-err : goal.returns-in-Ok-read_heading-clause-err
returns-in-Ok-read_heading-clause-err g c =
    err_after c.take_message.result
    (λ end. stops_after c.args.limits.longest _ _ _ _ c.args.number _ _ _ c.wait_head.new.self.kept.items end c.in-Ok.ensures.ok) c.take_message.ensures.err

pub returns-in-Err-read_heading-clause-err : goal.returns-in-Err-read_heading-clause-err
returns-in-Err-read_heading-clause-err g c =
    let has = c.in-Ok.ensures.head in
    stops_at_heading c.args.limits.longest _ c.args.number _ _ _ (g.L.Listen.seen c.wait_head.new.link) _ _ c.wait_head.new.self.kept.items
    c.wait_head.new.self.spans.items c.in-Ok.head c.in-Err-read_heading.error c.stop_at_heading.result c.requires.fresh c.in-Ok.ensures.ok has
    (c.in-Err-read_heading.ensures.says has.tree
    (subst (λ buf. IsRequestAt buf c.as_slice.result.now c.in-Ok.head has.tree) (sym c.front.ensures)
    (subst (λ spans. IsRequestAt (judged c.wait_head.new.self.kept.items) spans c.in-Ok.head has.tree) (sym c.as_slice.ensures.value) has.is_head.at)))
    c.stop_at_heading.ensures
