use Rattle.std.proofs.Common.{◌∙◌, refl, arith, ◌≡◌}
use Rattle.select_http.proofs.Serving.{goes_held, serves, serving_at, serving_more, stops_held}
use Rattle.select_http.proofs.serve.serve_messages.Goals as goal

pub returns-in-Err-clause-serves : goal.returns-in-Err-clause-serves
returns-in-Err-clause-serves g c =
    serves c.args.limits.longest (g.S.Store.held c.args.store.now) _ (g.L.Listen.seen c.loop-done.link) _ c.loop-done.done 0
    (g.S.Store.faults c.loop-done.store) (g.S.Store.faults c.turn.new.store) c.loop-done.intake.kept.items
    c.in-Err.end (record { requests = c.requests_at.result; end = c.in-Err.end }) c.loop-done.invariant.1
    (stops_held _ _ _ _ _ _ _ _ _ _ c.loop-done.invariant.3 c.in-Err.ensures.err) refl c.requests_at.ensures

pub loop-done-preserved : goal.loop-done-preserved
loop-done-preserved g c = (
  omega (arith, c.loop-done-test.true),
  serving_more c.args.limits.longest (g.S.Store.held c.args.store.now) _ (g.L.Listen.seen c.loop-done.link) _ c.loop-done.done c.loop-done.intake.kept.items _
      c.loop-done.invariant.1 (goes_held _ _ _ _ _ _ _ _ c.loop-done.invariant.3 c.in-Ok.ensures.ok),
  c.in-Ok.ensures.fresh,
  c.turn.ensures.held ∙ c.loop-done.invariant.3,
  omega (arith, c.loop-done.invariant.4, c.turn.ensures.store_faults),
)

pub returns-clause-serves : goal.returns-clause-serves
returns-clause-serves g c =
    let last : c.loop-done.done ≡ 99 = omega (arith, c.loop-done-test.false, c.loop-done.invariant.0) in
    serves c.args.limits.longest (g.S.Store.held c.args.store.now) _ (g.L.Listen.seen c.loop-done.link) _ 99 0
    (g.S.Store.faults c.loop-done.store) (g.S.Store.faults c.turn-2.new.store) c.loop-done.intake.kept.items
    c.in-Err-turn.end (record { requests = c.requests_at-in-Err-turn.result; end = c.in-Err-turn.end })
    (serving_at _ _ _ _ c.loop-done.done 99 _ last c.loop-done.invariant.1)
    (stops_held _ _ _ _ _ _ _ _ _ _ c.loop-done.invariant.3 c.in-Err-turn.ensures.err) refl c.requests_at-in-Err-turn.ensures
