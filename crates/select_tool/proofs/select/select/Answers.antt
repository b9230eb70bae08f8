use Rattle.std.proofs.Common.{◌≡◌, ◌-◌, IfSome, sym, subst, arith}
use Rattle.std.proofs.KnownBytes.{Keeps-refl}
use Rattle.select_ports.specs.Stored.{Opened}
use Rattle.select_tool.specs.Replies.{IsNotHeldBack, NotHeldBack, TookNear, TookTwice}
use Rattle.select_tool.proofs.NothingRead.{wrote_none}
use Rattle.select_tool.proofs.ReplyLaws.{all_told}
use Rattle.select_tool.proofs.SelectLaws.{all_replied, all_cut, all_early, near_opened}
use Rattle.select_tool.proofs.TileLaws.{twice_opened}
use Rattle.select_tool.proofs.select.select.Goals as goal

pub returns-in_err-size-clause-early : goal.returns-in_err-size-clause-early
returns-in_err-size-clause-early g c = λ is.
    let taken = g.S.Store.taken c.open.new.store - g.S.Store.taken c.args.store.now in
    let none : taken ≡ 0 = omega (arith, c.open.ensures.taken) in
    let written = g.O.Sink.written c.args.out.now in
    all_told (g.S.Store.held c.args.store.now) (g.I.Source.left c.args.input.now) c.args.name.now
    (λ object body. NotHeldBack c.args.limits.longest object body taken written written)
    (λ object body asked prepared. wrote_none c.unread_output_is_not_due.ensures (λ frame. frame) c.args.limits.longest object taken asked written written none (Keeps-refl written))

pub returns-clause-taken : goal.returns-clause-taken
returns-clause-taken g c =
    subst (λ (o : Opened). TookTwice o (g.S.Store.taken c.args.store.now) (g.S.Store.taken c.write_plain.new.store))
    (sym c.write_plain.ensures.current)
    (twice_opened c.args.limits.longest (g.S.Store.held c.args.store.now) c.args.name.now c.in_ok-size.size (g.S.Store.current c.open.new.store) c.in_ok-asked.asked _
    (g.S.Store.taken c.open.new.store) _ c.in_ok-size.ensures.opened c.open.ensures.taken c.write_plain.ensures.near)

pub returns-clause-reply : goal.returns-clause-reply
returns-clause-reply g c =
    all_replied c.args.limits.longest (g.S.Store.held c.args.store.now) (g.I.Source.left c.args.input.now) c.args.name.now c.in_ok-size.size
    (g.S.Store.current c.open.new.store) c.in_ok-asked.asked _ _ c.in_ok-size.ensures.opened c.in_ok-asked.ensures.asked c.write_plain.result
    c.write_plain.ensures.reply

pub returns-clause-front : goal.returns-clause-front
returns-clause-front g c =
    all_cut c.args.limits.longest (g.S.Store.held c.args.store.now) (g.I.Source.left c.args.input.now) c.args.name.now c.in_ok-size.size
    (g.S.Store.current c.open.new.store) c.in_ok-asked.asked _ _ c.in_ok-size.ensures.opened c.in_ok-asked.ensures.asked c.write_plain.result
    c.write_plain.ensures.reply

pub returns-clause-early : goal.returns-clause-early
returns-clause-early g c = λ failed.
    let same : g.S.Store.taken c.open.new.store ≡ g.S.Store.taken c.args.store.now = c.open.ensures.taken in
    all_early c.args.limits.longest (g.S.Store.held c.args.store.now) (g.I.Source.left c.args.input.now) c.args.name.now c.in_ok-size.size
    (g.S.Store.current c.open.new.store) c.in_ok-asked.asked _ _ c.in_ok-size.ensures.opened c.in_ok-asked.ensures.asked c.body_asks_one_thing.ensures
    (g.S.Store.taken c.write_plain.new.store - g.S.Store.taken c.args.store.now)
    (λ object tells.
    subst (λ t. IsNotHeldBack (λ frame. frame) c.args.limits.longest object (g.S.Store.taken c.write_plain.new.store - t) c.in_ok-asked.asked
    (g.O.Sink.written c.args.out.now) (g.O.Sink.written c.write_plain.new.out)) same
    (c.write_plain.ensures.early object tells failed))

pub returns-clause-near : goal.returns-clause-near
returns-clause-near g c =
    subst (λ (o : Opened). IfSome (g.I.Source.left c.args.input.now)
    (λ body. TookNear c.args.limits.longest o body (g.S.Store.taken c.args.store.now) (g.S.Store.taken c.write_plain.new.store)))
    (sym c.write_plain.ensures.current)
    (near_opened c.args.limits.longest (g.S.Store.held c.args.store.now) (g.I.Source.left c.args.input.now) c.args.name.now c.in_ok-size.size
    (g.S.Store.current c.open.new.store) c.in_ok-asked.asked _ (g.S.Store.taken c.open.new.store) _ c.body_asks_one_thing.ensures
    c.in_ok-size.ensures.opened c.in_ok-asked.ensures.asked c.open.ensures.taken c.write_plain.ensures.near)
