use Rattle.std.proofs.Common.{IfSome, sym, subst}
use Rattle.select_ports.specs.Stored.{Opened}
use Rattle.select_tool.specs.Tiles.{TookNearTiles, TookTwiceATile}
use Rattle.select_tool.proofs.SelectLaws.{near_opened_tiles}
use Rattle.select_tool.proofs.TileLaws.{all_tiled, once_opened}
use Rattle.select_tool.proofs.tile.tile.Goals as goal

pub returns-clause-reply : goal.returns-clause-reply
returns-clause-reply g c =
    all_tiled c.args.limits.longest (g.S.Store.held c.args.store.now) (g.I.Source.left c.args.input.now) c.args.name.now c.in_ok-size.size (g.S.Store.current c.open.new.store)
    c.args.cuts.now c.in_ok-asked.asked _ _ c.in_ok-size.ensures.opened c.in_ok-asked.ensures.asked c.replies_make_the_whole.ensures c.requires.ascend
    c.write_plain.result c.write_plain.ensures.reply

pub returns-clause-taken : goal.returns-clause-taken
returns-clause-taken g c =
    subst (λ (o : Opened). TookTwiceATile o c.args.cuts.now (g.S.Store.taken c.args.store.now) (g.S.Store.taken c.write_plain.new.store))
    (sym c.write_plain.ensures.current)
    (once_opened c.args.limits.longest (g.S.Store.held c.args.store.now) c.args.name.now c.in_ok-size.size (g.S.Store.current c.open.new.store) c.args.cuts.now c.in_ok-asked.asked _
    (g.S.Store.taken c.open.new.store) _ c.in_ok-size.ensures.opened c.open.ensures.taken c.write_plain.ensures.taken)

pub returns-clause-near : goal.returns-clause-near
returns-clause-near g c =
    subst (λ (o : Opened). IfSome (g.I.Source.left c.args.input.now)
    (λ body. TookNearTiles c.args.limits.longest o body c.args.cuts.now (g.S.Store.taken c.args.store.now) (g.S.Store.taken c.write_plain.new.store)))
    (sym c.write_plain.ensures.current)
    (near_opened_tiles c.args.limits.longest (g.S.Store.held c.args.store.now) (g.I.Source.left c.args.input.now) c.args.name.now c.in_ok-size.size
    (g.S.Store.current c.open.new.store) c.in_ok-asked.asked c.args.cuts.now _ (g.S.Store.taken c.open.new.store) _ c.body_asks_one_thing.ensures
    c.in_ok-size.ensures.opened c.in_ok-asked.ensures.asked c.open.ensures.taken c.write_plain.ensures.taken)
