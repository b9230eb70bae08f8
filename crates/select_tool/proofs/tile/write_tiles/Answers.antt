use Rattle.std.proofs.Common.{◌≡◌, ◌+◌, ◌-◌, ◌≤◌, List, [], ◌∷◌, get_or, drop, refl, ◌∙◌, subst, arith, map}
use Rattle.select_request.specs.declared.request.ScanRange.{ScanRange}
use Rattle.select_request.specs.declared.request.ScanRange.TheVariants.{Between, From}
use Rattle.select_job.specs.declared.asked.Asked.{Asked}
use Rattle.select_tool.specs.Replies.{most_read_of}
use Rattle.select_tool.specs.Tiles.{tile_of, tile_ranges, most_read_of_all}
use Rattle.select_tool.proofs.TileLaws.{read_on}
use Rattle.select_tool.proofs.TileSteps.{none_yet, range_ahead, range_last, ascend_ahead, same_tile, same_after, range_on, range_short, range_none, all_written, memory_kept}
use Rattle.select_tool.proofs.tile.write_tiles.Goals as goal

pub tiles-init : goal.tiles-init
tiles-init g c = record {
  asked = refl;
  ascend = c.requires.ascend;
  held = refl;
  current = refl;
  absent = refl;
  store_faults = omega arith;
  out_faults = omega arith;
  rest = refl;
  taken = omega arith;
  told = λ object tells. none_yet g.K.FrameSink.wrap c.args.limits.longest object c.args.job (tile_ranges 0 c.args.cuts.now) (g.K.FrameSink.written c.args.out.now);
}

pub returns-in-Err-clause-reply : goal.returns-in-Err-clause-reply
returns-in-Err-clause-reply g c = λ object tells.
    let i = c.tiles.invariant in
    let cuts = c.args.cuts.now in
    let at = c.tiles.cut-index in
    range_short g.K.FrameSink.wrap c.args.limits.longest object c.args.job c.tiles.job (tile_ranges 0 cuts) (tile_ranges (get_or cuts at 0) (drop (at + 1) cuts))
    (tile_ranges c.tiles.first (drop at cuts)) (Between c.tiles.first (get_or cuts at 0 - 1)) c.tiles.erred _ _ _ (i.told object tells)
    (range_ahead c.tiles.first cuts at c.tiles-test.true) i.asked (c.in-Err.ensures.reply object (i.current ∙ tells))

pub tiles-preserved : goal.tiles-preserved
tiles-preserved g c =
    let i = c.tiles.invariant in
    let e = c.in-Ok.ensures in
    let cuts = c.args.cuts.now in
    let at = c.tiles.cut-index in
    let cut = get_or cuts at 0 in
    let range = Between c.tiles.first (cut - 1) in
    let rest = tile_ranges cut (drop (at + 1) cuts) in
    let ahead : tile_ranges c.tiles.first (drop at cuts) ≡ range ∷ rest = range_ahead c.tiles.first cuts at c.tiles-test.true in
    let before = g.S.Store.taken c.tiles.store in
    let now = g.S.Store.taken c.write_tile.new.store in
    let upto = g.S.Store.taken c.args.store.now + most_read_of_all c.args.limits.longest c.args.size (map (tile_of c.args.job) (tile_ranges 0 cuts)) in
    record {
      asked = same_after c.args.job c.tiles.job c.write_tile.new.job range i.asked e.job;
      ascend = (ascend_ahead c.tiles.first cuts at c.tiles-test.true i.ascend).1;
      held = e.held ∙ i.held;
      current = e.current ∙ i.current;
      absent = e.absent ∙ i.absent;
      store_faults = omega (arith, i.store_faults, e.store_faults);
      out_faults = omega (arith, i.out_faults, e.out_faults);
      rest = e.rest ∙ i.rest;
      taken = read_on c.args.limits.longest c.args.size c.args.job range rest before now upto
          (subst (λ (t : Asked). now ≤ before + most_read_of c.args.limits.longest c.args.size t) (same_tile c.args.job c.tiles.job range i.asked) e.near)
          (subst (λ (l : List ScanRange). before + most_read_of_all c.args.limits.longest c.args.size (map (tile_of c.args.job) l) ≤ upto) ahead i.taken);
      told = λ object tells.
          let written = e.reply object (i.current ∙ tells) in
          range_on g.K.FrameSink.wrap c.args.limits.longest object c.args.job c.tiles.job (tile_ranges 0 cuts) rest (tile_ranges c.tiles.first (drop at cuts)) range c.tiles.erred _ _ _
          (i.told object tells) ahead i.asked c.in-Ok.outcome c.has_error-erred.result c.has_error-erred.ensures written.1 written.0;
    }

pub returns-clause-reply : goal.returns-clause-reply
returns-clause-reply g c = λ object tells.
    let i = c.tiles.invariant in
    let cuts = c.args.cuts.now in
    let at = c.tiles.cut-index in
    range_short g.K.FrameSink.wrap c.args.limits.longest object c.args.job c.tiles.job (tile_ranges 0 cuts) [] (tile_ranges c.tiles.first (drop at cuts)) (From c.tiles.first)
    c.tiles.erred _ _ _ (i.told object tells) (range_last c.tiles.first cuts at c.tiles-test.false) i.asked
    (c.in-Err-write_tile.ensures.reply object (i.current ∙ tells))

pub returns-in-Err-clause-memory : goal.returns-in-Err-clause-memory
returns-in-Err-clause-memory g c = λ refused object tells.
    let i = c.tiles.invariant in
    let cuts = c.args.cuts.now in
    let at = c.tiles.cut-index in
    range_none g.K.FrameSink.wrap c.args.limits.longest object c.args.job c.tiles.job (tile_ranges 0 cuts) (tile_ranges (get_or cuts at 0) (drop (at + 1) cuts))
    (tile_ranges c.tiles.first (drop at cuts)) (Between c.tiles.first (get_or cuts at 0 - 1)) c.tiles.erred _ _ _ (i.told object tells)
    (range_ahead c.tiles.first cuts at c.tiles-test.true) i.asked (memory_kept c.in-Err.trouble _ _ _ refused c.in-Err.ensures.cause)

pub returns-in-Ok-write_tile-clause-reply : goal.returns-in-Ok-write_tile-clause-reply
returns-in-Ok-write_tile-clause-reply g c = λ object tells.
    let i = c.tiles.invariant in
    let cuts = c.args.cuts.now in
    let at = c.tiles.cut-index in
    let written = c.in-Ok-write_tile.ensures.reply object (i.current ∙ tells) in
    all_written g.K.FrameSink.wrap c.args.limits.longest object c.args.job (tile_ranges 0 cuts) _ _ _
    (range_on g.K.FrameSink.wrap c.args.limits.longest object c.args.job c.tiles.job (tile_ranges 0 cuts) [] (tile_ranges c.tiles.first (drop at cuts))
    (From c.tiles.first) c.tiles.erred _ _ _ (i.told object tells) (range_last c.tiles.first cuts at c.tiles-test.false) i.asked
    c.in-Ok-write_tile.outcome c.has_error.result c.has_error.ensures written.1 written.0)

pub returns-clause-memory : goal.returns-clause-memory
returns-clause-memory g c = λ refused object tells.
    let i = c.tiles.invariant in
    let cuts = c.args.cuts.now in
    let at = c.tiles.cut-index in
    range_none g.K.FrameSink.wrap c.args.limits.longest object c.args.job c.tiles.job (tile_ranges 0 cuts) [] (tile_ranges c.tiles.first (drop at cuts))
    (From c.tiles.first) c.tiles.erred _ _ _ (i.told object tells) (range_last c.tiles.first cuts at c.tiles-test.false) i.asked
    (memory_kept c.in-Err-write_tile.trouble _ _ _ refused c.in-Err-write_tile.ensures.cause)
