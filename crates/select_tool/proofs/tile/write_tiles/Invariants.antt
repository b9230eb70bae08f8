use Rattle.std.proofs.Common.{◌≡◌, ℕ, ◌+◌, ◌≤◌, List, drop, map}
use Rattle.line_window.specs.Sliding.{Tells}
use Rattle.record_stream.specs.Tiling.{Ascend}
use Rattle.select_job.specs.Jobs.{with_range}
use Rattle.select_tool.specs.Tiles.{TiledSoFar, most_read_of_all, tile_of, tile_ranges}
use Rattle.select_tool.proofs.tile.write_tiles.Given as goal

abbrev pub invariant-tiles : goal.invariant-tiles
invariant-tiles g l = record {
  asked : l.job ≡ with_range l.initial.job l.job.request.range;
  ascend : Ascend l.first (drop l.cut-index l.cuts);
  held : g.S.Store.held l.store ≡ g.S.Store.held l.initial.store;
  current : g.S.Store.current l.store ≡ g.S.Store.current l.initial.store;
  absent : g.S.Store.absent l.store ≡ g.S.Store.absent l.initial.store;
  store_faults : g.S.Store.faults l.initial.store ≤ g.S.Store.faults l.store;
  out_faults : g.K.FrameSink.faults l.initial.out ≤ g.K.FrameSink.faults l.out;
  rest : g.K.FrameSink.rest l.out ≡ g.K.FrameSink.rest l.initial.out;
  taken : g.S.Store.taken l.store + most_read_of_all l.limits.longest l.size (map (tile_of l.initial.job) (tile_ranges l.first (drop l.cut-index l.cuts)))
      ≤ g.S.Store.taken l.initial.store + most_read_of_all l.limits.longest l.size (map (tile_of l.initial.job) (tile_ranges 0 l.cuts));
  told : (object : List ℕ) → Tells (g.S.Store.current l.initial.store) object
      → TiledSoFar g.K.FrameSink.wrap l.limits.longest object l.initial.job (tile_ranges 0 l.cuts) (tile_ranges l.first (drop l.cut-index l.cuts)) l.erred
      (g.K.FrameSink.written l.initial.out) (g.K.FrameSink.written l.out);
}
