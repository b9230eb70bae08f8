use Rattle.std.proofs.Common.{◌≡◌, ℕ, ◌+◌, List, ◌++◌, drop, map}
use Rattle.line_window.specs.Sliding.{Tells}
use Rattle.record_stream.specs.Tiling.{Ascend}
use Rattle.select_job.specs.Jobs.{with_range}
use Rattle.select_tool.specs.Tiles.{tile_ranges}
use Rattle.select_tool.specs.Demo.{tile_lines, tile_outcome}
use Rattle.select_tool.proofs.demo.add_tiles.Given as goal

abbrev pub invariant-tiles : goal.invariant-tiles
invariant-tiles g l = record {
  asked : l.job ≡ with_range l.initial.job l.job.request.range;
  ascend : Ascend l.first (drop l.cut-index l.cuts);
  counted : l.number ≡ 1 + l.cut-index;
  current : g.S.Store.current l.store ≡ g.S.Store.current l.initial.store;
  told : (object : List ℕ) → Tells (g.S.Store.current l.initial.store) object
      → l.initial.text.items ++ tile_lines 1 (map (tile_outcome object l.initial.job) (tile_ranges 0 l.cuts))
      ≡ l.text.items ++ tile_lines l.number (map (tile_outcome object l.initial.job) (tile_ranges l.first (drop l.cut-index l.cuts)));
}
