use Rattle.std.proofs.Common.{◌+◌, ◌-◌, ◌++◌, map, get_or, drop, [], refl, sym, ◌∙◌, arith}
use Rattle.select_request.specs.declared.request.ScanRange.TheVariants.{Between, From}
use Rattle.select_tool.specs.Tiles.{tile_ranges}
use Rattle.select_tool.specs.Demo.{tile_lines, tile_outcome}
use Rattle.select_tool.proofs.TileSteps.{range_ahead, range_last, ascend_ahead, same_tile, same_after}
use Rattle.select_tool.proofs.DemoLaws.{one_line_more, lines_done}
use Rattle.select_tool.proofs.demo.add_tiles.Goals as goal

pub tiles-preserved : goal.tiles-preserved
tiles-preserved g c =
    let i = c.tiles.invariant in
    let e = c.in_ok-line.ensures in
    let cuts = c.args.cuts.now in
    let at = c.tiles.cut-index in
    let cut = get_or cuts at 0 in
    let range = Between c.tiles.first (cut - 1) in
    record {
      asked = same_after c.args.job c.tiles.job c.line_of_tile.new.job range i.asked e.job;
      ascend = (ascend_ahead c.tiles.first cuts at c.tiles-test.true i.ascend).1;
      counted = omega (arith, i.counted);
      current = e.current ∙ i.current;
      told = λ object tells.
          one_line_more object c.args.job (c.args.text.now.items ++ tile_lines 1 (map (tile_outcome object c.args.job) (tile_ranges 0 cuts)))
          c.tiles.text.items c.in_ok-line.line.bytes c.extend_from_slice.new.self.items c.tiles.number (tile_ranges c.tiles.first (drop at cuts))
          (tile_ranges cut (drop (at + 1) cuts)) range c.tiles.job (i.told object tells) (range_ahead c.tiles.first cuts at c.tiles-test.true)
          (same_tile c.args.job c.tiles.job range i.asked) (e.line object (i.current ∙ tells))
          (c.in_ok-extend_from_slice.ensures.items ∙ rw (c.as_bytes.ensures.value, c.as_str.ensures.value) refl);
    }

pub returns : goal.returns
returns g c = λ object tells.
    let i = c.tiles.invariant in
    let e = c.in_ok-line-2.ensures in
    let cuts = c.args.cuts.now in
    let at = c.tiles.cut-index in
    let range = From c.tiles.first in
    sym (one_line_more object c.args.job (c.args.text.now.items ++ tile_lines 1 (map (tile_outcome object c.args.job) (tile_ranges 0 cuts)))
    c.tiles.text.items c.in_ok-line-2.line.bytes c.extend_from_slice-2.new.self.items c.tiles.number (tile_ranges c.tiles.first (drop at cuts))
    [] range c.tiles.job (i.told object tells) (range_last c.tiles.first cuts at c.tiles-test.false)
    (same_tile c.args.job c.tiles.job range i.asked) (e.line object (i.current ∙ tells))
    (c.in_ok-extend_from_slice-2.ensures.items ∙ rw (c.as_bytes-2.ensures.value, c.as_str-2.ensures.value) refl)
    ∙ lines_done object c.args.job (c.tiles.number + 1) c.extend_from_slice-2.new.self.items)
