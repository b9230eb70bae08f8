use Rattle.record_stream.proofs.AloneLaws.{each_range_selects}
use Rattle.record_stream.proofs.TilingLaws.{each_line_is_in_one_tile, each_tiling_joins, each_tiling_makes_the_whole}
use Rattle.record_stream.proofs.laws.tiles_have_each_record_once.Goals as goal

pub returns-clause-lines : goal.returns-clause-lines
returns-clause-lines c = each_line_is_in_one_tile c.adjacent_ranges_append.ensures.cuts

pub returns-clause-selects : goal.returns-clause-selects
returns-clause-selects c = each_range_selects

pub returns-clause-join : goal.returns-clause-join
returns-clause-join c = each_tiling_joins c.adjacent_ranges_append.ensures.cuts

pub returns-clause-whole : goal.returns-clause-whole
returns-clause-whole c = each_tiling_makes_the_whole c.adjacent_ranges_append.ensures.cuts c.tiles_make_the_whole.ensures.join
