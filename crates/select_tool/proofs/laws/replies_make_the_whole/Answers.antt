use Rattle.select_tool.proofs.WholeLaws.{each_tiling_makes_whole}
use Rattle.select_tool.proofs.laws.replies_make_the_whole.Goals as goal

pub returns : goal.returns
returns c =
    let records = c.tiles_have_each_record_once.ensures in
    let replies = c.tiles_make_the_whole.ensures in
    each_tiling_makes_whole records.lines records.selects records.join c.planned_lines_are_alone.ensures replies.join replies.fail
