use Rattle.std.proofs.Common.{sym, subst}
use Rattle.record_stream.specs.Tiling.{Ascend}
use Rattle.select_tool.proofs.DemoLaws.{ascend_sevenths}
use Rattle.select_tool.proofs.demo.summary_of_query.Goals as goal

pub add_tiles-requires-clause-ascend : goal.add_tiles-requires-clause-ascend
add_tiles-requires-clause-ascend g c = subst (Ascend 0) (sym c.sevenths.ensures.cuts) (ascend_sevenths c.args.size c.requires.long)
