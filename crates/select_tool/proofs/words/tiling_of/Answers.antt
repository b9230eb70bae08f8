use Rattle.std.proofs.Common.{sym}
use Rattle.select_tool.proofs.WordLaws.{all_ascend}
use Rattle.select_tool.proofs.words.tiling_of.Goals as goal

pub returns-in-Some-clause-ascend : goal.returns-in-Some-clause-ascend
returns-in-Some-clause-ascend c = all_ascend c.args.words.now c.in-Some.cuts.items (sym c.in-Some.ensures)
