-- The replies over tiles.
use Rattle.select_reply.proofs.Tiles.{each_tiles_join, each_tiles_fail}
use Rattle.select_reply.proofs.laws.tiles_make_the_whole.Goals as goal

pub returns-clause-join : goal.returns-clause-join
returns-clause-join c = each_tiles_join

pub returns-clause-fail : goal.returns-clause-fail
returns-clause-fail c = each_tiles_fail
