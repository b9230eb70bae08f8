-- The record of totals as one more record.
use Rattle.select_reply.proofs.Tiles.{totals_are_one_more}
use Rattle.select_reply.proofs.laws.totals_are_one_more_record.Goals as goal

pub returns : goal.returns
returns c = totals_are_one_more
