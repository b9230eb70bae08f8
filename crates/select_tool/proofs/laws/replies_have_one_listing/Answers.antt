use Rattle.select_tool.proofs.OneListing.{one_answer}
use Rattle.select_tool.proofs.laws.replies_have_one_listing.Goals as goal

pub returns : goal.returns
returns c = one_answer c.stream_has_one_reading.ensures c.counts_have_one_reading.ensures
