use Rattle.event_frame.proofs.OneCounts.{one_counts}
use Rattle.event_frame.proofs.stream.counts_have_one_reading.Goals as goal

pub returns : goal.returns
returns c = one_counts
