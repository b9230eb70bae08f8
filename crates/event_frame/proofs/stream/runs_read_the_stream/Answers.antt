use Rattle.event_frame.proofs.RunLaws.{reads_so_far, shows_there, same_events}
use Rattle.event_frame.proofs.stream.runs_read_the_stream.Goals as goal

pub returns-clause-spelled : goal.returns-clause-spelled
returns-clause-spelled c = reads_so_far

pub returns-clause-faulty : goal.returns-clause-faulty
returns-clause-faulty c = shows_there

pub returns-clause-alone : goal.returns-clause-alone
returns-clause-alone c = same_events
