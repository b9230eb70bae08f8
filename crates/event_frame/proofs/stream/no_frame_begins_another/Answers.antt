use Rattle.event_frame.proofs.Unique.{nothing_behind, one_event}
use Rattle.event_frame.proofs.stream.no_frame_begins_another.Goals as goal

pub returns-clause-front : goal.returns-clause-front
returns-clause-front c = nothing_behind

pub returns-clause-event : goal.returns-clause-event
returns-clause-event c = one_event
