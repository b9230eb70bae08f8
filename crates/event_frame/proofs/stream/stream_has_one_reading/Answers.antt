use Rattle.event_frame.proofs.Unique.{same_reading}
use Rattle.event_frame.proofs.stream.stream_has_one_reading.Goals as goal

pub returns : goal.returns
returns c bytes rest other_rest events other_events fault other_fault x y =
    same_reading bytes rest other_rest events other_events fault other_fault x.spelled x.ended y.spelled y.ended
