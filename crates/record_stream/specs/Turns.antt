-- What the next cut of a window adds to a reply that has begun.
use Rattle.std.specs.Prelude.{List, [], ◌++◌, Option, None, Some}
use Rattle.event_frame.specs.Event.{Event}
use Rattle.select_reply.specs.declared.outcome.Outcome.{Outcome}
use Rattle.select_reply.specs.declared.outcome.Outcome.TheVariants.{Done}
use Rattle.select_reply.specs.Yields.{Yielded}
use Rattle.select_reply.specs.Begun.{Begun, begun_counts}
use Rattle.select_reply.specs.Turns.{record_events, record_outcome, after_record, end_events}

-- the cut is no record and is passed over, or its record yields; or no cut is left, or none but one record more
pub data Turn : Type 0 where
  passes : Turn
  yields : Yielded → Turn
  ends : Turn
  closes : Yielded → Turn

-- the events that close a reply, unless it ended so, and how it ends then
abbrev pub events_unless : Option Outcome → Begun → List Event
events_unless None b = end_events b
events_unless (Some outcome) b = []

abbrev pub outcome_unless : Option Outcome → Begun → Outcome
outcome_unless None b = Done (begun_counts b)
outcome_unless (Some outcome) b = outcome

-- the events that a turn adds
abbrev pub turn_events : Begun → Turn → List Event
turn_events b passes = []
turn_events b (yields y) = record_events b y
turn_events b ends = end_events b
turn_events b (closes y) = record_events b y ++ events_unless (record_outcome b y) (after_record b y)

-- how the reply ends with the turn, if it does
abbrev pub turn_outcome : Begun → Turn → Option Outcome
turn_outcome b passes = None
turn_outcome b (yields y) = record_outcome b y
turn_outcome b ends = Some (Done (begun_counts b))
turn_outcome b (closes y) = Some (outcome_unless (record_outcome b y) (after_record b y))

-- the reply after the turn, where it goes on
abbrev pub after_turn : Begun → Turn → Begun
after_turn b passes = b
after_turn b (yields y) = after_record b y
after_turn b ends = b
after_turn b (closes y) = b
