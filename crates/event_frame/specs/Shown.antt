-- What an event that is lent shows.
use Rattle.event_frame.specs.Event.{Event, records, cont, progress, stats, end, error}
use Rattle.event_frame.specs.declared.event.EventView.{EventView}
use Rattle.event_frame.specs.declared.event.EventView.TheVariants.{Records, Cont, Progress, Stats, End, Error}

-- the event itself
abbrev pub event_shown : EventView → Event
event_shown (Records output) = records output.now
event_shown Cont = cont
event_shown (Progress text) = progress text.now
event_shown (Stats text) = stats text.now
event_shown End = end
event_shown (Error code message) = error code.now message.now
