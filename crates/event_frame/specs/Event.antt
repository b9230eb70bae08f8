-- The events of a SelectObjectContent reply (Amazon S3 API Reference, "Appendix: SelectObjectContent
-- Response") and the frame of each: a message whose headers name the event.
use Rattle.std.specs.Prelude.{ℕ, List, [], ◌∷◌, codes}
use Rattle.event_frame.specs.Message.{Header, print_headers, message_of}

pub data Event : Type 0 where
  -- output of the query
  records : List ℕ → Event
  -- a sign of life
  cont : Event
  -- the counts so far and the last counts, as texts
  progress stats : List ℕ → Event
  -- the whole reply came
  end : Event
  -- the query ended here, with a code and a message
  error : List ℕ → List ℕ → Event

abbrev pub header : List ℕ → List ℕ → Header
header name value = record { name = name; value = value }

-- the first two headers of every event but an error
abbrev pub event_headers : List ℕ → List Header → List Header
event_headers kind more = header (codes ":message-type") (codes "event") ∷ header (codes ":event-type") kind ∷ more

-- the headers in the order in which they are written
abbrev pub headers_of : Event → List Header
headers_of (records output) =
    event_headers (codes "Records") (header (codes ":content-type") (codes "application/octet-stream") ∷ [])
headers_of cont = event_headers (codes "Cont") []
headers_of (progress text) = event_headers (codes "Progress") (header (codes ":content-type") (codes "text/xml") ∷ [])
headers_of (stats text) = event_headers (codes "Stats") (header (codes ":content-type") (codes "text/xml") ∷ [])
headers_of end = event_headers (codes "End") []
headers_of (error code message) =
    header (codes ":message-type") (codes "error") ∷ header (codes ":error-code") code
    ∷ header (codes ":error-message") message ∷ []

abbrev pub payload_of : Event → List ℕ
payload_of (records output) = output
payload_of cont = []
payload_of (progress text) = text
payload_of (stats text) = text
payload_of end = []
payload_of (error code message) = []

-- the one frame that is written for an event
unfoldable pub frame_of : Event → List ℕ
frame_of event = message_of (print_headers (headers_of event)) (payload_of event)
