-- What bytes stand for when they are read as a message of the event stream encoding. Headers may come
-- in any order, and those of other names are passed over.
use Rattle.std.specs.Prelude.{◌≡◌, ◌≢◌, ℕ, ◌+◌, ◌-◌, ◌<◌, ◌≤◌, ◌⊎◌, ◌||◌, not, ◌==◌, nat_lt, List, [], ◌∷◌, ◌++◌, length, take, drop, Option, None, Some, unwrap_or, option_and_then, if◌then◌else◌, codes, ⊤}
use Rattle.std.specs.Option.{option_map}
use Rattle.std.specs.Str.{bytes_eq}
use Rattle.std.specs.Int.{w32, from_be_bytes}
use Rattle.event_frame.specs.Crc.{crc_of}
use Rattle.event_frame.specs.Message.{Header, print_header, print_headers, message_of}
use Rattle.event_frame.specs.Event.{Event, records, cont, progress, stats, end, error}
use Rattle.event_frame.specs.declared.fault.FrameFaultCode.{FrameFaultCode}
use Rattle.event_frame.specs.declared.fault.FrameFaultCode.TheVariants.{BadPreludeCrc, BadLengths, TooLarge, BadMessageCrc, BadHeader, UnknownEvent}

-- ---- headers

-- a header that can be written: its name isn't empty, and its lengths fit their bytes
pub record IsHeader (h : Header) : Type 0 where
  pub named : 0 < length h.name
  pub name_fits : length h.name < 256
  pub value_fits : length h.value < 65536

-- the value of the header of this name
abbrev pub value_of : List ℕ → List Header → Option (List ℕ)
value_of name [] = None
value_of name (h ∷ headers) = if bytes_eq h.name name then Some h.value else value_of name headers

-- headers of a message, one after the other: no name comes twice
abbrev pub AreHeaders : List Header → Type 0
AreHeaders [] = ⊤
AreHeaders (h ∷ headers) = IsHeader h × (value_of h.name headers ≡ None) × AreHeaders headers

-- after these headers the rest begins with none that can be written and has another name
pub record StopsAt (headers : List Header) (rest : List ℕ) : Type 0 where
  pub some : 0 < length rest
  pub bad : (h : Header) (more : List ℕ) → IsHeader h → value_of h.name headers ≡ None → rest ≢ print_header h ++ more

-- ---- events

-- the event of this type
abbrev pub event_named : List ℕ → List ℕ → Option Event
event_named kind payload =
    if bytes_eq kind (codes "Records") then Some (records payload)
    else if bytes_eq kind (codes "Cont") then Some cont
    else if bytes_eq kind (codes "Progress") then Some (progress payload)
    else if bytes_eq kind (codes "Stats") then Some (stats payload)
    else if bytes_eq kind (codes "End") then Some end
    else None

-- an error of the code in these headers; without a message it has the empty one
abbrev pub error_meant : List Header → Option Event
error_meant headers =
    option_map (λ code. error code (unwrap_or (value_of (codes ":error-message") headers) []))
    (value_of (codes ":error-code") headers)

-- the event that a message of this type means
abbrev pub event_typed : List ℕ → List Header → List ℕ → Option Event
event_typed kind headers payload =
    if bytes_eq kind (codes "event")
    then option_and_then (λ name. event_named name payload) (value_of (codes ":event-type") headers)
    else if bytes_eq kind (codes "error") then error_meant headers else None

-- the event that a message with these headers and this payload means
abbrev pub event_meant : List Header → List ℕ → Option Event
event_meant headers payload =
    option_and_then (λ kind. event_typed kind headers payload) (value_of (codes ":message-type") headers)

-- ---- frames

-- the longest frame that is read: 16 MiB
abbrev pub longest_frame : ℕ
longest_frame = 16777216

-- the bytes are a frame of the event
pub record IsFrame (bytes : List ℕ) (event : Event) : Type 0 where
  pub headers : List Header
  pub payload : List ℕ
  pub are_headers : AreHeaders headers
  pub spelled : bytes ≡ message_of (print_headers headers) payload
  pub meant : event_meant headers payload ≡ Some event
  pub fits : length bytes ≤ longest_frame

-- the number of four bytes that begin at a place
unfoldable pub number_at : List ℕ → ℕ → ℕ
number_at bytes at = from_be_bytes w32 (drop at bytes)

-- the fault that the twelve bytes of a prelude show, and its place in the frame: the first of a wrong
-- CRC, lengths that can't be, and a frame that is too large
unfoldable pub prelude_fault : List ℕ → Option (FrameFaultCode × ℕ)
prelude_fault bytes =
    if not (number_at bytes 8 == crc_of (take 8 bytes)) then Some (BadPreludeCrc, 8)
    else if nat_lt (number_at bytes 0) 16 || nat_lt (number_at bytes 0 - 16) (number_at bytes 4) then Some (BadLengths, 0)
    else if nat_lt longest_frame (number_at bytes 0) then Some (TooLarge, 0)
    else None

-- the bytes begin with a prelude without fault
pub record HasPrelude (bytes : List ℕ) : Type 0 where
  pub whole : 12 ≤ length bytes
  pub sound : prelude_fault bytes ≡ None

-- the bytes begin a frame and don't end it
abbrev pub IsBegun : List ℕ → Type 0
IsBegun bytes = (length bytes < 12) ⊎ (HasPrelude bytes × (length bytes < number_at bytes 0))

-- the bytes are as many as their prelude states
pub record IsWhole (bytes : List ℕ) : Type 0 where
  pub prelude : HasPrelude bytes
  pub size : length bytes ≡ number_at bytes 0

-- the header bytes and the payload of a whole message
abbrev pub headers_part : List ℕ → List ℕ
headers_part bytes = take (number_at bytes 4) (drop 12 bytes)

abbrev pub payload_part : List ℕ → List ℕ
payload_part bytes = take (length bytes - 4 - (12 + number_at bytes 4)) (drop (12 + number_at bytes 4) bytes)

-- the CRC of a whole message is wrong
abbrev pub HasBadCrc : List ℕ → Type 0
HasBadCrc bytes = IsWhole bytes × (number_at bytes (length bytes - 4) ≢ crc_of (take (length bytes - 4) bytes))

-- the headers of a message go bad behind these good ones
pub record HasBadHeader (bytes : List ℕ) (place : ℕ) : Type 0 where
  pub headers : List Header
  pub rest : List ℕ
  pub payload : List ℕ
  pub are_headers : AreHeaders headers
  pub stops : StopsAt headers rest
  pub spelled : bytes ≡ message_of (print_headers headers ++ rest) payload
  pub place_is : place ≡ 12 + length (print_headers headers)

-- the headers of a message mean no event
pub record HasNoEvent (bytes : List ℕ) : Type 0 where
  pub headers : List Header
  pub payload : List ℕ
  pub are_headers : AreHeaders headers
  pub spelled : bytes ≡ message_of (print_headers headers) payload
  pub none : event_meant headers payload ≡ None

-- the bytes are the shortest front of a frame that shows this fault, at this place in the frame
abbrev pub IsFaulty : List ℕ → FrameFaultCode → ℕ → Type 0
IsFaulty bytes BadMessageCrc place = HasBadCrc bytes × (place ≡ length bytes - 4)
IsFaulty bytes BadHeader place = IsWhole bytes × HasBadHeader bytes place
IsFaulty bytes UnknownEvent place = IsWhole bytes × HasNoEvent bytes × (place ≡ 12)
IsFaulty bytes BadPreludeCrc place = (length bytes ≡ 12) × (prelude_fault bytes ≡ Some (BadPreludeCrc, place))
IsFaulty bytes BadLengths place = (length bytes ≡ 12) × (prelude_fault bytes ≡ Some (BadLengths, place))
IsFaulty bytes TooLarge place = (length bytes ≡ 12) × (prelude_fault bytes ≡ Some (TooLarge, place))
