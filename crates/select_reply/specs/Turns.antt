-- What one record adds to a reply that has begun.
use Rattle.std.specs.Prelude.{ℕ, Bool, true, false, List, [], ◌∷◌, ◌++◌, length, map, if◌then◌else◌, Option, None, Some}
use Rattle.event_frame.specs.Event.{Event, records, end}
use Rattle.event_frame.specs.CountsText.{progress_of, stats_of}
use Rattle.select_reply.specs.declared.code.Code.{Code}
use Rattle.select_reply.specs.declared.outcome.Outcome.{Outcome}
use Rattle.select_reply.specs.declared.outcome.Outcome.TheVariants.{Done, Faulted}
use Rattle.select_reply.specs.declared.yields.RecordYield.{RecordYield}
use Rattle.select_reply.specs.declared.yields.RecordYield.TheVariants as told
use Rattle.select_reply.specs.Pieces.{piece, whole_pieces, remainder, unless_empty}
use Rattle.select_reply.specs.Yields.{Yield, silent, writes, fails, Yielded}
use Rattle.select_reply.specs.Events.{counts, error_event}
use Rattle.select_reply.specs.Begun.{Begun, counted, begun_counts, is_full, one_less}

-- what the code is told of a record
abbrev pub yield_of : RecordYield → Yield
yield_of told.Nothing = silent
yield_of (told.Output bytes delimiter) = writes (bytes.now ++ delimiter.now)
yield_of (told.Fault code) = fails code

abbrev pub yielded : ℕ → ℕ → Yield → Yielded
yielded start len gives = record { start = start; len = len; gives = gives }

-- the Progress event behind a piece, where progress was asked for
abbrev pub progress_behind : Bool → ℕ → ℕ → List Event
progress_behind false scanned place = []
progress_behind true scanned place = progress_of (counts scanned place) ∷ []

-- pieces that became whole with a record, when so many bytes were scanned and so many stand in pieces before them
abbrev pub grown_events : Bool → ℕ → ℕ → List (List ℕ) → List Event
grown_events progress scanned cut [] = []
grown_events progress scanned cut (bytes ∷ rest) =
    records bytes ∷ (progress_behind progress scanned (counted cut piece) ++ grown_events progress scanned (counted cut piece) rest)

-- the bytes in pieces behind these
abbrev pub cut_after : ℕ → List (List ℕ) → ℕ
cut_after cut [] = cut
cut_after cut (bytes ∷ rest) = cut_after (counted cut piece) rest

-- a record of so many bytes was scanned
abbrev pub scanned_more : Begun → ℕ → Begun
scanned_more b len = record { pending = b.pending; cut = b.cut; scanned = counted b.scanned len; progress = b.progress; left = b.left }

-- the output goes on
abbrev pub grown : Begun → List ℕ → Begun
grown b bytes = record {
  pending = remainder (b.pending ++ bytes);
  cut = cut_after b.cut (whole_pieces (b.pending ++ bytes));
  scanned = b.scanned;
  progress = b.progress;
  left = b.left;
}

-- one output less is allowed
abbrev pub used_one : Begun → Begun
used_one b = record { pending = b.pending; cut = b.cut; scanned = b.scanned; progress = b.progress; left = one_less b.left }

-- the events that more output makes
abbrev pub more_events : Begun → List ℕ → List Event
more_events b bytes = grown_events b.progress b.scanned b.cut (whole_pieces (b.pending ++ bytes))

-- the last piece of the output
abbrev pub last_events : Begun → List Event
last_events b = map records (unless_empty b.pending)

-- the reply ends with a fault
abbrev pub fault_events : Begun → Code → ℕ → List Event
fault_events b code at = last_events b ++ error_event code at ∷ []

-- the reply ends with its counts
abbrev pub end_events : Begun → List Event
end_events b = last_events b ++ stats_of (begun_counts b) ∷ end ∷ []

-- the reply after the output of a record of so many bytes
abbrev pub after_output : Begun → ℕ → List ℕ → Begun
after_output b len bytes = used_one (grown (scanned_more b len) bytes)

-- the reply after a record that goes on
abbrev pub after_yield : Begun → ℕ → Yield → Begun
after_yield b len silent = scanned_more b len
after_yield b len (writes bytes) = after_output b len bytes
after_yield b len (fails code) = b

abbrev pub after_record : Begun → Yielded → Begun
after_record b y = after_yield b y.len y.gives

-- where the limit is reached the reply ends
abbrev pub events_if_full : Begun → List Event
events_if_full b = if is_full b.left then end_events b else []

abbrev pub outcome_if_full : Begun → Option Outcome
outcome_if_full b = if is_full b.left then Some (Done (begun_counts b)) else None

-- the events that the output of a record of so many bytes adds, and how the reply ends with it
abbrev pub output_events : Begun → ℕ → List ℕ → List Event
output_events b len bytes = more_events (scanned_more b len) bytes ++ events_if_full (after_output b len bytes)

abbrev pub output_outcome : Begun → ℕ → List ℕ → Option Outcome
output_outcome b len bytes = outcome_if_full (after_output b len bytes)

-- the events that a record adds
abbrev pub yield_events : Begun → ℕ → ℕ → Yield → List Event
yield_events b start len silent = []
yield_events b start len (writes bytes) = output_events b len bytes
yield_events b start len (fails code) = fault_events b code start

abbrev pub record_events : Begun → Yielded → List Event
record_events b y = yield_events b y.start y.len y.gives

-- how the reply ends with the record, if it does
abbrev pub yield_outcome : Begun → ℕ → ℕ → Yield → Option Outcome
yield_outcome b start len silent = None
yield_outcome b start len (writes bytes) = output_outcome b len bytes
yield_outcome b start len (fails code) = Some (Faulted code start)

abbrev pub record_outcome : Begun → Yielded → Option Outcome
record_outcome b y = yield_outcome b y.start y.len y.gives

-- the piece that these bytes complete, and the Progress event behind it
abbrev pub piece_and_progress : Begun → List ℕ → List Event
piece_and_progress b bytes = records (b.pending ++ bytes) ∷ progress_behind b.progress b.scanned (counted b.cut piece)

-- behind the piece
abbrev pub piece_complete : Begun → Begun
piece_complete b = record { pending = []; cut = counted b.cut piece; scanned = b.scanned; progress = b.progress; left = b.left }

-- output that completes no piece
abbrev pub kept : Begun → List ℕ → Begun
kept b bytes = record { pending = b.pending ++ bytes; cut = b.cut; scanned = b.scanned; progress = b.progress; left = b.left }
