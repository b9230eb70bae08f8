-- The events of a reply (Amazon S3 API Reference, "Appendix: SelectObjectContent Response"): the output in pieces, each with a
-- Progress event behind it where progress was asked for, and then an Error event, or Stats and End.
use Rattle.std.specs.Prelude.{ℕ, ◌+◌, Bool, true, false, nat_le, List, [], ◌∷◌, ◌++◌, length, map, Option, None, Some}
use Rattle.std.specs.List.{flat_map}
use Rattle.event_frame.specs.declared.counts.Counts.{Counts}
use Rattle.event_frame.specs.Event.{Event, records, end, error, frame_of}
use Rattle.event_frame.specs.CountsText.{progress_of, stats_of}
use Rattle.select_reply.specs.declared.code.Code.{Code}
use Rattle.select_reply.specs.Codes.{code_text, message}
use Rattle.select_reply.specs.Pieces.{piece, whole_pieces, remainder, unless_empty}
use Rattle.select_reply.specs.Yields.{Yielded, output, total_len, fault}
use Rattle.select_reply.specs.Answers.{shortest_front}

-- an Error event, which names a code and a place
abbrev pub error_event : Code → ℕ → Event
error_event code at = error (code_text code) (message code at)

-- so many bytes of records were scanned and processed, and so many bytes of output returned
abbrev pub counts : ℕ → ℕ → Counts
counts scanned returned = record { scanned = scanned; processed = scanned; returned = returned }

-- the records whose output reaches so many bytes: the shortest front
abbrev pub reaching : ℕ → List Yielded → List Yielded
reaching place done = shortest_front (λ front. nat_le place (length (output front))) done

-- the Progress event behind the piece that ends so many bytes into the output, where progress was asked for
abbrev pub progress_at : Bool → List Yielded → ℕ → List Event
progress_at false done place = []
progress_at true done place = progress_of (counts (total_len (reaching place done)) place) ∷ []

-- whole pieces, of which the first begins so many bytes into the output
abbrev pub piece_events : Bool → List Yielded → ℕ → List (List ℕ) → List Event
piece_events progress done from [] = []
piece_events progress done from (bytes ∷ rest) = records bytes ∷ (progress_at progress done (from + piece) ++ piece_events progress done (from + piece) rest)

-- the whole pieces of the records' output
abbrev pub whole_events : Bool → List Yielded → List Event
whole_events progress done = piece_events progress done 0 (whole_pieces (output done))

-- after the output: the first code and its place, or the counts and the end
abbrev pub closing_events : List Yielded → Option (Code × ℕ) → List Event
closing_events done None = stats_of (counts (total_len done) (length (output done))) ∷ end ∷ []
closing_events done (Some fault) = error_event fault.0 fault.1 ∷ []

-- the events of a reply over the records that were processed
abbrev pub answer_events : Bool → List Yielded → List Event
answer_events progress done =
    whole_events progress done ++ (map records (unless_empty (remainder (output done))) ++ closing_events done (fault done))

-- the bytes of output that an event carries
abbrev pub payload : Event → List ℕ
payload (records bytes) = bytes
payload e = []

-- the output that the events of a reply carry, joined
abbrev pub payloads : List Event → List ℕ
payloads es = flat_map payload es

-- the frames of events, each in its wrapping, joined
abbrev pub wrapped_frames : (List ℕ → List ℕ) → List Event → List ℕ
wrapped_frames wrap es = flat_map (λ e. wrap (frame_of e)) es
