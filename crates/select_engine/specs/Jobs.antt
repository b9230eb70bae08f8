-- What running a query makes of an open object.
use Rattle.std.specs.Prelude.{ℕ, ◌+◌, ◌*◌, ◌-◌, min, Bool, List, Option, None, Some, Result, Ok, Err}
use Rattle.std.specs.Io.KnownBytes.{Keeps}
use Rattle.select_ports.specs.Causes.{Rose}
use Rattle.scan_ranges.specs.Resolved.{resolved}
use Rattle.select_request.specs.declared.request.SelectRequest.{SelectRequest}
use Rattle.select_reply.specs.Pieces.{piece}
use Rattle.select_reply.specs.declared.code.Code.{Code}
use Rattle.select_reply.specs.Yields.{Yielded}
use Rattle.record_stream.specs.Replied.{WroteEarly}
use Rattle.object_plan.specs.Columns.{header_once}
use Rattle.select_engine.specs.Chosen.{chosen_range}
use Rattle.select_engine.specs.declared.outcome.EngineError.{EngineError}
use Rattle.select_engine.specs.declared.outcome.EngineError.TheVariants.{StoreFault, WriteFault, OutOfMemory}

-- where the records were begun, the whole pieces that the early ones' output reaches have been written
abbrev pub IsEarly : (List ℕ → List ℕ) → Bool → ℕ → ℕ → Result (List Yielded) Code → Option (List ℕ) → Option (List ℕ) → Type 0
IsEarly wrap progress longest upto (Ok done) before now = WroteEarly wrap progress longest upto done before now
IsEarly wrap progress longest upto (Err code) before now = Unit {0}

-- a failure has its cause: the store's or the output's count of faults rose; memory is refused before anything is written
abbrev pub HasEngineCause : ℕ → ℕ → ℕ → ℕ → Option (List ℕ) → Option (List ℕ) → EngineError → Type 0
HasEngineCause store_before store_now out_before out_now before now StoreFault = Rose store_before store_now
HasEngineCause store_before store_now out_before out_now before now WriteFault = Rose out_before out_now
HasEngineCause store_before store_now out_before out_now before now OutOfMemory = Keeps before now

-- how many bytes a range has
abbrev pub range_len : Option (ℕ × ℕ) → ℕ
range_len None = 0
range_len (Some range) = range.1 + 1 - range.0

-- the most bytes that a range takes: those of the range, the record limit twice and four pieces
abbrev pub most_of_range : ℕ → Option (ℕ × ℕ) → ℕ
most_of_range longest range = range_len range + (2 * longest + 4 * piece)

-- the most bytes that a request takes of an object of so many bytes: those of its range, and no byte twice but for a used header
abbrev pub most_taken : ℕ → SelectRequest → ℕ → ℕ
most_taken longest request size =
    min (header_once request.input size + size) (most_of_range longest (resolved (chosen_range request) size))
