-- The replies to the tiles of an object, against the reply to the whole.
use Rattle.std.specs.Prelude.{◌≡◌, ◌⊎◌, ℕ, Bool, true, false, List, [], ◌∷◌, ◌++◌, length, map, sum_by, Option, None, Some, Result, Ok, if◌then◌else◌}
use Rattle.std.specs.List.{flat_map}
use Rattle.std.specs.Io.KnownBytes.{Appends}
use Rattle.event_frame.specs.declared.counts.Counts.{Counts}
use Rattle.line_window.specs.Cuts.{Cut}
use Rattle.scan_ranges.specs.Resolved.{resolved}
use Rattle.sql_grammar.specs.declared.tree.Selection.{Selection}
use Rattle.sql_grammar.specs.declared.tree.Selection.TheVariants as selection
use Rattle.select_request.specs.Values.{allows_range}
use Rattle.select_request.specs.declared.request.SelectRequest.{SelectRequest}
use Rattle.select_request.specs.declared.request.ScanRange.{ScanRange}
use Rattle.select_reply.specs.declared.code.Code.{Code}
use Rattle.select_reply.specs.declared.outcome.Outcome.{Outcome}
use Rattle.select_reply.specs.declared.outcome.Outcome.TheVariants.{Done, Faulted}
use Rattle.select_reply.specs.Events.{counts, payloads}
use Rattle.select_reply.specs.Yields.{Yielded}
use Rattle.select_job.specs.declared.asked.Asked.{Asked}
use Rattle.select_job.specs.declared.asked.Asked.TheVariants.{Refused, Asks}
use Rattle.object_plan.specs.Planning.{planned_over}
use Rattle.select_engine.specs.Chosen.{chosen_cuts}
use Rattle.select_engine.specs.Answered.{yields_over, events}
use Rattle.select_job.specs.Prepared.{Prepares}
use Rattle.record_stream.specs.Selected.{lies_in}
use Rattle.select_job.specs.Jobs.{request_with, with_range}
use Rattle.select_job.specs.Jobs.{Job}
use Rattle.planned_lines.specs.declared.planned.Planned.{Planned}
use Rattle.record_rows.specs.Formats.{format_of, line_delimiter}
use Rattle.record_rows.specs.declared.format.LineFormat.{LineFormat}
use Rattle.record_stream.specs.Tiling.{Ascend}
use Rattle.select_tool.specs.Replies.{reply_outcome}
use Rattle.select_tool.specs.Tiles.{tile_ranges, tile_of, tiles_of, replies_frames, any_error}

-- the query without a range
abbrev pub whole_of : Job → Asked
whole_of job = Asks (with_range job None)

-- the bytes of the object that the range means
abbrev pub places_of : List ℕ → ScanRange → Option (ℕ × ℕ)
places_of object range = resolved (Some range) (length object)

abbrev pub yields_by : ℕ → Option LineFormat → Result Planned Code → List ℕ → SelectRequest → List Yielded
yields_by longest (Some format) (Ok p) object request = yields_over format p longest object request
yields_by longest format plan object request = []

-- what the records of a tile yield, and those of the whole object: each record with its place. Where a code ends the query before its
-- first record, no record yields
abbrev pub yields_in : ℕ → List ℕ → Job → Option ScanRange → List Yielded
yields_in longest object job range =
    yields_by longest (format_of job.request.input) (planned_over longest object job.request.input job.query) object (request_with job.request range)

-- the lines of the object that are asked for, those that start in the range
abbrev pub lines_by : Option LineFormat → List ℕ → SelectRequest → List Cut
lines_by None object request = []
lines_by (Some format) object request = chosen_cuts (line_delimiter format) request object

abbrev pub lines_in : List ℕ → Job → Option ScanRange → List Cut
lines_in object job range = lines_by (format_of job.request.input) object (request_with job.request range)

-- the query selects aggregates
abbrev pub has_totals : Selection → Bool
has_totals selection.All = false
has_totals (selection.Rows items) = false
has_totals (selection.Totals totals) = true

-- the output that the reply carries, and that the replies carry, joined
abbrev pub payload_of : ℕ → List ℕ → Asked → List ℕ
payload_of longest object asked = payloads (events longest object asked)

abbrev pub payloads_of : ℕ → List ℕ → List Asked → List ℕ
payloads_of longest object asks = flat_map (payload_of longest object) asks

-- the counts that a reply ends with, and none where it ends with an Error event
abbrev pub counts_of : Outcome → Counts
counts_of (Done c) = c
counts_of (Faulted code at) = counts 0 0

-- one of the counts, summed over the replies
abbrev pub summed : (Counts → ℕ) → ℕ → List ℕ → List Asked → ℕ
summed count longest object asks = sum_by (λ asked. count (counts_of (reply_outcome longest object asked))) asks

-- the whole ends without an Error event, and so does each tile; the replies to the tiles carry its output, and count what it counts
pub record JoinsToDone (longest : ℕ) (object : List ℕ) (job : Job) (cuts : List ℕ) (c : Counts) : Type 0 where
  pub fine : any_error longest object (map (tile_of job) (tile_ranges 0 cuts)) ≡ false
  pub output : payloads_of longest object (map (tile_of job) (tile_ranges 0 cuts)) ≡ payload_of longest object (whole_of job)
  pub scanned : summed (λ d. d.scanned) longest object (map (tile_of job) (tile_ranges 0 cuts)) ≡ c.scanned
  pub processed : summed (λ d. d.processed) longest object (map (tile_of job) (tile_ranges 0 cuts)) ≡ c.processed
  pub returned : summed (λ d. d.returned) longest object (map (tile_of job) (tile_ranges 0 cuts)) ≡ c.returned

-- the whole ends with the error of the record at a place: the first tile with an Error event is the one that has the place, and it has
-- that error; the replies up to it carry the whole's output
pub record JoinsToError (longest : ℕ) (object : List ℕ) (job : Job) (cuts : List ℕ) (code : Code) (at : ℕ) : Type 0 where
  pub front : List ScanRange
  pub range : ScanRange
  pub back : List ScanRange
  pub split : tile_ranges 0 cuts ≡ front ++ range ∷ back
  pub fine : any_error longest object (map (tile_of job) front) ≡ false
  pub error : reply_outcome longest object (tile_of job range) ≡ Faulted code at
  pub place : lies_in (places_of object range) at ≡ true
  pub output : payloads_of longest object (map (tile_of job) (front ++ range ∷ [])) ≡ payload_of longest object (whole_of job)

-- a code ends the query before its first record: each tile has the whole's one Error event
pub record FailsAlike (longest : ℕ) (object : List ℕ) (job : Job) : Type 0 where
  pub none : yields_in longest object job None ≡ []
  pub alike : (range : ScanRange) → events longest object (tile_of job range) ≡ events longest object (whole_of job)

-- by how the whole ends
abbrev pub JoinsTo : ℕ → List ℕ → Job → List ℕ → Outcome → Type 0
JoinsTo longest object job cuts (Done c) = JoinsToDone longest object job cuts c
JoinsTo longest object job cuts (Faulted code at) = JoinsToError longest object job cuts code at ⊎ FailsAlike longest object job

-- The tiles have each line of the whole once. Where the query has no aggregates, what the records of the tiles yield, joined, is what those
-- of the whole do; and where it has no LIMIT either, the replies to the tiles make the reply to the whole.
pub record MakesWhole (longest : ℕ) (object : List ℕ) (job : Job) (cuts : List ℕ) : Type 0 where
  pub lines : flat_map (λ range. lines_in object job (Some range)) (tile_ranges 0 cuts) ≡ lines_in object job None
  pub records : has_totals job.query.items ≡ false
      → flat_map (λ range. yields_in longest object job (Some range)) (tile_ranges 0 cuts) ≡ yields_in longest object job None
  pub joined : has_totals job.query.items ≡ false → job.query.limit ≡ None → JoinsTo longest object job cuts (reply_outcome longest object (whole_of job))

-- and they do, for every tiling of every object that allows ranges
abbrev pub EachTilingMakesWhole : Type 0
EachTilingMakesWhole =
    (longest : ℕ) (object : List ℕ) (job : Job) (cuts : List ℕ) → allows_range job.request.input ≡ true → Ascend 0 cuts
    → MakesWhole longest object job cuts

-- where the tiles of what a body asks are answered
abbrev pub TilesMakeWhole : ℕ → List ℕ → List ℕ → Asked → Type 0
TilesMakeWhole longest object cuts (Refused code at) = Unit {0}
TilesMakeWhole longest object cuts (Asks job) = allows_range job.request.input ≡ true → MakesWhole longest object job cuts

-- the replies to the tiles of what a body asks of an object, written whole, one after the other, and whether one of them has an Error
-- event; and they make the reply to the whole
pub record Tiled (longest : ℕ) (object body cuts : List ℕ) (erred : Bool) (before now : Option (List ℕ)) : Type 0 where
  pub asked : Asked
  pub prepared : Prepares body asked
  pub written : Appends before now (replies_frames (λ frame. frame) longest object (tiles_of asked cuts))
  pub told : erred ≡ any_error longest object (tiles_of asked cuts)
  pub whole : TilesMakeWhole longest object cuts asked

-- the replies to the tiles were written whole, and the status tells whether one of them has an Error event
pub record IsTiled (longest : ℕ) (object body cuts : List ℕ) (status : ℕ) (before now : Option (List ℕ)) : Type 0 where
  pub erred : Bool
  pub tiled : Tiled longest object body cuts erred before now
  pub told : status ≡ if erred then 1 else 0
