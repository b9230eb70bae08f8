-- What `tile` asks of an object: one reply for each range of a tiling.
use Rattle.std.specs.Prelude.{◌≡◌, ◌⊎◌, ℕ, ◌+◌, ◌*◌, ◌-◌, ◌≤◌, Bool, true, false, List, [], ◌∷◌, ◌++◌, length, map, sum_by, Option, None, Some, Result, MatchResult, if◌then◌else◌}
use Rattle.std.specs.List.{flat_map, list_any}
use Rattle.std.specs.Io.KnownBytes.{Appends, Keeps}
use Rattle.select_ports.specs.Streams.{AppendsFront}
use Rattle.select_ports.specs.Stored.{Opened}
use Rattle.select_request.specs.Values.{allows_range}
use Rattle.select_request.specs.declared.request.ScanRange.{ScanRange}
use Rattle.select_request.specs.declared.request.ScanRange.TheVariants.{Between, From}
use Rattle.select_reply.specs.declared.code.Code.TheVariants.{UnsupportedScanRangeInput}
use Rattle.select_reply.specs.declared.outcome.Outcome.{Outcome}
use Rattle.select_reply.specs.declared.outcome.Outcome.TheVariants.{Done, Faulted}
use Rattle.select_job.specs.declared.asked.Asked.{Asked}
use Rattle.select_job.specs.declared.asked.Asked.TheVariants.{Refused, Asks}
use Rattle.select_job.specs.Jobs.{Job}
use Rattle.select_job.specs.Prepared.{Prepares}
use Rattle.select_job.specs.Jobs.{with_range}
use Rattle.select_tool.specs.Replies.{reply_frames, reply_outcome, most_read_of}

-- the ranges of a tiling from a place on: up to each cut, and last from its cut on
abbrev pub tile_ranges : ℕ → List ℕ → List ScanRange
tile_ranges first [] = From first ∷ []
tile_ranges first (cut ∷ cuts) = Between first (cut - 1) ∷ tile_ranges cut cuts

-- the query of a tile
abbrev pub tile_of : Job → ScanRange → Asked
tile_of job range = Asks (with_range job (Some range))

-- what a body asks of the tiles between cuts: a refused body is refused once, and so is one whose object allows no ranges
abbrev pub tiles_of : Asked → List ℕ → List Asked
tiles_of (Refused code at) cuts = Refused code at ∷ []
tiles_of (Asks job) cuts =
    if allows_range job.request.input then map (tile_of job) (tile_ranges 0 cuts) else Refused UnsupportedScanRangeInput 0 ∷ []

-- the frames of the replies to what is asked of an object, one reply after the other, each frame in its wrapping
abbrev pub replies_frames : (List ℕ → List ℕ) → ℕ → List ℕ → List Asked → List ℕ
replies_frames wrap longest object asks = flat_map (reply_frames wrap longest object) asks

-- a reply has an Error event
abbrev pub has_error : Outcome → Bool
has_error (Done counts) = false
has_error (Faulted code at) = true

-- one of the replies has an Error event
abbrev pub any_error : ℕ → List ℕ → List Asked → Bool
any_error longest object asks = list_any (λ asked. has_error (reply_outcome longest object asked)) asks

-- the most bytes that are read of an object of so many bytes for these replies
abbrev pub most_read_of_all : ℕ → ℕ → List Asked → ℕ
most_read_of_all longest size asks = sum_by (most_read_of longest size) asks

-- the replies were written whole, and told was whether one of them has an Error event; or a front of them was written
abbrev pub WritesReplies : {E : Type 0} → (List ℕ → List ℕ) → ℕ → List ℕ → List Asked → Option (List ℕ) → Option (List ℕ)
    → Result Bool E → Type 0
WritesReplies wrap longest object asks before now result = MatchResult result
    (λ erred. Appends before now (replies_frames wrap longest object asks) × (erred ≡ any_error longest object asks))
    (λ _. AppendsFront before now (replies_frames wrap longest object asks))

-- the replies to the first of all tiles were written, and those to the tiles that are left are to come
pub record TiledSoFar (wrap : List ℕ → List ℕ) (longest : ℕ) (object : List ℕ) (job : Job) (all left : List ScanRange)
    (erred : Bool) (before now : Option (List ℕ)) : Type 0 where
  pub done : List ScanRange
  pub split : all ≡ done ++ left
  pub told : erred ≡ any_error longest object (map (tile_of job) done)
  pub written : Appends before now (replies_frames wrap longest object (map (tile_of job) done))

-- some of the replies were written, each whole, and no more
pub record WritesSome (wrap : List ℕ → List ℕ) (longest : ℕ) (object : List ℕ) (asks : List Asked) (before now : Option (List ℕ)) : Type 0 where
  pub done : List Asked
  pub rest : List Asked
  pub split : asks ≡ done ++ rest
  pub written : Appends before now (replies_frames wrap longest object done)

-- a front of the replies to the tiles was written
pub record TiledInPart (longest : ℕ) (object body : List ℕ) (cuts : List ℕ) (before now : Option (List ℕ)) : Type 0 where
  pub asked : Asked
  pub prepared : Prepares body asked
  pub written : AppendsFront before now (replies_frames (λ frame. frame) longest object (tiles_of asked cuts))

-- nothing was written, or a front of the replies
abbrev pub IsTiledShort : ℕ → List ℕ → List ℕ → List ℕ → Option (List ℕ) → Option (List ℕ) → Type 0
IsTiledShort longest object body cuts before now = Keeps before now ⊎ TiledInPart longest object body cuts before now

-- nothing was written, or some of the replies to the tiles, each whole
pub record TiledToReply (longest : ℕ) (object body : List ℕ) (cuts : List ℕ) (before now : Option (List ℕ)) : Type 0 where
  pub asked : Asked
  pub prepared : Prepares body asked
  pub written : WritesSome (λ frame. frame) longest object (tiles_of asked cuts) before now

abbrev pub IsTiledToReply : ℕ → List ℕ → List ℕ → List ℕ → Option (List ℕ) → Option (List ℕ) → Type 0
IsTiledToReply longest object body cuts before now = Keeps before now ⊎ TiledToReply longest object body cuts before now

-- no more was read of the open object than the tiles of what the body asks need
abbrev pub TookNearTiles : ℕ → Opened → List ℕ → List ℕ → ℕ → ℕ → Type 0
TookNearTiles longest None body cuts before now = now ≡ before
TookNearTiles longest (Some object) body cuts before now =
    (asked : Asked) → Prepares body asked → now ≤ before + most_read_of_all longest object.0 (tiles_of asked cuts)

-- no byte of the open object was read more often than twice for one tile; with none open nothing was read
abbrev pub TookTwiceATile : Opened → List ℕ → ℕ → ℕ → Type 0
TookTwiceATile None cuts before now = now ≡ before
TookTwiceATile (Some object) cuts before now = now ≤ before + (length cuts + 1) * (2 * object.0)
