-- A reply while the cuts of an object are answered, one after the other: the lines that a window has left, or the records that a cutter has.
use Rattle.std.specs.Prelude.{◌≡◌, ℕ, Bool, false, List, ◌++◌, Option}
use Rattle.std.specs.Io.KnownBytes.{Appends}
use Rattle.line_window.specs.Cuts.{Cut}
use Rattle.line_window.specs.Sliding.{View, left, Holds}
use Rattle.csv_cutter.specs.declared.records.QuotedRecords.{QuotedRecords}
use Rattle.csv_cutter.specs.Cutter.{Left}
use Rattle.select_reply.specs.Yields.{Yielded}
use Rattle.select_reply.specs.Answers.{is_answered, last_start}
use Rattle.select_reply.specs.Begun.{Begun}
use Rattle.select_reply.specs.Replies.{begun_after}
use Rattle.record_stream.specs.Lines.{Lines, yields_of, behind_all}
use Rattle.record_stream.specs.Replied.{whole_frames}

-- what is asked: the wrapping of frames, whether Progress events are, the most outputs, and what the lines yield, under a record limit
pub record Asking : Type 0 where
  pub wrap : List ℕ → List ℕ
  pub progress : Bool
  pub limit : Option ℕ
  pub lines : Lines
  pub longest : ℕ

abbrev pub asking : (List ℕ → List ℕ) → Bool → Option ℕ → Lines → ℕ → Asking
asking wrap progress limit lines longest = record { wrap = wrap; progress = progress; limit = limit; lines = lines; longest = longest }

-- the records of these cuts
abbrev pub all_of : Asking → List Cut → List Yielded
all_of a cuts = yields_of a.lines a.longest cuts

-- these records are answered and the reply goes on: it stands so, and the frames of its whole pieces are written
pub record Stands (a : Asking) (ys : List Yielded) (begun : Begun) (before now : Option (List ℕ)) : Type 0 where
  pub unanswered : is_answered a.limit ys ≡ false
  pub stands : begun ≡ begun_after a.progress a.limit ys
  pub written : Appends before now (whole_frames a.wrap a.progress ys)

-- the first of the cuts are answered, and these are to come; behind those that are answered the lines yield so, and there the last record
-- started
pub record Streamed (a : Asking) (cuts coming : List Cut) (lines : Lines) (last : ℕ) (begun : Begun) (before now : Option (List ℕ)) : Type 0 where
  pub done : List Cut
  pub split : cuts ≡ done ++ coming
  pub behind : lines ≡ behind_all a.lines a.longest done
  pub last_is : last ≡ last_start (all_of a done)
  pub answered : Stands a (all_of a done) begun before now

-- the lines that a window had left are answered but for those that it has left now
pub record LinesStreamed (a : Asking) (object : List ℕ) (cuts : List Cut) (v : View) (lines : Lines) (last : ℕ) (begun : Begun)
    (before now : Option (List ℕ)) : Type 0 where
  pub holds : Holds object v
  pub streamed : Streamed a cuts (left object v) lines last begun before now

-- the records of an object are answered but for those that a cutter has left in its window
pub record QuotedStreamed (a : Asking) (object : List ℕ) (cuts : List Cut) (cutter : QuotedRecords) (v : View) (lines : Lines) (last : ℕ)
    (begun : Begun) (before now : Option (List ℕ)) : Type 0 where
  pub holds : Holds object v
  pub coming : List Cut
  pub left : Left cutter object v coming
  pub streamed : Streamed a cuts coming lines last begun before now
