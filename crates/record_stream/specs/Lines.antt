-- What the lines of an object yield, one after the other, whatever is asked of them.
use Rattle.std.specs.Prelude.{◌≡◌, ℕ, ◌≤◌, Bool, nat_lt, if◌then◌else◌, List, [], ◌∷◌, ◌++◌, length, Option, None, Some}
use Rattle.line_window.specs.Cuts.{Cut, content}
use Rattle.select_reply.specs.declared.code.Code.{Code}
use Rattle.select_reply.specs.Yields.{Yield, fails, Yielded, bytes_of}
use Rattle.select_reply.specs.Answers.{unless_faulty}
use Rattle.select_reply.specs.Turns.{yielded}

-- a line that was read: its place and its content
pub record Seen : Type 0 where
  pub place : ℕ
  pub bytes : List ℕ

-- what the line at a place with this content yields behind those that were read, or none where it is no record; the code of the line at a
-- place whose body is longer than the record limit, or none where it is no record; and what one record more yields behind the last of
-- the lines that were read, if there is one
pub record Lines : Type 0 where
  pub of_content : List Seen → ℕ → List ℕ → Option Yield
  pub of_long : ℕ → Option Code
  pub of_end : List Seen → Option Yield

-- the lines behind a line
abbrev pub behind : Lines → ℕ → List ℕ → Lines
behind lines place bytes = record {
  of_content = λ seen. lines.of_content (record { place = place; bytes = bytes } ∷ seen);
  of_long = lines.of_long;
  of_end = λ seen. lines.of_end (record { place = place; bytes = bytes } ∷ seen);
}

-- the body of the cut is longer than the record limit
abbrev pub is_too_long : ℕ → Cut → Bool
is_too_long longest cut = nat_lt longest (length cut.body)

-- a record that yields its code, if it is one
abbrev pub failing : Option Code → Option Yield
failing None = None
failing (Some code) = Some (fails code)

-- the record at a place, of this length, if there is one
abbrev pub listed : ℕ → ℕ → Option Yield → List Yielded
listed start len None = []
listed start len (Some gives) = yielded start len gives ∷ []

-- what the line of a cut yields, under a record limit
abbrev pub cut_yield : Lines → ℕ → Cut → Option Yield
cut_yield lines longest cut =
    if is_too_long longest cut then failing (lines.of_long cut.start) else lines.of_content [] cut.start (content cut)

-- the record of a cut, if it is one: it starts where the cut does, and has its whole length
unfoldable pub gives : Lines → ℕ → Cut → List Yielded
gives lines longest cut = listed cut.start cut.whole (cut_yield lines longest cut)

-- the lines behind a cut; one that is too long is a faulty record or none, and tells nothing
unfoldable pub behind_cut : Lines → ℕ → Cut → Lines
behind_cut lines longest cut = if is_too_long longest cut then lines else behind lines cut.start (content cut)

-- the records of these cuts, one after the other
abbrev pub yields_of : Lines → ℕ → List Cut → List Yielded
yields_of lines longest [] = []
yields_of lines longest (cut ∷ cuts) = gives lines longest cut ++ yields_of (behind_cut lines longest cut) longest cuts

-- the lines behind these cuts
abbrev pub behind_all : Lines → ℕ → List Cut → Lines
behind_all lines longest [] = lines
behind_all lines longest (cut ∷ cuts) = behind_all (behind_cut lines longest cut) longest cuts

-- what one record more yields behind these cuts, if there is one
abbrev pub end_of : Lines → ℕ → List Cut → Option Yield
end_of lines longest cuts = (behind_all lines longest cuts).of_end []

-- records with one more at their end, if there is one: it stands where the last of them starts, and behind a code there is none
abbrev pub ended_by : List Yielded → Option Yield → List Yielded
ended_by ys None = ys
ended_by ys (Some totals) = unless_faulty ys totals

-- the records of these cuts with that of their end
abbrev pub records_of : Lines → ℕ → List Cut → List Yielded
records_of lines longest cuts = ended_by (yields_of lines longest cuts) (end_of lines longest cuts)

-- the bytes of an output, where there is one
abbrev pub output_of : Option Yield → List ℕ
output_of None = []
output_of (Some gives) = bytes_of gives

-- an output of a line within the largest record limit has at most 33,554,432 bytes, and so has that of the end, so that the counts of a
-- reply fit 128 bits
pub record IsShort (lines : Lines) : Type 0 where
  pub content : (seen : List Seen) (place : ℕ) (bytes : List ℕ) → length bytes ≤ 16777216
      → length (output_of (lines.of_content seen place bytes)) ≤ 33554432
  pub end : (seen : List Seen) → length (output_of (lines.of_end seen)) ≤ 33554432

-- each line yields what it would alone, and nothing stands behind the last one
pub record IsWithoutTotals (lines : Lines) : Type 0 where
  pub alone : (seen : List Seen) (place : ℕ) (bytes : List ℕ) → lines.of_content seen place bytes ≡ lines.of_content [] place bytes
  pub ends : (seen : List Seen) → lines.of_end seen ≡ None
