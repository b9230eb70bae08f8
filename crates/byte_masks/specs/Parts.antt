-- The parts of a line between its field bytes.
use Rattle.std.specs.Prelude.{◌≡◌, ℕ, ◌+◌, ◌≤◌, List, [], ◌∷◌, ◌++◌, length, map, take, All, slice_range}
use Rattle.std.specs.List.{slice_split}
use Rattle.std.specs.Str.{IsAscii}
use Rattle.byte_masks.specs.Masks.{is_byte}
use Rattle.byte_masks.specs.Walks.{HasNone, places_from}
use Rattle.byte_masks.specs.declared.split.Span.{Span}
use Rattle.byte_masks.specs.declared.split.Cut.{Cut}

-- each byte is an ASCII character, and none is the quote
pub record IsPlain (quote : ℕ) (bytes : List ℕ) : Type 0 where
  pub ascii : IsAscii bytes
  pub unquoted : HasNone quote bytes 0 (length bytes)

-- the part of a line that a span cuts out
abbrev pub part : List ℕ → Span → List ℕ
part line span = slice_range line span.start span.end

-- the span lies in a line of this length
pub record IsWithin (end : ℕ) (span : Span) : Type 0 where
  pub ordered : span.start ≤ span.end
  pub within : span.end ≤ end

-- the spans cut the line as splitting at the field byte does
pub record Cuts (field : ℕ) (line : List ℕ) (spans : List Span) : Type 0 where
  pub parts : map (part line) spans ≡ slice_split (is_byte field) line
  pub within : All (IsWithin (length line)) spans

-- the spans from a start on that end before these places, and the last one at the end
unfoldable pub spans_between : ℕ → List ℕ → ℕ → List Span
spans_between start [] end = (record { start = start; end = end }) ∷ []
spans_between start (p ∷ ps) end = (record { start = start; end = p }) ∷ spans_between (p + 1) ps end

-- the spans of a line's fields
abbrev pub spans_of : ℕ → List ℕ → List Span
spans_of field line = spans_between 0 (places_from field line 0) (length line)

-- with these places cut off, what was written and what is still to come stay the same together
pub record CutsOff (places : List ℕ) (from : Cut) (old : List Span) (to : Cut) (new : List Span) : Type 0 where
  pub all : (later : List ℕ) (end : ℕ) → take to.count new ++ spans_between to.start later end ≡ take from.count old ++ spans_between from.start (places ++ later) end
  pub few : to.count ≤ from.count + 64
