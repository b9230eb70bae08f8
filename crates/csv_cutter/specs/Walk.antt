-- A walk over a line, a character at a time: where its fields are cut. It serves the contracts of private functions alone.
use Rattle.std.specs.Prelude.{◌≡◌, ℕ, ◌<◌, ◌≤◌, Bool, true, false, ◌==◌, ◌&&◌, List, [], ◌∷◌, ◌++◌, if◌then◌else◌, length, drop, slice_index, slice_range}
use Rattle.std.specs.Str.{NonePass, IsCharBoundary}
use Rattle.byte_masks.specs.declared.split.Span.{Span}
use Rattle.std.specs.List.{onto_first}
use Rattle.text_view.specs.QuotedField.{begins_special}
use Rattle.csv_cutter.specs.declared.dialect.Dialect.{Dialect}
use Rattle.csv_cutter.specs.declared.walk.State.{State}
use Rattle.csv_cutter.specs.declared.walk.State.TheVariants.{Start, Tail, Inside, Paired, Comment}

-- no quoted part is open
abbrev pub is_outside : State → Bool
is_outside Start = true
is_outside Tail = true
is_outside Inside = false
is_outside Paired = false
is_outside Comment = false

-- the characters begin with the quote or the escape
abbrev pub special : Dialect → List ℕ → Bool
special d cs = begins_special d.quote d.escape cs

-- the character ends a field
abbrev pub is_cut : Dialect → State → ℕ → Bool
is_cut d s c = is_outside s && c == d.field

-- the state behind a character; `paired` tells whether a quote or an escape follows it
abbrev pub step : Dialect → State → ℕ → Bool → State
step d Start c paired = if c == d.field then Start else (if c == d.quote then Inside else Tail)
step d Tail c paired = if c == d.field then Start else Tail
step d Inside c paired = if c == d.escape && paired then Paired else (if c == d.quote then Tail else Inside)
step d Paired c paired = Inside
step d Comment c paired = Comment

-- the spelled fields of what is left of a line
unfoldable pub cut_from : Dialect → State → List ℕ → List (List ℕ)
cut_from d s [] = [] ∷ []
cut_from d s (c ∷ cs) =
    if is_cut d s c then [] ∷ cut_from d Start cs else onto_first c (cut_from d (step d s c (special d cs)) cs)

-- the spelled fields of a line
abbrev pub cut_fields : Dialect → List ℕ → List (List ℕ)
cut_fields d line = cut_from d Start line

-- the walk goes over these characters, and then stands before the rest; it passes no end of a field
abbrev pub Goes : Dialect → State → List ℕ → List ℕ → State → Type 0
Goes d s [] rest s' = s ≡ s'
Goes d s (c ∷ cs) rest s' = (is_cut d s c ≡ false) × Goes d (step d s c (special d (cs ++ rest))) cs rest s'

-- characters put before the first of some lists
abbrev pub onto : List ℕ → List (List ℕ) → List (List ℕ)
onto [] parts = parts
onto (c ∷ cs) parts = onto_first c (onto cs parts)

-- ---- places in a line

-- the first place from `from` on whose byte passes the test, or the end
pub record IsNext (test : ℕ → Bool) (line : List ℕ) (from n : ℕ) : Type 0 where
  pub low : from ≤ n
  pub high : n ≤ length line
  pub clear : NonePass test (slice_range line from n)
  pub here : n < length line → test (slice_index line n) ≡ true

-- the walk goes from place i in one state to place n in another, and passes no end of a field
pub record Comes (d : Dialect) (line : List ℕ) (s : State) (i : ℕ) (s' : State) (n : ℕ) : Type 0 where
  pub low : i ≤ n
  pub high : n ≤ length line
  pub cut : cut_from d s (drop i line) ≡ onto (slice_range line i n) (cut_from d s' (drop n line))

-- the field that starts at a place ends at n
pub record EndsField (d : Dialect) (line : List ℕ) (start n : ℕ) : Type 0 where
  pub comes : Comes d line Start start Tail n
  pub here : n < length line → slice_index line n ≡ d.field

-- the span cuts characters out of a line
pub record IsLegible (line : List ℕ) (span : Span) : Type 0 where
  pub ordered : span.start ≤ span.end
  pub from : IsCharBoundary line span.start
  pub until : IsCharBoundary line span.end
