-- A tiling of an object: the ranges between ascending cuts, which have all its bytes together, each in one range.
use Rattle.std.specs.Prelude.{◌≡◌, ℕ, ◌-◌, ◌<◌, Bool, false, List, [], ◌∷◌, length, map, filter, sum_by, Option, None}
use Rattle.std.specs.List.{flat_map}
use Rattle.line_window.specs.Cuts.{cuts}
use Rattle.scan_ranges.specs.Resolved.{resolved, cut_to}
use Rattle.select_reply.specs.Yields.{Yielded, has_fault, output, total_len}
use Rattle.select_reply.specs.Answers.{processed}
use Rattle.select_reply.specs.Tilings.{payload_of, payloads_of}
use Rattle.record_stream.specs.Lines.{Lines, yields_of, IsWithoutTotals}
use Rattle.record_stream.specs.Selected.{lies_in, selected_cuts, yields}

-- the cuts ascend, each above a place
abbrev pub Ascend : ℕ → List ℕ → Type 0
Ascend place [] = Unit {0}
Ascend place (cut ∷ cuts) = (place < cut) × Ascend cut cuts

-- the ranges from a place on: up to each cut, and last to the object's end
abbrev pub ranges_from : ℕ → List ℕ → ℕ → List (Option (ℕ × ℕ))
ranges_from first [] size = cut_to first (size - 1) size ∷ []
ranges_from first (cut ∷ cuts) size = cut_to first (cut - 1) size ∷ ranges_from cut cuts size

-- the tiles of an object of so many bytes by these cuts
abbrev pub tiles : List ℕ → ℕ → List (Option (ℕ × ℕ))
tiles cuts size = ranges_from 0 cuts size

-- The tiling law: the lines that start in the tiles, joined in order, are those of the whole object, each in one tile.
abbrev pub EachLineIsInOneTile : Type 0
EachLineIsInOneTile =
    (delimiter object cuts : List ℕ) → Ascend 0 cuts
    → flat_map (selected_cuts delimiter object) (tiles cuts (length object)) ≡ selected_cuts delimiter object (resolved None (length object))

-- the records of each tile, tile by tile
abbrev pub tile_yields : Lines → ℕ → List ℕ → List ℕ → List ℕ → List (List Yielded)
tile_yields lines longest delimiter object cuts = map (yields lines longest delimiter object) (tiles cuts (length object))

-- the records of the whole object
abbrev pub whole_yields : Lines → ℕ → List ℕ → List ℕ → List Yielded
whole_yields lines longest delimiter object = yields lines longest delimiter object (resolved None (length object))

-- the records of an object, whatever the range
abbrev pub all_yields : Lines → ℕ → List ℕ → List ℕ → List Yielded
all_yields lines longest delimiter object = yields_of lines longest (cuts delimiter object 0 (length object))

-- Without totals the records of a range are those of all that start in it.
abbrev pub EachRangeSelects : Type 0
EachRangeSelects =
    (lines : Lines) (longest : ℕ) (delimiter object : List ℕ) (range : Option (ℕ × ℕ)) → IsWithoutTotals lines
    → yields lines longest delimiter object range ≡ filter (λ y. lies_in range y.start) (all_yields lines longest delimiter object)

-- Without totals the records of the tiles, joined in order, are those of the whole object, each in one tile.
abbrev pub EachTilingJoins : Type 0
EachTilingJoins =
    (lines : Lines) (longest : ℕ) (delimiter object cuts : List ℕ) → IsWithoutTotals lines → Ascend 0 cuts
    → flat_map (λ t. t) (tile_yields lines longest delimiter object cuts) ≡ whole_yields lines longest delimiter object

-- the replies over the tiles make the reply over the whole: the output that they carry, joined, and the counts, added
pub record MakesTheWhole (progress : Bool) (lines : Lines) (longest : ℕ) (delimiter object cuts : List ℕ) : Type 0 where
  pub payloads : payloads_of progress (tile_yields lines longest delimiter object cuts)
      ≡ payload_of progress (whole_yields lines longest delimiter object)
  pub scanned : sum_by (λ t. total_len (processed None t)) (tile_yields lines longest delimiter object cuts)
      ≡ total_len (processed None (whole_yields lines longest delimiter object))
  pub returned : sum_by (λ t. length (output (processed None t))) (tile_yields lines longest delimiter object cuts)
      ≡ length (output (processed None (whole_yields lines longest delimiter object)))

-- and they do where no record of the whole has a code
abbrev pub EachTilingMakesTheWhole : Type 0
EachTilingMakesTheWhole =
    (progress : Bool) (lines : Lines) (longest : ℕ) (delimiter object cuts : List ℕ) → IsWithoutTotals lines → Ascend 0 cuts
    → has_fault (whole_yields lines longest delimiter object) ≡ false → MakesTheWhole progress lines longest delimiter object cuts
