-- Which records of an object a range selects: those whose first byte lies in the range.
use Rattle.std.specs.Prelude.{ℕ, ◌+◌, ◌*◌, ◌-◌, ◌&&◌, Bool, false, nat_le, List, length, filter, Option, None, Some}
use Rattle.line_window.specs.Cuts.{Cut, cuts}
use Rattle.select_reply.specs.Pieces.{piece}
use Rattle.select_reply.specs.Yields.{Yield, Yielded}
use Rattle.record_stream.specs.Lines.{Lines, yields_of, end_of, ended_by}

-- the place lies in the range, from its first place to its last one; a range without a place has none
abbrev pub lies_in : Option (ℕ × ℕ) → ℕ → Bool
lies_in None place = false
lies_in (Some range) place = nat_le range.0 place && nat_le place range.1

-- the lines of an object that start in the range
unfoldable pub selected_cuts : List ℕ → List ℕ → Option (ℕ × ℕ) → List Cut
selected_cuts delimiter object range = filter (λ cut. lies_in range cut.start) (cuts delimiter object 0 (length object))

-- what their records yield, one after the other, under a record limit
abbrev pub yields : Lines → ℕ → List ℕ → List ℕ → Option (ℕ × ℕ) → List Yielded
yields lines longest delimiter object range = yields_of lines longest (selected_cuts delimiter object range)

-- what one record more yields behind the last of these lines, if there is one
abbrev pub end_yield : Lines → ℕ → List ℕ → List ℕ → Option (ℕ × ℕ) → Option Yield
end_yield lines longest delimiter object range = end_of lines longest (selected_cuts delimiter object range)

-- the records with that of their end
abbrev pub records : Lines → ℕ → List ℕ → List ℕ → Option (ℕ × ℕ) → List Yielded
records lines longest delimiter object range =
    ended_by (yields lines longest delimiter object range) (end_yield lines longest delimiter object range)

-- where the range begins; 0 where it has no place
abbrev pub first_of : Option (ℕ × ℕ) → ℕ
first_of None = 0
first_of (Some range) = range.0

-- the most bytes that answering a range reads of the object: those of the range, the record limit and two pieces
abbrev pub most_read : ℕ → Option (ℕ × ℕ) → ℕ
most_read longest None = 0
most_read longest (Some range) = range.1 + 1 - range.0 + (longest + 2 * piece)
