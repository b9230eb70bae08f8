-- What an aggregate has made of the rows so far, and its final value. Nothing of the rows is lost that a merge with the total of further
-- rows needs.
use Rattle.std.specs.Prelude.{ℕ, pos, List, Option, None, Some, Ok, slice_get}
use Rattle.sql_bound.specs.declared.tree.BoundAgg.{BoundAgg}
use Rattle.sql_bound.specs.declared.tree.BoundAgg.TheVariants as agg
use Rattle.sql_value.specs.declared.value.Value.{Value}
use Rattle.sql_value.specs.declared.value.Value.TheVariants.{Null, Int}
use Rattle.sql_value.specs.Outcomes.{Outcome}
use Rattle.sql_totals.specs.Sums.{average}

-- COUNT: the number of values. SUM: their sum. AVG: their sum and their number. MIN and MAX: the value that is kept. NULL is the sum of no
-- value, and what is kept of none.
pub data Partial : Type 0 where
  Counted : ℕ → Partial
  Summed : Value → Partial
  Averaged : Value → ℕ → Partial
  Least : Value → Partial
  Greatest : Value → Partial

-- of no row
abbrev pub start : BoundAgg → Partial
start agg.CountAll = Counted 0
start (agg.Count e) = Counted 0
start (agg.Sum e) = Summed Null
start (agg.Min e) = Least Null
start (agg.Max e) = Greatest Null
start (agg.Avg e) = Averaged Null 0

-- With no values COUNT is 0 and the others NULL. AVG's division can overflow.
abbrev pub final : Partial → Outcome
final (Counted n) = Ok (Int (pos n))
final (Summed sum) = Ok sum
final (Averaged sum n) = average sum (pos n)
final (Least kept) = Ok kept
final (Greatest kept) = Ok kept

abbrev pub final_or_null : Option Partial → Outcome
final_or_null None = Ok Null
final_or_null (Some t) = final t

-- the final value of the aggregate at a place
abbrev pub final_at : List Partial → ℕ → Outcome
final_at ts i = final_or_null (slice_get ts i)
