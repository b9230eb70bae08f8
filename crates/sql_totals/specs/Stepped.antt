-- A row that is added to the totals of a list of aggregates (S3 Select reference, aggregate functions): the arguments are settled, and NULL
-- and MISSING are passed over.
use Rattle.std.specs.Prelude.{◌≡◌, ◌+◌, ◌^◌, ℕ, nat_lt, Bool, true, false, List, [], ◌∷◌, Option, None, Some, Result, Ok, Err, if◌then◌else◌}
use Rattle.sql_timestamp.specs.declared.fault.ValueFault.TheVariants.{IntegerOverflow}
use Rattle.sql_bound.specs.declared.tree.BoundAgg.{BoundAgg}
use Rattle.sql_bound.specs.declared.tree.BoundAgg.TheVariants as agg
use Rattle.sql_value.specs.declared.value.Value.{Value}
use Rattle.sql_value.specs.declared.value.Value.TheVariants.{Missing, Null, Bool as Truth}
use Rattle.sql_value.specs.Outcomes.{Outcome}
use Rattle.sql_eval.specs.Evaluated.{settling}
use Rattle.sql_eval.specs.Meaning.{meaning}
use Rattle.sql_totals.specs.declared.fault.TotalFault.{TotalFault}
use Rattle.sql_totals.specs.declared.fault.TotalFault.TheVariants as refused
use Rattle.sql_totals.specs.declared.keeping.Extreme.TheVariants as extreme
use Rattle.sql_totals.specs.Sums.{sum_with}
use Rattle.sql_totals.specs.Keeping.{kept_with}
use Rattle.sql_totals.specs.Partials.{Partial, Counted, Summed, Averaged, Least, Greatest}

-- ---- answers

-- what a call answers that changes a total: no fault, and the total is the outcome's; or the outcome's fault
abbrev pub Became : {A : Type 0} → Result A TotalFault → Option TotalFault → A → Type 0
Became outcome None new = outcome ≡ Ok new
Became outcome (Some fault) new = outcome ≡ Err fault

-- the same of a call that answers a Result
abbrev pub Added : {A B : Type 0} → Result A TotalFault → Result B TotalFault → A → Type 0
Added outcome (Ok b) new = outcome ≡ Ok new
Added outcome (Err fault) new = outcome ≡ Err fault

abbrev pub made : {A B : Type 0} → (A → B) → Result A TotalFault → Result B TotalFault
made f (Ok a) = Ok (f a)
made f (Err fault) = Err fault

abbrev pub refusing : Outcome → Result Value TotalFault
refusing (Ok v) = Ok v
refusing (Err fault) = Err (refused.Value fault)

-- ---- a value

-- a value that counts
abbrev pub is_there : Value → Bool
is_there Missing = false
is_there Null = false
is_there _ = true

-- a count is an Int, and 2^63 is none
abbrev pub one_more : ℕ → Result ℕ TotalFault
one_more n = if nat_lt (n + 1) (2 ^ 63) then Ok (n + 1) else Err (refused.Value IntegerOverflow)

-- The sum's fault goes before the count's.
abbrev pub averaged_with : Outcome → Result ℕ TotalFault → Result Partial TotalFault
averaged_with (Err fault) count = Err (refused.Value fault)
averaged_with (Ok sum) count = made (Averaged sum) count

-- a total with one more value that counts
abbrev pub taken : Value → Partial → Result Partial TotalFault
taken v (Counted n) = made Counted (one_more n)
taken v (Summed sum) = made Summed (refusing (sum_with sum v))
taken v (Averaged sum n) = averaged_with (sum_with sum v) (one_more n)
taken v (Least kept) = made Least (kept_with extreme.Least kept v)
taken v (Greatest kept) = made Greatest (kept_with extreme.Greatest kept v)

-- ---- a row

-- what an aggregate's argument is over the cells of a row; COUNT(*) counts rows, as COUNT(TRUE) does
abbrev pub argument : List Value → BoundAgg → Outcome
argument cells agg.CountAll = Ok (Truth true)
argument cells (agg.Count e) = settling (meaning cells e)
argument cells (agg.Sum e) = settling (meaning cells e)
argument cells (agg.Min e) = settling (meaning cells e)
argument cells (agg.Max e) = settling (meaning cells e)
argument cells (agg.Avg e) = settling (meaning cells e)

abbrev pub with_argument : Outcome → Partial → Result Partial TotalFault
with_argument (Err fault) t = Err (refused.Value fault)
with_argument (Ok v) t = if is_there v then taken v t else Ok t

-- an aggregate's total with a row
abbrev pub added_one : List Value → BoundAgg → Partial → Result Partial TotalFault
added_one cells a t = with_argument (argument cells a) t

-- a total before others; the first fault counts
abbrev pub before : Result Partial TotalFault → Result (List Partial) TotalFault → Result (List Partial) TotalFault
before (Err fault) others = Err fault
before (Ok t) (Err fault) = Err fault
before (Ok t) (Ok ts) = Ok (t ∷ ts)

-- the totals of a list of aggregates with a row
abbrev pub added : List Value → List BoundAgg → List Partial → Result (List Partial) TotalFault
added cells [] ts = Ok ts
added cells (a ∷ aggs) [] = Ok []
added cells (a ∷ aggs) (t ∷ ts) = before (added_one cells a t) (added cells aggs ts)
