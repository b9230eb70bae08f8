-- Many rows: one by one in a list of aggregates, in each aggregate by itself, and by the values that count.
use Rattle.std.specs.Prelude.{List, [], ◌∷◌, ◌++◌, length, Result, Ok, Err, if◌then◌else◌}
use Rattle.sql_bound.specs.declared.tree.BoundAgg.{BoundAgg}
use Rattle.sql_bound.specs.declared.tree.BoundAgg.TheVariants as agg
use Rattle.sql_value.specs.declared.value.Value.{Value}
use Rattle.sql_value.specs.declared.value.Value.TheVariants.{Null}
use Rattle.sql_value.specs.declared.operation.Arith.TheVariants.{Add}
use Rattle.sql_value.specs.Outcomes.{Outcome}
use Rattle.sql_value.specs.Arithmetic.{calculated}
use Rattle.sql_eval.specs.Evaluated.{and_then}
use Rattle.sql_totals.specs.declared.fault.TotalFault.{TotalFault}
use Rattle.sql_totals.specs.declared.keeping.Extreme.{Extreme}
use Rattle.sql_totals.specs.declared.keeping.Extreme.TheVariants as extreme
use Rattle.sql_totals.specs.Sums.{first_of_sum}
use Rattle.sql_totals.specs.Keeping.{kept_with}
use Rattle.sql_totals.specs.Partials.{Partial, Counted, Summed, Averaged, Least, Greatest}
use Rattle.sql_totals.specs.Stepped.{made, refusing, is_there, argument, added_one, before, added}

-- a fault ends it
abbrev pub and_on : {A B : Type 0} → Result A TotalFault → (A → Result B TotalFault) → Result B TotalFault
and_on (Ok a) next = next a
and_on (Err fault) next = Err fault

-- ---- rows, each told by its cells

-- The rows are added one by one, each to all aggregates; the first fault ends it.
abbrev pub added_all : List BoundAgg → List (List Value) → List Partial → Result (List Partial) TotalFault
added_all aggs [] ts = Ok ts
added_all aggs (row ∷ rows) ts = and_on (added row aggs ts) (added_all aggs rows)

-- one aggregate over all rows
abbrev pub added_to_one : BoundAgg → List (List Value) → Partial → Result Partial TotalFault
added_to_one a [] t = Ok t
added_to_one a (row ∷ rows) t = and_on (added_one row a t) (added_to_one a rows)

-- each aggregate over all rows, one aggregate after another
abbrev pub each_by_itself : List BoundAgg → List (List Value) → List Partial → Result (List Partial) TotalFault
each_by_itself [] rows ts = Ok ts
each_by_itself (a ∷ aggs) rows [] = Ok []
each_by_itself (a ∷ aggs) rows (t ∷ ts) = before (added_to_one a rows t) (each_by_itself aggs rows ts)

-- ---- values

-- a value, where it counts
abbrev pub where_there : Outcome → List Value
where_there (Err fault) = []
where_there (Ok v) = if is_there v then v ∷ [] else []

-- the values of an aggregate's argument that count, in the rows' order
abbrev pub values : BoundAgg → List (List Value) → List Value
values a [] = []
values a (row ∷ rows) = where_there (argument row a) ++ values a rows

-- `+` in order
abbrev pub sum_on : Value → List Value → Outcome
sum_on sum [] = Ok sum
sum_on sum (v ∷ vs) = and_then (calculated Add sum v) (λ s. sum_on s vs)

-- `+` in order from the first value on, which is judged as an operand; NULL where there is none
abbrev pub sum_of : List Value → Outcome
sum_of [] = Ok Null
sum_of (v ∷ vs) = and_then (first_of_sum v) (λ s. sum_on s vs)

-- each next value is compared with the one that is kept
abbrev pub kept_on : Extreme → Value → List Value → Result Value TotalFault
kept_on e kept [] = Ok kept
kept_on e kept (v ∷ vs) = and_on (kept_with e kept v) (λ k. kept_on e k vs)

-- what an aggregate makes of the values that count
abbrev pub total_of : BoundAgg → List Value → Result Partial TotalFault
total_of agg.CountAll vs = Ok (Counted (length vs))
total_of (agg.Count e) vs = Ok (Counted (length vs))
total_of (agg.Sum e) vs = made Summed (refusing (sum_of vs))
total_of (agg.Min e) vs = made Least (kept_on extreme.Least Null vs)
total_of (agg.Max e) vs = made Greatest (kept_on extreme.Greatest Null vs)
total_of (agg.Avg e) vs = made (λ sum. Averaged sum (length vs)) (refusing (sum_of vs))
