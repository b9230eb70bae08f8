-- The totals of two parts of the rows, merged: counts and sums are added, and of two kept values the first part's stays, unless the second
-- part's precedes it or the first part has none.
use Rattle.std.specs.Prelude.{◌≡◌, ◌+◌, ◌^◌, ℕ, nat_lt, Bool, true, List, Result, Ok, Err, IfOk, if◌then◌else◌}
use Rattle.sql_timestamp.specs.declared.fault.ValueFault.TheVariants.{IntegerOverflow}
use Rattle.sql_bound.specs.declared.tree.BoundAgg.{BoundAgg}
use Rattle.sql_bound.specs.declared.tree.BoundAgg.TheVariants as agg
use Rattle.sql_value.specs.declared.value.Value.{Value}
use Rattle.sql_value.specs.declared.operation.Arith.TheVariants.{Add}
use Rattle.sql_value.specs.Arithmetic.{calculated}
use Rattle.sql_totals.specs.declared.fault.TotalFault.{TotalFault}
use Rattle.sql_totals.specs.declared.fault.TotalFault.TheVariants as refused
use Rattle.sql_totals.specs.declared.keeping.Extreme.{Extreme}
use Rattle.sql_totals.specs.declared.keeping.Extreme.TheVariants as extreme
use Rattle.sql_totals.specs.Keeping.{kept_of_two}
use Rattle.sql_totals.specs.Extremes.{are_of_one_kind}
use Rattle.sql_totals.specs.Partials.{Partial, Counted, Summed, Averaged, Least, Greatest}
use Rattle.sql_totals.specs.Stepped.{made, refusing, is_there}

abbrev pub merged_counts : ℕ → ℕ → Result ℕ TotalFault
merged_counts m n = if nat_lt (m + n) (2 ^ 63) then Ok (m + n) else Err (refused.Value IntegerOverflow)

abbrev pub merged_sums : Value → Value → Result Value TotalFault
merged_sums a b = if is_there a then (if is_there b then refusing (calculated Add a b) else Ok a) else Ok b

abbrev pub merged_averages : Result Value TotalFault → Result ℕ TotalFault → Result Partial TotalFault
merged_averages (Err fault) count = Err fault
merged_averages (Ok sum) count = made (Averaged sum) count

abbrev pub merged_kept : Extreme → Value → Value → Result Value TotalFault
merged_kept e a b = if is_there b then kept_of_two e a b else Ok a

-- the totals of two aggregates that aren't the same function are none that are merged
abbrev pub merged : Partial → Partial → Result Partial TotalFault
merged (Counted m) (Counted n) = made Counted (merged_counts m n)
merged (Summed a) (Summed b) = made Summed (merged_sums a b)
merged (Averaged a m) (Averaged b n) = merged_averages (merged_sums a b) (merged_counts m n)
merged (Least a) (Least b) = made Least (merged_kept extreme.Least a b)
merged (Greatest a) (Greatest b) = made Greatest (merged_kept extreme.Greatest a b)
merged t _ = Ok t

-- MIN and MAX of the rows are told by those of the parts where their values are of one kind
abbrev pub can_be_merged : BoundAgg → List Value → Bool
can_be_merged agg.CountAll vs = true
can_be_merged (agg.Count e) vs = true
can_be_merged (agg.Sum e) vs = true
can_be_merged (agg.Min e) vs = are_of_one_kind vs
can_be_merged (agg.Max e) vs = are_of_one_kind vs
can_be_merged (agg.Avg e) vs = true

-- The merge of two totals is that total. The sum of two sums may overflow where `+` in order doesn't: then nothing is said.
abbrev pub MergesTo : BoundAgg → Result Partial TotalFault → Partial → Type 0
MergesTo agg.CountAll merge t = merge ≡ Ok t
MergesTo (agg.Count e) merge t = merge ≡ Ok t
MergesTo (agg.Sum e) merge t = IfOk merge (λ m. m ≡ t)
MergesTo (agg.Min e) merge t = merge ≡ Ok t
MergesTo (agg.Max e) merge t = merge ≡ Ok t
MergesTo (agg.Avg e) merge t = IfOk merge (λ m. m ≡ t)
