-- An aggregate over rows, told by the values that count.
use Rattle.std.proofs.Common.{◌≡◌, ℕ, suc, ◌+◌, Bool, true, false, cond, List, [], ◌∷◌, ◌++◌, length, refl, sym, ◌∙◌, ap, subst, arith, append_assoc, zero-add}
use Rattle.std.specs.Prelude.{ℤ, ◌^◌, nat_lt, Option, None, Some, Result, Ok, Err}
use Rattle.sql_bound.specs.declared.tree.BoundAgg.{BoundAgg}
use Rattle.sql_bound.specs.declared.tree.BoundAgg.TheVariants as agg
use Rattle.sql_decimal.specs.Decimal.{Decimal}
use Rattle.sql_decimal.specs.declared.decimal.NumFault.{NumFault}
use Rattle.sql_decimal.specs.declared.number.Num.{Num}
use Rattle.sql_decimal.specs.declared.number.Num.TheVariants as number
use Rattle.sql_decimal.specs.Reading.{number_of}
use Rattle.sql_timestamp.specs.declared.fault.ValueFault.{ValueFault}
use Rattle.sql_timestamp.specs.declared.fault.ValueFault.TheVariants.{IntegerOverflow}
use Rattle.sql_value.specs.declared.value.Value.{Value}
use Rattle.sql_value.specs.declared.value.Value.TheVariants.{Missing, Null, Bool as Truth, Int, Dec, Text, Stamp, Node, Bad}
use Rattle.sql_value.specs.declared.operation.Arith.TheVariants.{Add}
use Rattle.sql_value.specs.Outcomes.{Outcome, both, int_outcome, decimal_outcome}
use Rattle.sql_value.specs.Arithmetic.{calculated, number_operand, number_result, read_operand, int_result, decimal_result}
use Rattle.sql_value.specs.Numbers.{whole}
use Rattle.sql_eval.specs.Evaluated.{and_then}
use Rattle.sql_totals.specs.declared.fault.TotalFault.{TotalFault}
use Rattle.sql_totals.specs.declared.fault.TotalFault.TheVariants as refused
use Rattle.sql_totals.specs.declared.keeping.Extreme.TheVariants as extreme
use Rattle.sql_totals.specs.Sums.{first_of_sum, operand_value, sum_with}
use Rattle.sql_totals.specs.Keeping.{kept_with}
use Rattle.sql_totals.specs.Partials.{Partial, Counted, Summed, Averaged, Least, Greatest, start}
use Rattle.sql_totals.specs.Stepped.{made, refusing, is_there, taken, one_more, averaged_with, argument, with_argument}
use Rattle.sql_totals.specs.Overall.{and_on, added_to_one, where_there, values, sum_on, sum_of, kept_on, total_of}

-- ---- the values that count

abbrev taken_all : List Value → Partial → Result Partial TotalFault
taken_all [] t = Ok t
taken_all (v ∷ vs) t = and_on (taken v t) (taken_all vs)

abbrev pub AllThere : List Value → Type 0
AllThere [] = Unit {0}
AllThere (v ∷ vs) = (is_there v ≡ true) × AllThere vs

by_values : (a : BoundAgg) (rows : List (List Value)) (t u : Partial) → added_to_one a rows t ≡ Ok u → taken_all (values a rows) t ≡ Ok u
by_values a [] t u e = e
by_values a (row ∷ rows) t u e = step (argument row a) (by_values a rows) e
  where
    one : (o : Result Partial TotalFault) → ((n w : Partial) → added_to_one a rows n ≡ Ok w → taken_all (values a rows) n ≡ Ok w)
        → and_on o (added_to_one a rows) ≡ Ok u → and_on o (taken_all (values a rows)) ≡ Ok u
    one (Ok n) same f = same n u f
    one (Err fault) same f = absurd (cc)

    by_test : (b : Bool) (v : Value) → ((n w : Partial) → added_to_one a rows n ≡ Ok w → taken_all (values a rows) n ≡ Ok w)
        → and_on (cond b (taken v t) (Ok t)) (added_to_one a rows) ≡ Ok u → taken_all (cond b (v ∷ []) [] ++ values a rows) t ≡ Ok u
    by_test false v same f = same t u f
    by_test true v same f = one (taken v t) same f

    step : (o : Outcome) → ((n w : Partial) → added_to_one a rows n ≡ Ok w → taken_all (values a rows) n ≡ Ok w)
        → and_on (with_argument o t) (added_to_one a rows) ≡ Ok u → taken_all (where_there o ++ values a rows) t ≡ Ok u
    step (Err fault) same f = absurd (cc)
    step (Ok v) same f = by_test (is_there v) v same f

pub all_there : (a : BoundAgg) (rows : List (List Value)) → AllThere (values a rows)
all_there a [] = tt
all_there a (row ∷ rows) = step (argument row a) (all_there a rows)
  where
    by_test : (b : Bool) (v : Value) → is_there v ≡ b → AllThere (values a rows) → AllThere (cond b (v ∷ []) [] ++ values a rows)
    by_test false v e there = there
    by_test true v e there = (e, there)

    step : (o : Outcome) → AllThere (values a rows) → AllThere (where_there o ++ values a rows)
    step (Err fault) there = there
    step (Ok v) there = by_test (is_there v) v refl there

pub values-append : (a : BoundAgg) (xs ys : List (List Value)) → values a (xs ++ ys) ≡ values a xs ++ values a ys
values-append a [] ys = refl
values-append a (x ∷ xs) ys = ap (λ l. where_there (argument x a) ++ l) (values-append a xs ys)
    ∙ sym (append_assoc (where_there (argument x a)) (values a xs) (values a ys))

-- ---- COUNT

abbrev counted_as : ℕ → Result Partial TotalFault
counted_as n = Ok (Counted n)

counted_by : (b : Bool) (n : ℕ) (vs : List Value) (u : Partial) → ((m : ℕ) → taken_all vs (Counted m) ≡ Ok u
    → counted_as (m + length vs) ≡ Ok u)
    → and_on (made Counted (cond b (Ok (n + 1)) (Err (refused.Value IntegerOverflow)))) (taken_all vs) ≡ Ok u
    → counted_as ((n + 1) + length vs) ≡ Ok u
counted_by true n vs u same e = same (n + 1) e
counted_by false n vs u same e = absurd (cc)

counts : (vs : List Value) (n : ℕ) (u : Partial) → taken_all vs (Counted n) ≡ Ok u → counted_as (n + length vs) ≡ Ok u
counts [] n u e = let z : n + 0 ≡ n = omega arith in ap counted_as z ∙ e
counts (v ∷ vs) n u e =
    let z : n + suc (length vs) ≡ (n + 1) + length vs = omega arith in
    ap counted_as z ∙ counted_by (nat_lt (n + 1) (2 ^ 63)) n vs u (λ m. counts vs m u) e

-- a count that was taken is within the range of an Int
abbrev pub IsBelow : Partial → Type 0
IsBelow (Counted n) = nat_lt n (2 ^ 63) ≡ true
IsBelow (Summed sum) = Unit {0}
IsBelow (Averaged sum n) = Unit {0}
IsBelow (Least kept) = Unit {0}
IsBelow (Greatest kept) = Unit {0}

taken_below : (vs : List Value) (n : ℕ) (u : Partial) → nat_lt n (2 ^ 63) ≡ true → taken_all vs (Counted n) ≡ Ok u → IsBelow u
taken_below [] n u below e = let same : Counted n ≡ u = cc in subst IsBelow same below
taken_below (v ∷ vs) n u below e = by (nat_lt (n + 1) (2 ^ 63)) refl (λ b. taken_below vs (n + 1) u b) e
  where
    by : (b : Bool) → nat_lt (n + 1) (2 ^ 63) ≡ b → (nat_lt (n + 1) (2 ^ 63) ≡ true → taken_all vs (Counted (n + 1)) ≡ Ok u → IsBelow u)
        → and_on (made Counted (cond b (Ok (n + 1)) (Err (refused.Value IntegerOverflow)))) (taken_all vs) ≡ Ok u → IsBelow u
    by true is same f = same is f
    by false is same f = absurd (cc)

pub count_below : (rows : List (List Value)) (a : BoundAgg) (u : Partial) → start a ≡ Counted 0
    → added_to_one a rows (start a) ≡ Ok u → IsBelow u
count_below rows a u is e = taken_below (values a rows) 0 u refl (ap (taken_all (values a rows)) (sym is) ∙ by_values a rows (start a) u e)

-- ---- SUM: what is summed up is a number, and so no NULL

abbrev is_number : Value → Bool
is_number (Int n) = true
is_number (Dec d) = true
is_number _ = false

int_number : (o : Result ℤ ValueFault) (s : Value) → int_outcome o ≡ Ok s → is_number s ≡ true
int_number (Ok n) s e = let same : Int n ≡ s = cc in ap is_number (sym same)
int_number (Err fault) s e = absurd (cc)

decimal_number : (o : Result Decimal NumFault) (s : Value) → decimal_outcome o ≡ Ok s → is_number s ≡ true
decimal_number (Ok d) s e = let same : Dec d ≡ s = cc in ap is_number (sym same)
decimal_number (Err fault) s e = absurd (cc)

result_number : (a b : Num) (s : Value) → number_result Add a b ≡ Ok s → is_number s ≡ true
unfolding number_result
result_number (number.Int a) (number.Int b) s e = int_number (int_result Add a b) s e
result_number (number.Int a) (number.Dec b) s e = decimal_number (decimal_result Add (whole a) b) s e
result_number (number.Dec a) (number.Int b) s e = decimal_number (decimal_result Add a (whole b)) s e
result_number (number.Dec a) (number.Dec b) s e = decimal_number (decimal_result Add a b) s e

-- an operand that is there is a number or a fault
abbrev pub is_judged : Result (Option Num) ValueFault → Bool
is_judged (Ok None) = false
is_judged (Ok (Some n)) = true
is_judged (Err fault) = true

read_judged : (n : Option Num) → is_judged (read_operand n) ≡ true
read_judged None = refl
read_judged (Some n) = refl

pub operand_judged : (v : Value) → is_there v ≡ true → is_judged (number_operand v) ≡ true
unfolding number_operand
operand_judged Missing e = absurd (cc)
operand_judged Null e = absurd (cc)
operand_judged (Truth b) e = refl
operand_judged (Int n) e = refl
operand_judged (Dec d) e = refl
operand_judged (Text t) e = read_judged (number_of t)
operand_judged (Stamp s) e = refl
operand_judged (Node bytes) e = refl
operand_judged (Bad fault) e = refl

first_by : (o : Result (Option Num) ValueFault) (s : Value) → is_judged o ≡ true → operand_value o ≡ Ok s → is_number s ≡ true
first_by (Err fault) s j e = absurd (cc)
first_by (Ok None) s j e = absurd (cc)
first_by (Ok (Some (number.Int n))) s j e = let same : Int n ≡ s = cc in ap is_number (sym same)
first_by (Ok (Some (number.Dec d))) s j e = let same : Dec d ≡ s = cc in ap is_number (sym same)

first_number : (v s : Value) → is_there v ≡ true → first_of_sum v ≡ Ok s → is_number s ≡ true
first_number v s there e = first_by (number_operand v) s (operand_judged v there) e

both_number : (o p : Result (Option Num) ValueFault) (s : Value) → is_judged o ≡ true → is_judged p ≡ true
    → both o p (number_result Add) ≡ Ok s → is_number s ≡ true
both_number (Err fault) p s i j e = absurd (cc)
both_number (Ok None) p s i j e = absurd (cc)
both_number (Ok (Some a)) (Err fault) s i j e = absurd (cc)
both_number (Ok (Some a)) (Ok None) s i j e = absurd (cc)
both_number (Ok (Some a)) (Ok (Some b)) s i j e = result_number a b s e

number_there : (s : Value) → is_number s ≡ true → is_there s ≡ true
number_there Missing e = absurd (cc)
number_there Null e = absurd (cc)
number_there (Truth b) e = refl
number_there (Int n) e = refl
number_there (Dec d) e = refl
number_there (Text t) e = refl
number_there (Stamp s) e = refl
number_there (Node bytes) e = refl
number_there (Bad fault) e = refl

next_number : (s v n : Value) → is_number s ≡ true → is_there v ≡ true → calculated Add s v ≡ Ok n → is_number n ≡ true
unfolding calculated
next_number s v n i there e = both_number (number_operand s) (number_operand v) n (operand_judged s (number_there s i)) (operand_judged
    v there) e

-- a sum that goes on
sum_goes_on : (s v : Value) → is_number s ≡ true → sum_with s v ≡ calculated Add s v
sum_goes_on Missing v e = absurd (cc)
sum_goes_on Null v e = absurd (cc)
sum_goes_on (Truth b) v e = absurd (cc)
sum_goes_on (Int n) v e = refl
sum_goes_on (Dec d) v e = refl
sum_goes_on (Text t) v e = absurd (cc)
sum_goes_on (Stamp s) v e = absurd (cc)
sum_goes_on (Node bytes) v e = absurd (cc)
sum_goes_on (Bad fault) v e = absurd (cc)

abbrev summed_as : Outcome → Result Partial TotalFault
summed_as o = made Summed (refusing o)

summed_by : (o : Outcome) (vs : List Value) (u : Partial)
    → ((s : Value) → o ≡ Ok s → taken_all vs (Summed s) ≡ Ok u → summed_as (sum_on s vs) ≡ Ok u)
    → and_on (summed_as o) (taken_all vs) ≡ Ok u → summed_as (and_then o (λ s. sum_on s vs)) ≡ Ok u
summed_by (Ok s) vs u same e = same s refl e
summed_by (Err fault) vs u same e = absurd (cc)

sums : (vs : List Value) (s : Value) (u : Partial) → is_number s ≡ true → AllThere vs → taken_all vs (Summed s) ≡ Ok u
    → summed_as (sum_on s vs) ≡ Ok u
sums [] s u i there e = e
sums (v ∷ vs) s u i there e =
    summed_by (calculated Add s v) vs u (λ n is. sums vs n u (next_number s v n i there.0 is) there.1)
    (ap (λ o. and_on (summed_as o) (taken_all vs)) (sym (sum_goes_on s v i)) ∙ e)

sums_from : (vs : List Value) (u : Partial) → AllThere vs → taken_all vs (Summed Null) ≡ Ok u → summed_as (sum_of vs) ≡ Ok u
sums_from [] u there e = e
sums_from (v ∷ vs) u there e = summed_by (first_of_sum v) vs u (λ n is. sums vs n u (first_number v n there.0 is) there.1) e

-- ---- AVG

abbrev averaged_as : ℕ → Outcome → Result Partial TotalFault
averaged_as n o = made (λ s. Averaged s n) (refusing o)

averaged_by_count : (b : Bool) (n : ℕ) (s : Value) (vs : List Value) (u : Partial)
    → (taken_all vs (Averaged s (n + 1)) ≡ Ok u → averaged_as ((n + 1) + length vs) (sum_on s vs) ≡ Ok u)
    → and_on (made (Averaged s) (cond b (Ok (n + 1)) (Err (refused.Value IntegerOverflow)))) (taken_all vs) ≡ Ok u
    → averaged_as ((n + 1) + length vs) (sum_on s vs) ≡ Ok u
averaged_by_count true n s vs u same e = same e
averaged_by_count false n s vs u same e = absurd (cc)

averaged_by : (o : Outcome) (n : ℕ) (vs : List Value) (u : Partial)
    → ((s : Value) → o ≡ Ok s → taken_all vs (Averaged s (n + 1)) ≡ Ok u → averaged_as ((n + 1) + length vs) (sum_on s vs) ≡ Ok u)
    → and_on (averaged_with o (one_more n)) (taken_all vs) ≡ Ok u → averaged_as ((n + 1) + length vs) (and_then o (λ s. sum_on s vs)) ≡ Ok u
averaged_by (Ok s) n vs u same e = averaged_by_count (nat_lt (n + 1) (2 ^ 63)) n s vs u (same s refl) e
averaged_by (Err fault) n vs u same e = absurd (cc)

averages : (vs : List Value) (s : Value) (n : ℕ) (u : Partial) → is_number s ≡ true → AllThere vs → taken_all vs (Averaged s n) ≡ Ok u
    → averaged_as (n + length vs) (sum_on s vs) ≡ Ok u
averages [] s n u i there e = let z : n + 0 ≡ n = omega arith in ap (λ m. averaged_as m (Ok s)) z ∙ e
averages (v ∷ vs) s n u i there e =
    let z : n + suc (length vs) ≡ (n + 1) + length vs = omega arith in
    ap (λ m. averaged_as m (sum_on s (v ∷ vs))) z
    ∙ averaged_by (calculated Add s v) n vs u (λ k is. averages vs k (n + 1) u (next_number s v k i there.0 is) there.1)
    (ap (λ o. and_on (averaged_with o (one_more n)) (taken_all vs)) (sym (sum_goes_on s v i)) ∙ e)

averages_from : (vs : List Value) (u : Partial) → AllThere vs → taken_all vs (Averaged Null 0) ≡ Ok u
    → averaged_as (length vs) (sum_of vs) ≡ Ok u
averages_from [] u there e = e
averages_from (v ∷ vs) u there e =
    let z : suc (length vs) ≡ (0 + 1) + length vs = omega arith in
    ap (λ m. averaged_as m (sum_of (v ∷ vs))) z
    ∙ averaged_by (first_of_sum v) 0 vs u (λ k is. averages vs k (0 + 1) u (first_number v k there.0 is) there.1) e

-- ---- MIN and MAX

least_by : (o : Result Value TotalFault) (vs : List Value) → ((k : Value)
    → taken_all vs (Least k) ≡ made Least (kept_on extreme.Least k vs))
    → and_on (made Least o) (taken_all vs) ≡ made Least (and_on o (λ k. kept_on extreme.Least k vs))
least_by (Ok k) vs same = same k
least_by (Err fault) vs same = refl

leasts : (vs : List Value) (k : Value) → taken_all vs (Least k) ≡ made Least (kept_on extreme.Least k vs)
leasts [] k = refl
leasts (v ∷ vs) k = least_by (kept_with extreme.Least k v) vs (leasts vs)

greatest_by : (o : Result Value TotalFault) (vs : List Value) → ((k : Value)
    → taken_all vs (Greatest k) ≡ made Greatest (kept_on extreme.Greatest k vs))
    → and_on (made Greatest o) (taken_all vs) ≡ made Greatest (and_on o (λ k. kept_on extreme.Greatest k vs))
greatest_by (Ok k) vs same = same k
greatest_by (Err fault) vs same = refl

greatests : (vs : List Value) (k : Value) → taken_all vs (Greatest k) ≡ made Greatest (kept_on extreme.Greatest k vs)
greatests [] k = refl
greatests (v ∷ vs) k = greatest_by (kept_with extreme.Greatest k v) vs (greatests vs)

-- ---- each aggregate

pub of_values : (a : BoundAgg) (rows : List (List Value)) (u : Partial) → added_to_one a rows (start a) ≡ Ok u
    → total_of a (values a rows) ≡ Ok u
of_values a rows u e = by a (values a rows) (all_there a rows) (by_values a rows (start a) u e)
  where
    by : (b : BoundAgg) (vs : List Value) → AllThere vs → taken_all vs (start b) ≡ Ok u → total_of b vs ≡ Ok u
    by agg.CountAll vs there f = ap counted_as (sym (zero-add (length vs))) ∙ counts vs 0 u f
    by (agg.Count x) vs there f = ap counted_as (sym (zero-add (length vs))) ∙ counts vs 0 u f
    by (agg.Sum x) vs there f = sums_from vs u there f
    by (agg.Min x) vs there f = sym (leasts vs Null) ∙ f
    by (agg.Max x) vs there f = sym (greatests vs Null) ∙ f
    by (agg.Avg x) vs there f = averages_from vs u there f
