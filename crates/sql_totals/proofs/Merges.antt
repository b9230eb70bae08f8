-- The totals of two parts of the rows tell those of all.
use Rattle.std.proofs.Common.{◌≡◌, ℕ, ◌+◌, Bool, true, false, cond, List, ◌++◌, length, length-append, refl, sym, ◌∙◌, ap, subst}
use Rattle.std.specs.Prelude.{◌^◌, nat_lt, Result, Ok, Err, IfOk}
use Rattle.sql_bound.specs.declared.tree.Bound.{Bound}
use Rattle.sql_bound.specs.declared.tree.BoundAgg.{BoundAgg}
use Rattle.sql_bound.specs.declared.tree.BoundAgg.TheVariants as agg
use Rattle.sql_decimal.specs.declared.number.Num.{Num}
use Rattle.sql_timestamp.specs.declared.fault.ValueFault.TheVariants.{IntegerOverflow}
use Rattle.sql_value.specs.declared.value.Value.{Value}
use Rattle.sql_value.specs.declared.value.Value.TheVariants.{Null}
use Rattle.sql_totals.specs.declared.fault.TotalFault.{TotalFault}
use Rattle.sql_totals.specs.declared.fault.TotalFault.TheVariants as refused
use Rattle.sql_totals.specs.declared.keeping.Extreme.TheVariants as extreme
use Rattle.sql_totals.specs.Partials.{Partial, Counted, Summed, Averaged, Least, Greatest, start}
use Rattle.sql_totals.specs.Stepped.{made, is_there}
use Rattle.sql_totals.specs.Overall.{added_to_one, values, kept_on, total_of}
use Rattle.sql_totals.specs.Exact.{numbers, exact_sum}
use Rattle.sql_totals.specs.Extremes.{are_of_one_kind, IsExtreme}
use Rattle.sql_totals.specs.Merging.{merged_sums, merged_averages, merged, can_be_merged, MergesTo}
use Rattle.sql_totals.proofs.OfValues.{of_values, values-append, IsBelow, count_below}
use Rattle.sql_totals.proofs.ExactSums.{sum_is_exact, average_is_exact, sums_merge, numbers-append}
use Rattle.sql_totals.proofs.Ordered.{kept_of_parts, kept_is_extreme}

-- the totals by what they are
told : (a : BoundAgg) (t t' u u' w w' : Partial) → t ≡ t' → u ≡ u' → w ≡ w' → MergesTo a (merged t' u') w' → MergesTo a (merged t u) w
told a t t' u u' w w' x y z h =
    subst (λ v. MergesTo a (merged v u) w) (sym x) (subst (λ v. MergesTo a (merged t' v) w) (sym y) (subst (MergesTo a (merged t' u'))
    (sym z) h))

-- ---- COUNT

count_within : (k : ℕ) (w : Partial) → w ≡ Counted k → IsBelow w → nat_lt k (2 ^ 63) ≡ true
count_within k w is below = subst IsBelow is below

counts_merge : (m n : ℕ) → nat_lt (m + n) (2 ^ 63) ≡ true → merged (Counted m) (Counted n) ≡ Ok (Counted (m + n))
counts_merge m n below = ap (λ b. made Counted (cond b (Ok (m + n)) (Err (refused.Value IntegerOverflow)))) below

abbrev no_fault : Partial → Result Partial TotalFault
no_fault t = Ok t

counted : (t : Partial) (n : ℕ) → no_fault (Counted n) ≡ Ok t → t ≡ Counted n
counted t n e = let same : Counted n ≡ t = cc in sym same

-- ---- SUM and AVG

sums_here : (xs ys : List Num) → IfOk (merged (Summed (exact_sum xs)) (Summed (exact_sum ys))) (λ m. m ≡ Summed (exact_sum (xs ++ ys)))
sums_here xs ys = by (merged_sums (exact_sum xs) (exact_sum ys)) refl
  where
    by : (o : Result Value TotalFault) → merged_sums (exact_sum xs) (exact_sum ys) ≡ o
        → IfOk (made Summed o) (λ m. m ≡ Summed (exact_sum (xs ++ ys)))
    by (Ok s) is = ap Summed (sums_merge xs ys s is)
    by (Err fault) is = tt

averages_here : (xs ys : List Num) (m n : ℕ)
    → IfOk (merged (Averaged (exact_sum xs) m) (Averaged (exact_sum ys) n)) (λ k. k ≡ Averaged (exact_sum (xs ++ ys)) (m + n))
averages_here xs ys m n = by (merged_sums (exact_sum xs) (exact_sum ys)) (nat_lt (m + n) (2 ^ 63)) refl
  where
    by : (o : Result Value TotalFault) (b : Bool) → merged_sums (exact_sum xs) (exact_sum ys) ≡ o
        → IfOk (merged_averages o (cond b (Ok (m + n)) (Err (refused.Value IntegerOverflow))))
        (λ k. k ≡ Averaged (exact_sum (xs ++ ys)) (m + n))
    by (Ok s) true is = ap (λ v. Averaged v (m + n)) (sums_merge xs ys s is)
    by (Ok s) false is = tt
    by (Err fault) b is = tt

-- ---- MIN and MAX

record Kept (make : Value → Partial) (o : Result Value TotalFault) (t : Partial) : Type 0 where
  value : Value
  is : o ≡ Ok value
  total : t ≡ make value

kept_told : (make : Value → Partial) (o : Result Value TotalFault) (t : Partial) → made make o ≡ Ok t → Kept make o t
kept_told make (Ok v) t e = let same : make v ≡ t = cc in record { value = v; is = refl; total = sym same }
kept_told make (Err fault) t e = absurd (cc)

leasts_merge : (xs ys : List Value) (t u w : Partial) → are_of_one_kind (xs ++ ys) ≡ true
    → made Least (kept_on extreme.Least Null xs) ≡ Ok t
    → made Least (kept_on extreme.Least Null ys) ≡ Ok u → made Least (kept_on extreme.Least Null (xs ++ ys)) ≡ Ok w → merged t u ≡ Ok w
leasts_merge xs ys t u w one f g h = by (kept_told Least _ t f) (kept_told Least _ u g) (kept_told Least _ w h)
  where
    by : Kept Least (kept_on extreme.Least Null xs) t → Kept Least (kept_on extreme.Least Null ys) u
        → Kept Least (kept_on extreme.Least Null (xs ++ ys)) w
        → merged t u ≡ Ok w
    by a b c =
        ap (λ v. merged v u) a.total ∙ ap (merged (Least a.value)) b.total
        ∙ ap (made Least) (kept_of_parts extreme.Least xs ys a.value b.value c.value one a.is b.is c.is) ∙ ap Ok (sym c.total)

greatests_merge : (xs ys : List Value) (t u w : Partial) → are_of_one_kind (xs ++ ys) ≡ true
    → made Greatest (kept_on extreme.Greatest Null xs) ≡ Ok t
    → made Greatest (kept_on extreme.Greatest Null ys) ≡ Ok u → made Greatest (kept_on extreme.Greatest Null (xs ++ ys)) ≡ Ok w
    → merged t u ≡ Ok w
greatests_merge xs ys t u w one f g h = by (kept_told Greatest _ t f) (kept_told Greatest _ u g) (kept_told Greatest _ w h)
  where
    by : Kept Greatest (kept_on extreme.Greatest Null xs) t → Kept Greatest (kept_on extreme.Greatest Null ys) u
        → Kept Greatest (kept_on extreme.Greatest Null (xs ++ ys)) w
        → merged t u ≡ Ok w
    by a b c =
        ap (λ v. merged v u) a.total ∙ ap (merged (Greatest a.value)) b.total
        ∙ ap (made Greatest) (kept_of_parts extreme.Greatest xs ys a.value b.value c.value one a.is b.is c.is) ∙ ap Ok (sym c.total)

-- ---- each aggregate

counts_merged : (xs ys : List Value) (t u w : Partial) → t ≡ Counted (length xs) → u ≡ Counted (length ys) → w ≡ Counted (length (xs ++ ys))
    → IsBelow w → merged t u ≡ Ok w
counts_merged xs ys t u w x y z below =
    let m : ℕ = length xs in
    let n : ℕ = length ys in
    let sum : w ≡ Counted (m + n) = z ∙ ap Counted (length-append xs ys) in
    ap (λ v. merged v u) x ∙ ap (merged (Counted m)) y ∙ counts_merge m n (count_within (m + n) w sum below) ∙ ap Ok (sym sum)

count_of : (a : BoundAgg) (first second : List (List Value)) (t u w : Partial) → start a ≡ Counted 0
    → ((vs : List Value) → total_of a vs ≡ Ok (Counted (length vs))) → added_to_one a first (start a) ≡ Ok t
    → added_to_one a second (start a) ≡ Ok u → added_to_one a (first ++ second) (start a) ≡ Ok w → merged t u ≡ Ok w
count_of a first second t u w none is f g h =
    counts_merged (values a first) (values a second) t u w
    (counted t (length (values a first)) (sym (is (values a first)) ∙ of_values a first t f))
    (counted u (length (values a second)) (sym (is (values a second)) ∙ of_values a second u g))
    (counted w (length (values a (first ++ second))) (sym (is (values a (first ++ second))) ∙ of_values a (first ++ second) w h)
    ∙ ap (λ l. Counted (length l)) (values-append a first second))
    (count_below (first ++ second) a w none h)

pub totals_merge : (a : BoundAgg) (first second : List (List Value)) (t u w : Partial) → can_be_merged a (values a (first ++ second)) ≡ true
    → added_to_one a first (start a) ≡ Ok t → added_to_one a second (start a) ≡ Ok u → added_to_one a (first ++ second) (start a) ≡ Ok w
    → MergesTo a (merged t u) w
totals_merge agg.CountAll first second t u w one f g h = count_of agg.CountAll first second t u w refl (λ vs. refl) f g h
totals_merge (agg.Count x) first second t u w one f g h = count_of (agg.Count x) first second t u w refl (λ vs. refl) f g h
totals_merge (agg.Sum x) first second t u w one f g h =
    let a : BoundAgg = agg.Sum x in
    told a t (Summed (exact_sum (numbers (values a first)))) u (Summed (exact_sum (numbers (values a second)))) w
    (Summed (exact_sum (numbers (values a first) ++ numbers (values a second))))
    (sum_is_exact x first t f) (sum_is_exact x second u g)
    (sum_is_exact x (first ++ second) w h ∙ ap (λ l. Summed (exact_sum (numbers l))) (values-append a first second)
    ∙ ap (λ l. Summed (exact_sum l)) (numbers-append (values a first) (values a second)))
    (sums_here (numbers (values a first)) (numbers (values a second)))
totals_merge (agg.Min x) first second t u w one f g h =
    let a : BoundAgg = agg.Min x in
    leasts_merge (values a first) (values a second) t u w (ap are_of_one_kind (sym (values-append a first second)) ∙ one)
    (of_values a first t f) (of_values a second u g)
    (ap (total_of a) (sym (values-append a first second)) ∙ of_values a (first ++ second) w h)
totals_merge (agg.Max x) first second t u w one f g h =
    let a : BoundAgg = agg.Max x in
    greatests_merge (values a first) (values a second) t u w (ap are_of_one_kind (sym (values-append a first second)) ∙ one)
    (of_values a first t f) (of_values a second u g)
    (ap (total_of a) (sym (values-append a first second)) ∙ of_values a (first ++ second) w h)
totals_merge (agg.Avg x) first second t u w one f g h =
    let a : BoundAgg = agg.Avg x in
    let m : ℕ = length (values a first) in
    let n : ℕ = length (values a second) in
    told a t (Averaged (exact_sum (numbers (values a first))) m) u (Averaged (exact_sum (numbers (values a second))) n) w
    (Averaged (exact_sum (numbers (values a first) ++ numbers (values a second))) (m + n))
    (average_is_exact x first t f) (average_is_exact x second u g)
    (average_is_exact x (first ++ second) w h ∙ ap (λ l. Averaged (exact_sum (numbers l)) (length l)) (values-append a first second)
    ∙ ap (λ l. Averaged (exact_sum l) (length (values a first ++ values a second))) (numbers-append (values a first) (values a second))
    ∙ ap (Averaged (exact_sum (numbers (values a first) ++ numbers (values a second)))) (length-append (values a first) (values a second)))
    (averages_here (numbers (values a first)) (numbers (values a second)) m n)

-- ---- what MIN and MAX keep

least_value : (k m : Value) → Least k ≡ Least m → k ≡ m
least_value k m e = cc

greatest_value : (k m : Value) → Greatest k ≡ Greatest m → k ≡ m
greatest_value k m e = cc

pub min_is_least : (x : Bound) (rows : List (List Value)) (k : Value) → are_of_one_kind (values (agg.Min x) rows) ≡ true → is_there k ≡ true
    → added_to_one (agg.Min x) rows (start (agg.Min x)) ≡ Ok (Least k) → IsExtreme extreme.Least k (values (agg.Min x) rows)
min_is_least x rows k one there e = by (kept_told Least (kept_on extreme.Least Null (values (agg.Min x) rows)) (Least k) (of_values
    (agg.Min x) rows (Least k) e))
  where
    by : Kept Least (kept_on extreme.Least Null (values (agg.Min x) rows)) (Least k) → IsExtreme extreme.Least k (values (agg.Min x) rows)
    by a =
        let same : k ≡ a.value = least_value k a.value a.total in
        kept_is_extreme extreme.Least (values (agg.Min x) rows) k one there (a.is ∙ ap Ok (sym same))

pub max_is_greatest : (x : Bound) (rows : List (List Value)) (k : Value) → are_of_one_kind (values (agg.Max x) rows) ≡ true
    → is_there k ≡ true
    → added_to_one (agg.Max x) rows (start (agg.Max x)) ≡ Ok (Greatest k) → IsExtreme extreme.Greatest k (values (agg.Max x) rows)
max_is_greatest x rows k one there e = by (kept_told Greatest (kept_on extreme.Greatest Null (values (agg.Max x) rows)) (Greatest k)
    (of_values (agg.Max x) rows (Greatest k) e))
  where
    by : Kept Greatest (kept_on extreme.Greatest Null (values (agg.Max x) rows)) (Greatest k)
        → IsExtreme extreme.Greatest k (values (agg.Max x) rows)
    by a =
        let same : k ≡ a.value = greatest_value k a.value a.total in
        kept_is_extreme extreme.Greatest (values (agg.Max x) rows) k one there (a.is ∙ ap Ok (sym same))
