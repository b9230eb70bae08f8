-- `+` in order gives the sum of the fractions.
use Rattle.std.proofs.Common.{◌≡◌, ℕ, zero, suc, ◌+◌, ◌-◌, ◌^◌, ◌≤◌, max, ℤ, pos, ◌+ℤ◌, ◌*ℤ◌, Bool, true, false, cond, ◌&&◌, List, [], ◌∷◌, ◌++◌, length, append-nil, append_assoc, refl, sym, ◌∙◌, ap, arith}
use Rattle.std.proofs.lemmas.Int.{ints}
use Rattle.std.proofs.lemmas.Nat.{pow-add}
use Rattle.std.proofs.Math.IntN.{*ℤ_comm, zero-*ℤ, suc_ℤ-*ℤ, *ℤ-one, +ℤ_idr, +ℤ_assoc}
use Rattle.std.specs.Prelude.{Option, None, Some, Result, Ok, Err}
use Rattle.sql_bound.specs.declared.tree.Bound.{Bound}
use Rattle.sql_bound.specs.declared.tree.BoundAgg.TheVariants as agg
use Rattle.sql_decimal.specs.Decimal.{Decimal, decimal_of, is_decimal, is_64_bit}
use Rattle.sql_decimal.specs.Arithmetic.{aligned, common_scale, are_aligned, sum}
use Rattle.sql_decimal.specs.declared.decimal.NumFault.TheVariants.{Overflow}
use Rattle.sql_decimal.specs.declared.number.Num.{Num}
use Rattle.sql_decimal.specs.declared.number.Num.TheVariants as number
use Rattle.sql_decimal.proofs.Scaling.{scale_scale}
use Rattle.sql_timestamp.specs.declared.fault.ValueFault.{ValueFault}
use Rattle.sql_timestamp.specs.declared.fault.ValueFault.TheVariants.{IntegerOverflow}
use Rattle.sql_value.specs.declared.value.Value.{Value}
use Rattle.sql_value.specs.declared.value.Value.TheVariants.{Null, Int, Dec}
use Rattle.sql_value.specs.declared.operation.Arith.TheVariants.{Add}
use Rattle.sql_value.specs.Outcomes.{Outcome, both, int_outcome, decimal_outcome}
use Rattle.sql_value.specs.Arithmetic.{calculated, number_operand, number_result, int_result, decimal_result}
use Rattle.sql_value.specs.Numbers.{whole, fraction_of}
use Rattle.sql_eval.specs.Evaluated.{and_then}
use Rattle.sql_eval.specs.Operations.{number_value}
use Rattle.sql_totals.specs.Sums.{operand_value}
use Rattle.sql_totals.specs.Overall.{added_to_one, values, sum_on, sum_of}
use Rattle.sql_totals.specs.Exact.{operand_number, numbers, scale_of, largest_scale, coefficients_at, is_int, are_ints, sum_value, exact_sum}
use Rattle.sql_totals.specs.Partials.{Partial, Summed, Averaged, start}
use Rattle.sql_totals.specs.Stepped.{made, refusing, is_there}
use Rattle.sql_totals.specs.Merging.{merged_sums}
use Rattle.sql_totals.proofs.OfValues.{AllThere, is_judged, operand_judged, all_there, of_values}

-- ---- scaling

factor_on_sum : (k : ℕ) (x y : ℤ) → pos k *ℤ (x +ℤ y) ≡ pos k *ℤ x +ℤ pos k *ℤ y
factor_on_sum zero x y = rw (zero-*ℤ (x +ℤ y), zero-*ℤ x, zero-*ℤ y) refl
factor_on_sum (suc k) x y =
    rw (suc_ℤ-*ℤ (pos k) (x +ℤ y), suc_ℤ-*ℤ (pos k) x, suc_ℤ-*ℤ (pos k) y, factor_on_sum k x y) (omega (arith, ints))

sum_scaled : (x y : ℤ) (k : ℕ) → (x +ℤ y) *ℤ pos k ≡ x *ℤ pos k +ℤ y *ℤ pos k
sum_scaled x y k = rw (*ℤ_comm (x +ℤ y) (pos k), *ℤ_comm x (pos k), *ℤ_comm y (pos k)) (factor_on_sum k x y)

-- aligned to one scale, and then to a larger one
aligned_twice : (c : ℤ) (d s t : ℕ) → d ≤ s → s ≤ t → (c *ℤ pos (10 ^ (s - d))) *ℤ pos (10 ^ (t - s)) ≡ c *ℤ pos (10 ^ (t - d))
aligned_twice c d s t h k =
    let parts : (s - d) + (t - s) ≡ t - d = omega arith in
    scale_scale c (10 ^ (s - d)) (10 ^ (t - s)) ∙ ap (λ n. c *ℤ pos n) (sym (pow-add 10 (s - d) (t - s)))
    ∙ ap (λ n. c *ℤ pos (10 ^ n)) parts

-- ---- one addition

abbrev decimals_added : Decimal → Decimal → Decimal
decimals_added x y = decimal_of (aligned x (common_scale x y) +ℤ aligned y (common_scale x y)) (common_scale x y)

-- m is the sum of a and n
record Joins (a n m : Num) : Type 0 where
  scale : scale_of m ≡ max (scale_of a) (scale_of n)
  coefficient : (t : ℕ) → scale_of m ≤ t → aligned (fraction_of m) t ≡ aligned (fraction_of a) t +ℤ aligned (fraction_of n) t
  ints : is_int m ≡ (is_int a && is_int n)

-- the sum of two numbers, without bounds
abbrev pub plus : Num → Num → Num
plus (number.Int a) (number.Int b) = number.Int (a +ℤ b)
plus (number.Int a) (number.Dec b) = number.Dec (decimals_added (whole a) b)
plus (number.Dec a) (number.Int b) = number.Dec (decimals_added a (whole b))
plus (number.Dec a) (number.Dec b) = number.Dec (decimals_added a b)

decimals_join : (x y : Decimal) (t : ℕ) → common_scale x y ≤ t
    → aligned (decimal_of (aligned x (common_scale x y) +ℤ aligned y (common_scale x y)) (common_scale x y)) t ≡ aligned x t +ℤ aligned y t
decimals_join x y t h =
    let s : ℕ = common_scale x y in
    let left : x.scale ≤ s = omega arith in
    let right : y.scale ≤ s = omega arith in
    sum_scaled (aligned x s) (aligned y s) (10 ^ (t - s))
    ∙ ap (λ c. c +ℤ aligned y s *ℤ pos (10 ^ (t - s))) (aligned_twice x.coefficient x.scale s t left h)
    ∙ ap (λ c. aligned x t +ℤ c) (aligned_twice y.coefficient y.scale s t right h)

int_told : (t : Bool) (n : ℤ) (w : Value) → int_outcome (cond t (Ok n) (Err IntegerOverflow)) ≡ Ok w → Int n ≡ w
int_told true n w e = cc
int_told false n w e = absurd (cc)

decimal_told : (p q : Bool) (d : Decimal) (w : Value) → decimal_outcome (cond p (cond q (Ok d) (Err Overflow)) (Err Overflow)) ≡ Ok w
    → Dec d ≡ w
decimal_told true true d w e = cc
decimal_told true false d w e = absurd (cc)
decimal_told false q d w e = absurd (cc)

ints_join : (a b : ℤ) (t : ℕ) → aligned (whole (a +ℤ b)) t ≡ aligned (whole a) t +ℤ aligned (whole b) t
ints_join a b t = sum_scaled a b (10 ^ (t - 0))

sum_told : (x y : Decimal) (w : Value) → decimal_outcome (decimal_result Add x y) ≡ Ok w → Dec (decimals_added x y) ≡ w
unfolding decimal_result sum
sum_told x y w e =
    let s : ℕ = common_scale x y in
    decimal_told (are_aligned x y) (is_decimal (aligned x s +ℤ aligned y s) s) (decimals_added x y) w e

plus_joins : (a n : Num) → Joins a n (plus a n)
plus_joins (number.Int a) (number.Int b) = record { scale = refl; coefficient = λ t h. ints_join a b t; ints = refl }
plus_joins (number.Int a) (number.Dec b) = record { scale = refl; coefficient = decimals_join (whole a) b; ints = refl }
plus_joins (number.Dec a) (number.Int b) = record { scale = refl; coefficient = decimals_join a (whole b); ints = refl }
plus_joins (number.Dec a) (number.Dec b) = record { scale = refl; coefficient = decimals_join a b; ints = refl }

pub plus_told : (a n : Num) (w : Value) → number_result Add a n ≡ Ok w → number_value (plus a n) ≡ w
unfolding number_result int_result
plus_told (number.Int a) (number.Int b) w e = int_told (is_64_bit (a +ℤ b)) (a +ℤ b) w e
plus_told (number.Int a) (number.Dec b) w e = sum_told (whole a) b w e
plus_told (number.Dec a) (number.Int b) w e = sum_told a (whole b) w e
plus_told (number.Dec a) (number.Dec b) w e = sum_told a b w e

-- ---- a list

and_assoc : (a b c : Bool) → ((a && b) && c) ≡ (a && (b && c))
and_assoc true b c = refl
and_assoc false b c = refl

-- two lists of numbers with the same sum
record SameSum (xs ys : List Num) : Type 0 where
  scale : largest_scale xs ≡ largest_scale ys
  coefficients : (t : ℕ) → largest_scale xs ≤ t → coefficients_at t xs ≡ coefficients_at t ys
  ints : are_ints xs ≡ are_ints ys

-- two numbers may be told by their sum
two_as_one : (a n : Num) (ns : List Num) → SameSum (plus a n ∷ ns) (a ∷ n ∷ ns)
two_as_one a n ns =
    let j : Joins a n (plus a n) = plus_joins a n in
    let scales : largest_scale (plus a n ∷ ns) ≡ largest_scale (a ∷ n ∷ ns) = omega (arith, j.scale) in
    record {
      scale = scales;
      coefficients = λ t h.
          let within : scale_of (plus a n) ≤ t = omega (arith, h) in
          ap (λ c. c +ℤ coefficients_at t ns) (j.coefficient t within)
          ∙ +ℤ_assoc (aligned (fraction_of a) t) (aligned (fraction_of n) t) (coefficients_at t ns);
      ints = ap (λ b. b && are_ints ns) j.ints ∙ and_assoc (is_int a) (is_int n) (are_ints ns);
    }

same_behind : (a : Num) (xs ys : List Num) → SameSum xs ys → SameSum (a ∷ xs) (a ∷ ys)
same_behind a xs ys s =
    record {
      scale = ap (λ k. max (scale_of a) k) s.scale;
      coefficients = λ t h.
          let within : largest_scale xs ≤ t = omega (arith, h) in
          ap (λ c. aligned (fraction_of a) t +ℤ c) (s.coefficients t within);
      ints = ap (λ b. is_int a && b) s.ints;
    }

same_trans : (xs ys zs : List Num) → SameSum xs ys → SameSum ys zs → SameSum xs zs
same_trans xs ys zs s r =
    record {
      scale = s.scale ∙ r.scale;
      coefficients = λ t h. let within : largest_scale ys ≤ t = omega (arith, h, s.scale) in s.coefficients t h ∙ r.coefficients t within;
      ints = s.ints ∙ r.ints;
    }

same_exact : (x y : Num) (xs ys : List Num) → SameSum (x ∷ xs) (y ∷ ys) → exact_sum (x ∷ xs) ≡ exact_sum (y ∷ ys)
same_exact x y xs ys s =
    let few : ℕ = largest_scale (x ∷ xs) in
    let within : largest_scale (x ∷ xs) ≤ few = omega arith in
    ap (λ b. sum_value b (coefficients_at few (x ∷ xs)) few) s.ints
    ∙ ap (λ c. sum_value (are_ints (y ∷ ys)) c few) (s.coefficients few within)
    ∙ ap (λ k. sum_value (are_ints (y ∷ ys)) (coefficients_at k (y ∷ ys)) k) s.scale

joined : (a n : Num) (ns : List Num) → exact_sum (plus a n ∷ ns) ≡ exact_sum (a ∷ n ∷ ns)
joined a n ns = same_exact (plus a n) a ns (n ∷ ns) (two_as_one a n ns)

times_one : (c : ℤ) → c *ℤ pos 1 ≡ c
unfolding lib.IntN.one
times_one c = *ℤ-one c

pub alone : (n : Num) → exact_sum (n ∷ []) ≡ number_value n
alone (number.Int n) = ap Int (+ℤ_idr (n *ℤ pos 1) ∙ times_one n)
alone (number.Dec d) =
    let s : max d.scale 0 ≡ d.scale = omega arith in
    let none : d.scale - d.scale ≡ 0 = omega arith in
    ap (λ t. Dec (decimal_of (d.coefficient *ℤ pos (10 ^ (t - d.scale)) +ℤ pos 0) t)) s
    ∙ ap (λ k. Dec (decimal_of (d.coefficient *ℤ pos (10 ^ k) +ℤ pos 0) d.scale)) none
    ∙ ap (λ c. Dec (decimal_of c d.scale)) (+ℤ_idr (d.coefficient *ℤ pos 1) ∙ times_one d.coefficient)

pub number_judged : (a : Num) → number_operand (number_value a) ≡ Ok (Some a)
unfolding number_operand
number_judged (number.Int n) = refl
number_judged (number.Dec d) = refl

exact_on : (vs : List Value) (a : Num) (s : Value) → AllThere vs → sum_on (number_value a) vs ≡ Ok s → s ≡ exact_sum (a ∷ numbers vs)
unfolding calculated
exact_on [] a s there e = let same : number_value a ≡ s = cc in sym same ∙ sym (alone a)
exact_on (v ∷ vs) a s there e =
    by_operand (number_operand v) (operand_judged v there.0) (λ m. exact_on vs m s there.1)
    (ap (λ o. and_then (both o (number_operand v) (number_result Add)) (λ w. sum_on w vs)) (sym (number_judged a)) ∙ e)
  where
    by_result : (n : Num) (o : Outcome) → number_result Add a n ≡ o → ((m : Num) → sum_on (number_value m) vs ≡ Ok s
        → s ≡ exact_sum (m ∷ numbers vs))
        → and_then o (λ w. sum_on w vs) ≡ Ok s → s ≡ exact_sum (a ∷ n ∷ numbers vs)
    by_result n (Err fault) is same f = absurd (cc)
    by_result n (Ok w) is same f = same (plus a n) (ap (λ x. sum_on x vs) (plus_told a n w is) ∙ f) ∙ joined a n (numbers vs)

    by_operand : (o : Result (Option Num) ValueFault) → is_judged o ≡ true → ((m : Num) → sum_on (number_value m) vs ≡ Ok s
        → s ≡ exact_sum (m ∷ numbers vs))
        → and_then (both (Ok (Some a)) o (number_result Add)) (λ w. sum_on w vs) ≡ Ok s
        → s ≡ exact_sum (a ∷ (operand_number o ++ numbers vs))
    by_operand (Err fault) i same f = absurd (cc)
    by_operand (Ok None) i same f = absurd (cc)
    by_operand (Ok (Some n)) i same f = by_result n (number_result Add a n) refl same f

pub exact : (vs : List Value) (s : Value) → AllThere vs → sum_of vs ≡ Ok s → s ≡ exact_sum (numbers vs)
exact [] s there e = let same : Null ≡ s = cc in sym same
exact (v ∷ vs) s there e = by_operand (number_operand v) (operand_judged v there.0) e
  where
    by_operand : (o : Result (Option Num) ValueFault) → is_judged o ≡ true → and_then (operand_value o) (λ w. sum_on w vs) ≡ Ok s
        → s ≡ exact_sum (operand_number o ++ numbers vs)
    by_operand (Err fault) i f = absurd (cc)
    by_operand (Ok None) i f = absurd (cc)
    by_operand (Ok (Some n)) i f = exact_on vs n s there.1 f

sum_there : (o : Outcome) (f : Value → Partial) (vs : List Value) (t : Partial) → ((s : Value) → o ≡ Ok s → s ≡ exact_sum (numbers vs))
    → made f (refusing o) ≡ Ok t → t ≡ f (exact_sum (numbers vs))
sum_there (Ok s) f vs t same e = let there : f s ≡ t = cc in sym there ∙ ap f (same s refl)
sum_there (Err fault) f vs t same e = absurd (cc)

-- what SUM and AVG make of rows
pub sum_is_exact : (x : Bound) (rows : List (List Value)) (t : Partial) → added_to_one (agg.Sum x) rows (start (agg.Sum x)) ≡ Ok t
    → t ≡ Summed (exact_sum (numbers (values (agg.Sum x) rows)))
sum_is_exact x rows t e =
    let vs : List Value = values (agg.Sum x) rows in
    sum_there (sum_of vs) Summed vs t (λ s is. exact vs s (all_there (agg.Sum x) rows) is) (of_values (agg.Sum x) rows t e)

pub average_is_exact : (x : Bound) (rows : List (List Value)) (t : Partial) → added_to_one (agg.Avg x) rows (start (agg.Avg x)) ≡ Ok t
    → t ≡ Averaged (exact_sum (numbers (values (agg.Avg x) rows))) (length (values (agg.Avg x) rows))
average_is_exact x rows t e =
    let vs : List Value = values (agg.Avg x) rows in
    sum_there (sum_of vs) (λ s. Averaged s (length vs)) vs t (λ s is. exact vs s (all_there (agg.Avg x) rows) is) (of_values (agg.Avg
    x) rows t e)

-- ---- lists in two parts

-- the sum of numbers, one by one
abbrev sum_from : Num → List Num → Num
sum_from a [] = a
sum_from a (n ∷ ns) = sum_from (plus a n) ns

many_as_one : (a : Num) (ns rest : List Num) → SameSum (sum_from a ns ∷ rest) (a ∷ (ns ++ rest))
many_as_one a [] rest = record { scale = refl; coefficients = λ t h. refl; ints = refl }
many_as_one a (n ∷ ns) rest =
    same_trans (sum_from (plus a n) ns ∷ rest) (plus a n ∷ (ns ++ rest)) (a ∷ n ∷ (ns ++ rest)) (many_as_one (plus a n) ns rest)
    (two_as_one a n (ns ++ rest))

sum_is : (a : Num) (ns : List Num) → exact_sum (a ∷ ns) ≡ number_value (sum_from a ns)
sum_is a ns =
    ap (λ l. exact_sum (a ∷ l)) (sym (append-nil ns)) ∙ sym (same_exact (sum_from a ns) a [] (ns ++ []) (many_as_one a ns []))
    ∙ alone (sum_from a ns)

-- the sum of two sums
two_parts : (a b : Num) (ns ms : List Num) → exact_sum (a ∷ (ns ++ b ∷ ms)) ≡ number_value (plus (sum_from a ns) (sum_from b ms))
two_parts a b ns ms =
    let c : Num = sum_from a ns in
    let d : Num = sum_from b ms in
    sym (same_exact c a (b ∷ ms) (ns ++ b ∷ ms) (many_as_one a ns (b ∷ ms)))
    ∙ ap (λ l. exact_sum (c ∷ b ∷ l)) (sym (append-nil ms))
    ∙ sym (same_exact c c (d ∷ []) (b ∷ (ms ++ [])) (same_behind c (d ∷ []) (b ∷ (ms ++ [])) (many_as_one b ms [])))
    ∙ sym (joined c d []) ∙ alone (plus c d)

refused_or : (o : Outcome) (m : Value) → refusing o ≡ Ok m → o ≡ Ok m
refused_or (Ok v) m e = let same : v ≡ m = cc in ap Ok same
refused_or (Err fault) m e = absurd (cc)

added_there : (a b : Num) (m : Value) → merged_sums (number_value a) (number_value b) ≡ Ok m → m ≡ number_value (plus a b)
unfolding calculated number_operand
added_there (number.Int a) (number.Int b) m e = sym (plus_told (number.Int a) (number.Int b) m (refused_or _ m e))
added_there (number.Int a) (number.Dec b) m e = sym (plus_told (number.Int a) (number.Dec b) m (refused_or _ m e))
added_there (number.Dec a) (number.Int b) m e = sym (plus_told (number.Dec a) (number.Int b) m (refused_or _ m e))
added_there (number.Dec a) (number.Dec b) m e = sym (plus_told (number.Dec a) (number.Dec b) m (refused_or _ m e))

number_counts : (a : Num) → is_there (number_value a) ≡ true
number_counts (number.Int n) = refl
number_counts (number.Dec d) = refl

pub sums_merge : (xs ys : List Num) (m : Value) → merged_sums (exact_sum xs) (exact_sum ys) ≡ Ok m → m ≡ exact_sum (xs ++ ys)
sums_merge [] ys m e = let same : exact_sum ys ≡ m = cc in sym same
sums_merge (a ∷ ns) [] m e =
    let kept : merged_sums (exact_sum (a ∷ ns)) Null ≡ Ok (exact_sum (a ∷ ns)) =
    ap (λ b. cond b (Ok (exact_sum (a ∷ ns))) (Ok Null)) (ap is_there (sum_is a ns) ∙ number_counts (sum_from a ns)) in
    let same : exact_sum (a ∷ ns) ≡ m = cc in
    sym same ∙ ap exact_sum (sym (append-nil (a ∷ ns)))
sums_merge (a ∷ ns) (b ∷ ms) m e =
    added_there (sum_from a ns) (sum_from b ms) m
    (ap (merged_sums (number_value (sum_from a ns))) (sym (sum_is b ms))
    ∙ ap (λ v. merged_sums v (exact_sum (b ∷ ms))) (sym (sum_is a ns)) ∙ e)
    ∙ sym (two_parts a b ns ms)

pub numbers-append : (xs ys : List Value) → numbers (xs ++ ys) ≡ numbers xs ++ numbers ys
numbers-append [] ys = refl
numbers-append (x ∷ xs) ys =
    ap (λ l. operand_number (number_operand x) ++ l) (numbers-append xs ys)
    ∙ sym (append_assoc (operand_number (number_operand x)) (numbers xs) (numbers ys))
