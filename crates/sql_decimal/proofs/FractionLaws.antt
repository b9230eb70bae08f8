-- The results of arithmetic are the fractions that they stand for.
use Rattle.std.proofs.Common.{◌≡◌, ℕ, suc, zero, ◌+◌, ◌-◌, ◌*◌, ◌/◌, ◌^◌, ◌<◌, ◌≤◌, max, ℤ, pos, negsuc, neg_ℤ, ◌+ℤ◌, ◌-ℤ◌, ◌*ℤ◌, int_div, int_rem, unsigned_abs, Bool, true, false, ◌==◌, Result, Ok, Err, IfOk, if◌then◌else◌, refl, ap, sym, ◌∙◌, arith}
use Rattle.std.proofs.lemmas.Int.{ints, quot-rem}
use Rattle.std.proofs.Math.Nat.{mul-lt-mul_of_pos_right}
use Rattle.std.proofs.Math.IntN.{*ℤ_comm, zero-*ℤ, *ℤ-zero, *ℤ-negsuc, suc_ℤ-*ℤ}
use Rattle.sql_decimal.specs.declared.decimal.NumFault.{NumFault}
use Rattle.sql_decimal.specs.declared.decimal.NumFault.TheVariants.{Overflow, DivideByZero}
use Rattle.sql_decimal.specs.Decimal.{Decimal, decimal_of, is_decimal, is_within}
use Rattle.sql_decimal.specs.Arithmetic.{aligned, common_scale, are_aligned, decimal_or_overflow, sum, difference, product, quotient, remainder, cut_coefficient, cut}
use Rattle.sql_decimal.specs.Fractions.{numerator, IsSum, IsDifference, IsProduct, IsQuotient, IsRemainder, IsCut}
use Rattle.sql_decimal.proofs.PowersOfTen.{pow_split, ten_pow_pos}
use Rattle.sql_decimal.proofs.Scaling.{scale_scale, scale_both, neg-mul}

-- a factor on a sum
add-scale' : (k : ℕ) (x y : ℤ) → pos k *ℤ (x +ℤ y) ≡ pos k *ℤ x +ℤ pos k *ℤ y
add-scale' zero x y = rw (zero-*ℤ (x +ℤ y), zero-*ℤ x, zero-*ℤ y) refl
add-scale' (suc k) x y =
    rw (suc_ℤ-*ℤ (pos k) (x +ℤ y), suc_ℤ-*ℤ (pos k) x, suc_ℤ-*ℤ (pos k) y, add-scale' k x y) (omega (arith, ints))

add-scale : (x y : ℤ) (k : ℕ) → (x +ℤ y) *ℤ pos k ≡ x *ℤ pos k +ℤ y *ℤ pos k
add-scale x y k = rw (*ℤ_comm (x +ℤ y) (pos k), *ℤ_comm x (pos k), *ℤ_comm y (pos k)) (add-scale' k x y)

-- two negations
neg-neg : (n : ℕ) → neg_ℤ (neg_ℤ (pos n)) ≡ pos n
neg-neg zero = refl
neg-neg (suc n) = refl

-- a factor on a negation
neg-scale : (x : ℤ) (k : ℕ) → neg_ℤ x *ℤ pos k ≡ neg_ℤ (x *ℤ pos k)
neg-scale (pos n) k = neg-mul n k
neg-scale (negsuc n) k = sym (neg-neg (suc n * k))

sub-scale : (x y : ℤ) (k : ℕ) → (x -ℤ y) *ℤ pos k ≡ x *ℤ pos k -ℤ y *ℤ pos k
sub-scale x y k = add-scale x (neg_ℤ y) k ∙ ap (λ z. x *ℤ pos k +ℤ z) (neg-scale y k)

-- an aligned coefficient, over the product of both denominators
aligned-scale : (c : ℤ) (d e s : ℕ) → d ≤ s → (c *ℤ pos (10 ^ (s - d))) *ℤ pos (10 ^ (d + e)) ≡ (c *ℤ pos (10 ^ e)) *ℤ pos (10 ^ s)
aligned-scale c d e s h =
    scale_scale c (10 ^ (s - d)) (10 ^ (d + e))
    ∙ ap (λ n. c *ℤ pos n) (sym (pow_split (s - d) (d + e) (e + s) (omega arith)) ∙ pow_split e s (e + s) refl)
    ∙ sym (scale_scale c (10 ^ e) (10 ^ s))

-- a result by `decimal_or_overflow` has a property that its decimal has
from_decimal : (P : Decimal → Type 0) (c : ℤ) (s : ℕ) → P (decimal_of c s) → IfOk (decimal_or_overflow c s) P
from_decimal P c s p = by (is_decimal c s)
  where
    by : (t : Bool) → IfOk {E = NumFault} (if t then Ok (decimal_of c s) else Err Overflow) P
    by true = p
    by false = tt

-- a result in one case, and a fault in the other
or_fault : (P : Decimal → Type 0) (t : Bool) (r : Result Decimal NumFault) (fault : NumFault) → IfOk r P → IfOk (if t then r else Err fault) P
or_fault P true r fault p = p
or_fault P false r fault p = tt

fault_or : (P : Decimal → Type 0) (t : Bool) (r : Result Decimal NumFault) (fault : NumFault) → IfOk r P → IfOk (if t then Err fault else r) P
fault_or P true r fault p = tt
fault_or P false r fault p = p

pub sum-is : (a b : Decimal) → IfOk (sum a b) (IsSum a b)
unfolding sum
sum-is a b =
    let s = common_scale a b in
    or_fault (IsSum a b) (are_aligned a b) _ Overflow (from_decimal (IsSum a b) (aligned a s +ℤ aligned b s) s (
    add-scale (aligned a s) (aligned b s) (10 ^ (a.scale + b.scale))
    ∙ ap (λ z. z +ℤ aligned b s *ℤ pos (10 ^ (a.scale + b.scale))) (aligned-scale a.coefficient a.scale b.scale s (omega arith))
    ∙ ap (λ z. (a.coefficient *ℤ pos (10 ^ b.scale)) *ℤ pos (10 ^ s) +ℤ z) (
    ap (λ n. aligned b s *ℤ pos (10 ^ n)) (omega arith) ∙ aligned-scale b.coefficient b.scale a.scale s (omega arith))
    ∙ sym (add-scale (numerator a b.scale) (numerator b a.scale) (10 ^ s))))

pub difference-is : (a b : Decimal) → IfOk (difference a b) (IsDifference a b)
unfolding difference
difference-is a b =
    let s = common_scale a b in
    or_fault (IsDifference a b) (are_aligned a b) _ Overflow (from_decimal (IsDifference a b) (aligned a s -ℤ aligned b s) s (
    sub-scale (aligned a s) (aligned b s) (10 ^ (a.scale + b.scale))
    ∙ ap (λ z. z -ℤ aligned b s *ℤ pos (10 ^ (a.scale + b.scale))) (aligned-scale a.coefficient a.scale b.scale s (omega arith))
    ∙ ap (λ z. (a.coefficient *ℤ pos (10 ^ b.scale)) *ℤ pos (10 ^ s) -ℤ z) (
    ap (λ n. aligned b s *ℤ pos (10 ^ n)) (omega arith) ∙ aligned-scale b.coefficient b.scale a.scale s (omega arith))
    ∙ sym (sub-scale (numerator a b.scale) (numerator b a.scale) (10 ^ s))))

pub product-is : (a b : Decimal) → IfOk (product a b) (IsProduct a b)
unfolding product
product-is a b = from_decimal (IsProduct a b) (a.coefficient *ℤ b.coefficient) (a.scale + b.scale) refl

-- a divisor of the other sign
div-neg : (x : ℤ) (n : ℕ) → 0 < n → int_div x (neg_ℤ (pos n)) ≡ neg_ℤ (int_div x (pos n))
div-neg x zero h = absurd (omega arith)
div-neg (pos a) (suc n) h = refl
div-neg (negsuc a) (suc n) h = sym (neg-neg (suc a / suc n))

-- the same factor on a dividend and a divisor of any sign
scale_over : (z d : ℤ) (q : ℕ) → 0 < q → int_div (z *ℤ pos q) (d *ℤ pos q) ≡ int_div z d
scale_over z (pos d) q h = scale_both z d q h
scale_over z (negsuc d) q h =
    let some : 0 * q < suc d * q = mul-lt-mul_of_pos_right {m = 0} {n = suc d} (omega arith) h in
    div-neg (z *ℤ pos q) (suc d * q) (omega (arith, some))
    ∙ ap neg_ℤ (scale_both z (suc d) q h)
    ∙ sym (div-neg z (suc d) (omega arith))

pub quotient-is : (a b : Decimal) → IfOk (quotient a b) (IsQuotient a b)
unfolding quotient
quotient-is a b =
    let s = max (common_scale a b) 6 in
    let n = a.coefficient *ℤ pos (10 ^ (s - a.scale + b.scale)) in
    let whole : n *ℤ pos (10 ^ a.scale) ≡ numerator a (b.scale + s) =
    scale_scale a.coefficient (10 ^ (s - a.scale + b.scale)) (10 ^ a.scale)
    ∙ ap (λ k. a.coefficient *ℤ pos k) (sym (pow_split (s - a.scale + b.scale) a.scale (b.scale + s) (omega arith))) in
    fault_or (IsQuotient a b) (unsigned_abs b.coefficient == 0) _ DivideByZero (or_fault (IsQuotient a b) (is_within 38 n) _ Overflow (
    from_decimal (IsQuotient a b) (int_div n b.coefficient) s (
    sym (scale_over n b.coefficient (10 ^ a.scale) (ten_pow_pos a.scale)) ∙ ap (λ z. int_div z (numerator b a.scale)) whole)))

-- a negated factor
mul-neg : (x : ℤ) (n : ℕ) → x *ℤ neg_ℤ (pos n) ≡ neg_ℤ (x *ℤ pos n)
mul-neg x zero = *ℤ-zero x ∙ sym (ap neg_ℤ (*ℤ-zero x))
mul-neg x (suc n) = *ℤ-negsuc x n

-- a factor on a product
mul-scale : (x y : ℤ) (k : ℕ) → (x *ℤ y) *ℤ pos k ≡ x *ℤ (y *ℤ pos k)
mul-scale x (pos n) k = scale_scale x n k
mul-scale x (negsuc n) k =
    ap (λ z. z *ℤ pos k) (*ℤ-negsuc x n)
    ∙ neg-scale (x *ℤ pos (suc n)) k
    ∙ ap neg_ℤ (scale_scale x (suc n) k)
    ∙ sym (mul-neg x (suc n * k))

-- what is left of x after division by y, both with a factor
rem-scale : (x y : ℤ) (k : ℕ) → int_rem x y *ℤ pos k ≡ x *ℤ pos k -ℤ int_div x y *ℤ (y *ℤ pos k)
rem-scale x y k =
    let whole : x *ℤ pos k ≡ (int_div x y *ℤ y) *ℤ pos k +ℤ int_rem x y *ℤ pos k =
    ap (λ z. z *ℤ pos k) (sym (quot-rem x y)) ∙ add-scale (int_div x y *ℤ y) (int_rem x y) k in
    let product : (int_div x y *ℤ y) *ℤ pos k ≡ int_div x y *ℤ (y *ℤ pos k) = mul-scale (int_div x y) y k in
    omega (arith, ints, whole, product)

-- the remainder of two numerators that are x and y over another denominator
rem-other : (x y n m : ℤ) (j k : ℕ) → 0 < j → 0 < k → x *ℤ pos j ≡ n *ℤ pos k → y *ℤ pos j ≡ m *ℤ pos k
    → int_rem x y *ℤ pos j ≡ (n -ℤ int_div n m *ℤ m) *ℤ pos k
rem-other x y n m j k some some' e f =
    let same : int_div x y ≡ int_div n m =
    sym (scale_over x y j some) ∙ ap (λ z. int_div z (y *ℤ pos j)) e ∙ ap (λ z. int_div (n *ℤ pos k) z) f ∙ scale_over n m k some' in
    rem-scale x y j
    ∙ ap (λ z. z -ℤ int_div x y *ℤ (y *ℤ pos j)) e
    ∙ ap (λ z. n *ℤ pos k -ℤ z) (ap (λ q. q *ℤ (y *ℤ pos j)) same ∙ ap (λ z. int_div n m *ℤ z) f ∙ sym (mul-scale (int_div n m) m k))
    ∙ sym (sub-scale n (int_div n m *ℤ m) k)

pub remainder-is : (a b : Decimal) → IfOk (remainder a b) (IsRemainder a b)
unfolding remainder
remainder-is a b =
    let s = common_scale a b in
    fault_or (IsRemainder a b) (unsigned_abs b.coefficient == 0) _ DivideByZero (or_fault (IsRemainder a b) (are_aligned a b) _ Overflow (
    from_decimal (IsRemainder a b) (int_rem (aligned a s) (aligned b s)) s (
    rem-other (aligned a s) (aligned b s) (numerator a b.scale) (numerator b a.scale) (10 ^ (a.scale + b.scale)) (10 ^ s) (ten_pow_pos (a.scale + b.scale)) (ten_pow_pos s)
    (aligned-scale a.coefficient a.scale b.scale s (omega arith))
    (ap (λ n. aligned b s *ℤ pos (10 ^ n)) (omega arith) ∙ aligned-scale b.coefficient b.scale a.scale s (omega arith)))))

pub cut-is : (d : Decimal) (p s : ℕ) → IfOk (cut d p s) (IsCut d)
unfolding cut
cut-is d p s = by (is_within p (cut_coefficient d s))
  where
    by : (t : Bool) → IfOk {E = NumFault} (if t then Ok (decimal_of (cut_coefficient d s) s) else Err Overflow) (IsCut d)
    by true = refl
    by false = tt
