-- Whole numbers times powers of ten: products of products, quotients, order.
use Rattle.std.proofs.Common.{◌≡◌, ℕ, suc, zero, ◌-◌, ◌*◌, ◌/◌, ◌^◌, ◌<◌, ◌≤◌, ℤ, pos, negsuc, ◌*ℤ◌, neg_ℤ, ◌<ℤ◌, int_div, unsigned_abs, refl, ap, sym, ◌∙◌, subst, arith, ◌≢◌, Option}
use Rattle.std.specs.Option.{SomeIff}
use Rattle.std.specs.Ordering.{int_cmp, ordering_reverse, MatchOrdering}
use Rattle.std.specs.declared.cmp.Ordering.{Ordering}
use Rattle.std.specs.declared.cmp.Ordering.TheVariants.{Less, Equal, Greater}
use Rattle.std.specs.Cmp.{int_cmp_is, int_ranks}
use Rattle.std.proofs.lemmas.Int.{ints}
use Rattle.std.proofs.Math.Nat.{mul_assoc, zero-mul, zero-div, mul-div_cancel, mul-div-mul_right, mul-lt-mul_of_pos_right}
use Rattle.sql_decimal.specs.Decimal.{Decimal, compared}
use Rattle.sql_decimal.proofs.PowersOfTen.{pow_split, ten_pow_pos}

-- the negation of n, times q
pub neg-mul : (n q : ℕ) → neg_ℤ (pos n) *ℤ pos q ≡ neg_ℤ (pos (n * q))
neg-mul zero q = rw (zero-mul q) refl
neg-mul (suc n) q = refl

-- the negation of n, divided by q
pub neg-div : (n q : ℕ) → int_div (neg_ℤ (pos n)) (pos q) ≡ neg_ℤ (pos (n / q))
neg-div zero q = rw (zero-div q) refl
neg-div (suc n) q = refl

-- two factors one after the other
pub scale_scale : (z : ℤ) (p q : ℕ) → (z *ℤ pos p) *ℤ pos q ≡ z *ℤ pos (p * q)
scale_scale (pos a) p q = ap pos (mul_assoc a p q)
scale_scale (negsuc a) p q = neg-mul (suc a * p) q ∙ ap (λ n. neg_ℤ (pos n)) (mul_assoc (suc a) p q)

-- a factor that is divided off again
pub scale_div : (z : ℤ) (q : ℕ) → 0 < q → int_div (z *ℤ pos q) (pos q) ≡ z
scale_div (pos a) q h = ap pos (mul-div_cancel a h)
scale_div (negsuc a) q h = neg-div (suc a * q) q ∙ ap (λ n. neg_ℤ (pos n)) (mul-div_cancel (suc a) h)

-- a factor of both the dividend and the divisor
pub scale_both : (z : ℤ) (d q : ℕ) → 0 < q → int_div (z *ℤ pos q) (pos (d * q)) ≡ int_div z (pos d)
scale_both (pos a) d q h = ap pos (mul-div-mul_right a d h)
scale_both (negsuc a) d q h =
    neg-div (suc a * q) (d * q) ∙ ap (λ n. neg_ℤ (pos n)) (mul-div-mul_right (suc a) d h)

-- the coefficient c at the scale d, cut to a scale s that is no smaller
pub cut_up : (c : ℤ) (d s : ℕ) → d ≤ s → int_div (c *ℤ pos (10 ^ s)) (pos (10 ^ d)) ≡ c *ℤ pos (10 ^ (s - d))
cut_up c d s h =
    rw (pow_split (s - d) d s (omega arith), ← scale_scale c (10 ^ (s - d)) (10 ^ d)) (scale_div _ _ (ten_pow_pos d))

-- the coefficient c at the scale d, cut to a scale s that is no larger
pub cut_down : (c : ℤ) (d s : ℕ) → s ≤ d → int_div (c *ℤ pos (10 ^ s)) (pos (10 ^ d)) ≡ int_div c (pos (10 ^ (d - s)))
cut_down c d s h = rw (pow_split (d - s) s d (omega arith)) (scale_both c (10 ^ (d - s)) (10 ^ s) (ten_pow_pos s))

-- a factor keeps the order
pub scale_lt : (x y : ℤ) (q : ℕ) → 0 < q → x <ℤ y → (x *ℤ pos q) <ℤ (y *ℤ pos q)
scale_lt (pos a) (pos b) q h less =
    let k : a < b = omega (arith, ints) in
    let m : a * q < b * q = mul-lt-mul_of_pos_right k h in
    omega (arith, ints, m)
scale_lt (pos a) (negsuc b) q h less = absurd (omega (arith, ints))
scale_lt (negsuc a) (pos b) q h less =
    let m : 0 * q < suc a * q = mul-lt-mul_of_pos_right {m = 0} {n = suc a} (omega arith) h in
    omega (arith, ints, m)
scale_lt (negsuc a) (negsuc b) q h less =
    let k : suc b < suc a = omega (arith, ints) in
    let m : suc b * q < suc a * q = mul-lt-mul_of_pos_right k h in
    omega (arith, ints, m)

-- so both sides of a comparison may have it
pub scale_cmp : (x y : ℤ) (q : ℕ) → 0 < q → int_cmp x y ≡ int_cmp (x *ℤ pos q) (y *ℤ pos q)
scale_cmp x y q h = int_cmp_is _ _ _ (ranks (int_cmp x y) (int_ranks x y))
  where
    ranks : (r : Ordering) → MatchOrdering r (x <ℤ y) (x ≡ y) (y <ℤ x) → MatchOrdering r ((x *ℤ pos q) <ℤ (y *ℤ pos q)) (x *ℤ pos q ≡ y *ℤ pos q) ((y *ℤ pos q) <ℤ (x *ℤ pos q))
    ranks Less less = scale_lt x y q h less
    ranks Equal same = ap (λ z. z *ℤ pos q) same
    ranks Greater more = scale_lt y x q h more

-- the other way round
pub cmp-flip : (x y : ℤ) → ordering_reverse (int_cmp x y) ≡ int_cmp y x
cmp-flip x y = int_cmp_is _ _ _ (ranks (int_cmp x y) (int_ranks x y))
  where
    ranks : (r : Ordering) → MatchOrdering r (x <ℤ y) (x ≡ y) (y <ℤ x) → MatchOrdering (ordering_reverse r) (y <ℤ x) (y ≡ x) (x <ℤ y)
    ranks Less less = less
    ranks Equal same = sym same
    ranks Greater more = more

-- a decimal aligned to the other's larger scale compares as the numerators over the common denominator do
compared_left : (a b : Decimal) → a.scale ≤ b.scale → int_cmp (a.coefficient *ℤ pos (10 ^ (b.scale - a.scale))) b.coefficient ≡ compared a b
unfolding compared
compared_left a b h =
    scale_cmp _ _ (10 ^ a.scale) (ten_pow_pos a.scale)
    ∙ ap (λ z. int_cmp z (b.coefficient *ℤ pos (10 ^ a.scale))) (scale_scale a.coefficient (10 ^ (b.scale - a.scale)) (10 ^ a.scale)
    ∙ ap (λ n. a.coefficient *ℤ pos n) (sym (pow_split (b.scale - a.scale) a.scale b.scale (omega arith))))

-- the same of values that are known to be the parts of the two decimals
pub compared_by_left : (a b : Decimal) (r : Ordering) (x y : ℤ) (k : ℕ) → r ≡ int_cmp (x *ℤ pos (10 ^ k)) y → x ≡ a.coefficient → y ≡ b.coefficient → k ≡ b.scale - a.scale → a.scale ≤ b.scale → r ≡ compared a b
compared_by_left a b r x y k e f g h less = e ∙ rw (f, g, h) (compared_left a b less)

-- and where the second decimal is the one that was aligned
pub compared_by_right : (a b : Decimal) (r : Ordering) (x y : ℤ) (k : ℕ) → r ≡ int_cmp (x *ℤ pos (10 ^ k)) y → x ≡ b.coefficient → y ≡ a.coefficient → k ≡ a.scale - b.scale → b.scale ≤ a.scale → ordering_reverse r ≡ compared a b
unfolding compared
compared_by_right a b r x y k e f g h less =
    ap ordering_reverse (compared_by_left b a r x y k e f g h less)
    ∙ cmp-flip (b.coefficient *ℤ pos (10 ^ a.scale)) (a.coefficient *ℤ pos (10 ^ b.scale))

-- an answer that is some number where it has few digits is the same of an equal number
pub some_iff_same : (o : Option ℤ) (z w : ℤ) (n : ℕ) → z ≡ w → SomeIff o (unsigned_abs z < n) z → SomeIff o (unsigned_abs w < n) w
some_iff_same o z w n e h = let P : ℤ → Type 0 = λ v. SomeIff o (unsigned_abs v < n) v in subst P e h

-- a multiple of what is not zero is not zero
pub scale-nonzero : (z : ℤ) (q : ℕ) → 0 < q → z ≢ pos 0 → z *ℤ pos q ≢ pos 0
scale-nonzero (pos zero) q h ne e = ne refl
scale-nonzero (pos (suc a)) q h ne e =
    let m : 0 * q < suc a * q = mul-lt-mul_of_pos_right {m = 0} {n = suc a} (omega arith) h in
    absurd (omega (arith, ints, m))
scale-nonzero (negsuc a) q h ne e =
    let m : 0 * q < suc a * q = mul-lt-mul_of_pos_right {m = 0} {n = suc a} (omega arith) h in
    absurd (omega (arith, ints, m))
