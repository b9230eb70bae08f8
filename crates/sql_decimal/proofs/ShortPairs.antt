-- Arithmetic of two numbers of at most 18 digits at one scale.
use Rattle.std.proofs.Common.{◌≡◌, ℕ, ◌+◌, ◌-◌, ◌^◌, ◌<◌, ◌≤◌, ℤ, pos, ◌*ℤ◌, ◌+ℤ◌, ◌-ℤ◌, unsigned_abs, to_z, of_z, true, refl, ap, sym, ◌∙◌, subst, arith, Result, Ok, IfOk}
use Rattle.std.specs.Int.{w64}
use Rattle.std.specs.Ordering.{int_cmp}
use Rattle.std.proofs.lemmas.Bool.Decides.{nat_tests}
use Rattle.std.proofs.lemmas.Int.{ints, to_z-of_z, fits_signed_from_abs}
use Rattle.sql_decimal.specs.declared.decimal.NumFault.{NumFault}
use Rattle.sql_decimal.specs.declared.pair.ShortPair.{ShortPair}
use Rattle.sql_decimal.specs.Decimal.{Decimal, decimal_of, is_decimal, compared}
use Rattle.sql_decimal.specs.Arithmetic.{aligned, common_scale, are_aligned, decimal_or_overflow, sum, difference}
use Rattle.sql_decimal.specs.Fractions.{IsSum, IsDifference}
use Rattle.sql_decimal.specs.ShortPairs.{IsPairOf}
use Rattle.sql_decimal.proofs.FractionLaws.{sum-is, difference-is}
use Rattle.sql_decimal.proofs.PowersOfTen.{pow_split, ten_pow_pos}
use Rattle.sql_decimal.proofs.Scaling.{scale_scale, scale_cmp}

-- a number of few digits is a decimal
pub few_digits : (c : ℤ) (s : ℕ) → unsigned_abs c < 10 ^ 38 → s ≤ 38 → is_decimal c s ≡ true
few_digits c s digits scale = grind (arith, nat_tests)

in_range : (c : ℤ) (s : ℕ) → unsigned_abs c < 10 ^ 38 → s ≤ 38 → Ok (decimal_of c s) ≡ decimal_or_overflow c s
in_range c s digits scale = rw (few_digits c s digits scale) refl

-- both fit at the larger scale
aligned_at : (a b : Decimal) (p : ShortPair) → IsPairOf a b p → are_aligned a b ≡ true
aligned_at a b p h =
    let P : ℕ → Type 0 = λ s. (p.left ≡ aligned a s) × (p.right ≡ aligned b s) in
    let e = subst P h.scale (h.left, h.right) in
    let Q : ℤ → Type 0 = λ z. unsigned_abs z < 10 ^ 18 in
    let l : unsigned_abs (aligned a (common_scale a b)) < 10 ^ 18 = subst Q e.0 h.left_digits in
    let r : unsigned_abs (aligned b (common_scale a b)) < 10 ^ 18 = subst Q e.1 h.right_digits in
    grind (arith, nat_tests)

-- what the code adds and subtracts in 64 bits
pub added : (x y : ℤ) → unsigned_abs x < 10 ^ 18 → unsigned_abs y < 10 ^ 18
    → to_z w64 (of_z w64 (to_z w64 (of_z w64 x) +ℤ to_z w64 (of_z w64 y))) ≡ x +ℤ y
added x y f g =
    rw (to_z-of_z w64 x (fits_signed_from_abs w64 x (omega arith)), to_z-of_z w64 y (fits_signed_from_abs w64 y (omega arith)))
    (to_z-of_z w64 (x +ℤ y) (fits_signed_from_abs w64 (x +ℤ y) (omega (arith, ints))))

pub sum_of_pair : (a b d : Decimal) (p : ShortPair) (z : ℤ) → IsPairOf a b p → d ≡ decimal_of z p.scale → z ≡ p.left +ℤ p.right → Ok d ≡ sum a b
unfolding sum
sum_of_pair a b d p z h e f =
    let digits : unsigned_abs (p.left +ℤ p.right) < 10 ^ 38 = omega (arith, ints, h.left_digits, h.right_digits) in
    ap Ok (e ∙ ap (λ c. decimal_of c p.scale) f)
    ∙ in_range (p.left +ℤ p.right) p.scale digits h.scale_bound
    ∙ ap (λ c. decimal_or_overflow (c +ℤ p.right) p.scale) h.left
    ∙ ap (λ c. decimal_or_overflow (aligned a p.scale +ℤ c) p.scale) h.right
    ∙ rw (h.scale, aligned_at a b p h) refl

pub sum_fraction : (a b : Decimal) (r : Result Decimal NumFault) → r ≡ sum a b → IfOk r (IsSum a b)
sum_fraction a b r e = let P : Result Decimal NumFault → Type 0 = λ x. IfOk x (IsSum a b) in subst P (sym e) (sum-is a b)

pub subtracted : (x y : ℤ) → unsigned_abs x < 10 ^ 18 → unsigned_abs y < 10 ^ 18
    → to_z w64 (of_z w64 (to_z w64 (of_z w64 x) -ℤ to_z w64 (of_z w64 y))) ≡ x -ℤ y
subtracted x y f g =
    rw (to_z-of_z w64 x (fits_signed_from_abs w64 x (omega arith)), to_z-of_z w64 y (fits_signed_from_abs w64 y (omega arith)))
    (to_z-of_z w64 (x -ℤ y) (fits_signed_from_abs w64 (x -ℤ y) (omega (arith, ints))))

pub difference_of_pair : (a b d : Decimal) (p : ShortPair) (z : ℤ) → IsPairOf a b p → d ≡ decimal_of z p.scale → z ≡ p.left -ℤ p.right → Ok d ≡ difference a b
unfolding difference
difference_of_pair a b d p z h e f =
    let digits : unsigned_abs (p.left -ℤ p.right) < 10 ^ 38 = omega (arith, ints, h.left_digits, h.right_digits) in
    ap Ok (e ∙ ap (λ c. decimal_of c p.scale) f)
    ∙ in_range (p.left -ℤ p.right) p.scale digits h.scale_bound
    ∙ ap (λ c. decimal_or_overflow (c -ℤ p.right) p.scale) h.left
    ∙ ap (λ c. decimal_or_overflow (aligned a p.scale -ℤ c) p.scale) h.right
    ∙ rw (h.scale, aligned_at a b p h) refl

pub difference_fraction : (a b : Decimal) (r : Result Decimal NumFault) → r ≡ difference a b → IfOk r (IsDifference a b)
difference_fraction a b r e = let P : Result Decimal NumFault → Type 0 = λ x. IfOk x (IsDifference a b) in subst P (sym e) (difference-is a b)

-- the order of the pair is that of the numbers
pub pair_order : (a b : Decimal) (p : ShortPair) → IsPairOf a b p → int_cmp p.left p.right ≡ compared a b
unfolding compared
pair_order a b p h =
    let k = a.scale + b.scale - p.scale in
    let left : p.left *ℤ pos (10 ^ k) ≡ a.coefficient *ℤ pos (10 ^ b.scale) =
    ap (λ z. z *ℤ pos (10 ^ k)) h.left ∙ scale_scale a.coefficient (10 ^ (p.scale - a.scale)) (10 ^ k)
    ∙ ap (λ n. a.coefficient *ℤ pos n) (sym (pow_split (p.scale - a.scale) k b.scale (omega (arith, h.scale)))) in
    let right : p.right *ℤ pos (10 ^ k) ≡ b.coefficient *ℤ pos (10 ^ a.scale) =
    ap (λ z. z *ℤ pos (10 ^ k)) h.right ∙ scale_scale b.coefficient (10 ^ (p.scale - b.scale)) (10 ^ k)
    ∙ ap (λ n. b.coefficient *ℤ pos n) (sym (pow_split (p.scale - b.scale) k a.scale (omega (arith, h.scale)))) in
    scale_cmp p.left p.right (10 ^ k) (ten_pow_pos k)
    ∙ ap (λ z. int_cmp z (p.right *ℤ pos (10 ^ k))) left
    ∙ ap (λ z. int_cmp (a.coefficient *ℤ pos (10 ^ b.scale)) z) right
