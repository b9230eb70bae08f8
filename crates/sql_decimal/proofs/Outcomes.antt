-- Which case of a definition of arithmetic applies.
use Rattle.std.proofs.Common.{◌≡◌, ◌≢◌, ℕ, ◌+◌, ◌-◌, ◌^◌, ◌<◌, ◌≤◌, max, ℤ, pos, negsuc, suc, zero, ◌*ℤ◌, ◌+ℤ◌, ◌-ℤ◌, int_div, int_rem, unsigned_abs, true, false, refl, ap, ◌∙◌, subst, arith, Result, Err, IsTrue, ◌==◌}
use Rattle.std.proofs.lemmas.Bool.Decides.{nat_tests}
use Rattle.std.proofs.Math.Nat.{pow-le-pow_right}
use Rattle.sql_decimal.specs.declared.decimal.NumFault.{NumFault}
use Rattle.sql_decimal.specs.declared.decimal.NumFault.TheVariants.{Overflow}
use Rattle.sql_decimal.specs.Decimal.{Decimal, is_within}
use Rattle.sql_decimal.specs.Arithmetic.{aligned, common_scale, are_aligned, decimal_or_overflow, sum, difference, product, quotient, remainder, cut_coefficient, cut}

-- a cut number of over 38 digits has more than p
pub cut_over : (d : Decimal) (p s : ℕ) → p ≤ 38 → ¬ (unsigned_abs (cut_coefficient d s) < 10 ^ 38) → Err Overflow ≡ cut d p s
unfolding cut
cut_over d p s h over =
    let low : 10 ^ p ≤ 10 ^ 38 = pow-le-pow_right {n = 10} (omega arith) {i = p} {j = 38} h in
    grind (arith, nat_tests, low)

-- the test passes
within-true : (p : ℕ) (c : ℤ) → unsigned_abs c < 10 ^ p → is_within p c ≡ true
within-true p c h = grind (arith, nat_tests)

-- a number that is not zero has a size that is not zero
size-nonzero : (z : ℤ) → z ≢ pos 0 → (unsigned_abs z == 0) ≡ false
size-nonzero (pos zero) ne = absurd (ne refl)
size-nonzero (pos (suc a)) ne = grind (arith, nat_tests)
size-nonzero (negsuc a) ne = grind (arith, nat_tests)

-- a quotient whose divisor is not zero, and whose numerator has at most 38 digits
pub quotient_in_range : (a b : Decimal) (r : Result Decimal NumFault) (n d : ℤ) (s : ℕ) → r ≡ decimal_or_overflow (int_div n d) s
    → b.coefficient ≢ pos 0 → d ≡ b.coefficient → s ≡ max (common_scale a b) 6
    → n ≡ a.coefficient *ℤ pos (10 ^ (s - a.scale + b.scale)) → unsigned_abs n < 10 ^ 38 → r ≡ quotient a b
unfolding quotient
quotient_in_range a b r n d s answer ne e f g small =
    let some = size-nonzero b.coefficient ne in
    let P : ℤ → Type 0 = λ z. unsigned_abs z < 10 ^ 38 in
    let fits = within-true 38 (a.coefficient *ℤ pos (10 ^ (max (common_scale a b) 6 - a.scale + b.scale))) (subst P (g ∙ ap (λ t. a.coefficient *ℤ pos (10 ^ (t - a.scale + b.scale))) f) small) in
    answer ∙ rw (e, g, f) (rw (some, fits) refl)

-- a remainder whose divisor is not zero, and whose operands fit at the larger scale
pub remainder_in_range : (a b : Decimal) (r : Result Decimal NumFault) (x y : ℤ) (s : ℕ) → r ≡ decimal_or_overflow (int_rem x y) s
    → b.coefficient ≢ pos 0 → IsTrue (are_aligned a b) → x ≡ aligned a (common_scale a b) → y ≡ aligned b (common_scale a b) → s ≡ common_scale a b
    → r ≡ remainder a b
unfolding remainder
remainder_in_range a b r x y s answer ne fits e f g =
    let some = size-nonzero b.coefficient ne in
    answer ∙ rw (e, f, g) (rw (some, fits) refl)

-- a sum of operands that fit at the larger scale
pub sum_in_range : (a b : Decimal) (r : Result Decimal NumFault) (x y : ℤ) (s : ℕ) → r ≡ decimal_or_overflow (x +ℤ y) s
    → IsTrue (are_aligned a b) → x ≡ aligned a (common_scale a b) → y ≡ aligned b (common_scale a b) → s ≡ common_scale a b → r ≡ sum a b
unfolding sum
sum_in_range a b r x y s answer fits e f g = answer ∙ rw (e, f, g) (rw fits refl)

-- a difference of such operands
pub difference_in_range : (a b : Decimal) (r : Result Decimal NumFault) (x y : ℤ) (s : ℕ) → r ≡ decimal_or_overflow (x -ℤ y) s
    → IsTrue (are_aligned a b) → x ≡ aligned a (common_scale a b) → y ≡ aligned b (common_scale a b) → s ≡ common_scale a b → r ≡ difference a b
unfolding difference
difference_in_range a b r x y s answer fits e f g = answer ∙ rw (e, f, g) (rw fits refl)

-- a product
pub product_of_parts : (a b : Decimal) (r : Result Decimal NumFault) (x y : ℤ) (s : ℕ) → r ≡ decimal_or_overflow (x *ℤ y) s
    → x ≡ a.coefficient → y ≡ b.coefficient → s ≡ a.scale + b.scale → r ≡ product a b
unfolding product
product_of_parts a b r x y s answer e f g = answer ∙ rw (e, f, g) refl
