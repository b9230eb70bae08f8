-- The table of powers of ten, and when a multiple by one of them has at most 38 digits.
use Rattle.std.proofs.Common.{◌≡◌, ℕ, suc, zero, ◌+◌, ◌-◌, ◌*◌, ◌^◌, ◌<◌, ◌≤◌, ℤ, pos, ◌*ℤ◌, unsigned_abs, FitsSigned, to_z, of_z, Bool, true, ◌&&◌, ◌==◌, IsTrue, List, [], ◌∷◌, length, get_or, refl, ap, sym, ◌∙◌, subst, arith}
use Rattle.std.proofs.lemmas.Nat.{pow-add}
use Rattle.std.proofs.lemmas.Int.{unsigned_abs-mul, fits_signed_from_abs, to_z-of_z, to_z_pos}
use Rattle.std.specs.Int.{w64, w128}
use Rattle.std.proofs.Math.Nat.{one-le-pow, mul-lt-mul_of_pos_right, mul-le-mul_right, pow-le-pow_right}

-- the list has the powers of ten from 10 ^ k on
abbrev pub are_powers : ℕ → List ℕ → Bool
are_powers k [] = true
are_powers k (x ∷ xs) = (x == 10 ^ k) && are_powers (k + 1) xs

-- the entry at i of such a list
pub power_at : (k i n : ℕ) (xs : List ℕ) → IsTrue (are_powers k xs) → i < length xs → n ≡ k + i → get_or xs i 0 ≡ 10 ^ n
power_at k i n [] t h e = absurd (omega arith)
power_at k zero n (x ∷ xs) t h e = let s : n ≡ k = omega arith in rw s (grind arith)
power_at k (suc i) n (x ∷ xs) t h e = power_at (k + 1) i n xs (grind arith) (omega arith) (omega arith)

-- ten to some power is not zero
pub ten_pow_pos : (k : ℕ) → 0 < 10 ^ k
ten_pow_pos k = omega (arith, one-le-pow k 10 (omega arith))

-- 10 ^ j * 10 ^ k is 10 ^ n, where n is j + k
pub pow_split : (j k n : ℕ) → n ≡ j + k → 10 ^ n ≡ 10 ^ j * 10 ^ k
pow_split j k n e = rw e (pow-add 10 j k)

-- c has at most n - k digits: c * 10 ^ k has at most n
pub scaled_within : (n k : ℕ) (c : ℤ) → k ≤ n → unsigned_abs c < 10 ^ (n - k) → unsigned_abs (c *ℤ pos (10 ^ k)) < 10 ^ n
scaled_within n k c h less =
    rw (unsigned_abs-mul, pow_split (n - k) k n (omega arith)) (mul-lt-mul_of_pos_right less (ten_pow_pos k))

-- c has more than n - k digits: c * 10 ^ k has more than n
pub scaled_over : (n k : ℕ) (c : ℤ) → k ≤ n → 10 ^ (n - k) ≤ unsigned_abs c → 10 ^ n ≤ unsigned_abs (c *ℤ pos (10 ^ k))
scaled_over n k c h more =
    rw (unsigned_abs-mul, pow_split (n - k) k n (omega arith)) (mul-le-mul_right (10 ^ k) more)

-- a multiple by 10 ^ k of what is not zero has more than 38 digits where k is over 38
pub scaled_far_over : (k : ℕ) (c : ℤ) → 38 < k → 0 < unsigned_abs c → 10 ^ 38 ≤ unsigned_abs (c *ℤ pos (10 ^ k))
scaled_far_over k c h some =
    let big : 10 ^ 38 ≤ 10 ^ k = pow-le-pow_right {n = 10} (omega arith) {i = 38} {j = k} (omega arith) in
    let one : 1 * 10 ^ k ≤ unsigned_abs c * 10 ^ k = mul-le-mul_right (10 ^ k) some in
    rw unsigned_abs-mul (omega (arith, big, one))

-- a power of ten of at most 38 digits and its bound
pub small_power : (p k : ℕ) → p ≡ 10 ^ k → k ≤ 38 → p ≤ 10 ^ 38
small_power p k e h = rw e (pow-le-pow_right {n = 10} (omega arith) {i = k} {j = 38} h)

-- a number of at most 38 digits fits in 128 bits
pub fits_from_within : (z : ℤ) → unsigned_abs z < 10 ^ 38 → FitsSigned w128 z
fits_from_within z h = fits_signed_from_abs w128 z (omega arith)

-- so does a power of ten
pub fits_small_power : (p k : ℕ) → p ≡ 10 ^ k → k ≤ 38 → FitsSigned w128 (pos p)
fits_small_power p k e h = let low : p ≤ 10 ^ 38 = small_power p k e h in fits_signed_from_abs w128 (pos p) (omega arith)

-- what the code multiplies is the power of ten
pub to_z-power : (p k : ℕ) → p ≡ 10 ^ k → k ≤ 38 → to_z w128 p ≡ pos (10 ^ k)
to_z-power p k e h =
    let low : p ≤ 10 ^ 38 = small_power p k e h in
    to_z_pos w128 p (omega arith) ∙ ap pos e

-- c and what the code has of c
pub to_z-same : (c : ℤ) → FitsSigned w128 c → to_z w128 (of_z w128 c) ≡ c
to_z-same c f = to_z-of_z w128 c f

-- the product that the code computes fits in 128 bits
pub fits_product : (c : ℤ) (p k : ℕ) → FitsSigned w128 c → p ≡ 10 ^ k → k ≤ 38 → unsigned_abs (c *ℤ pos (10 ^ k)) < 10 ^ 38 → FitsSigned w128 (to_z w128 (of_z w128 c) *ℤ to_z w128 p)
fits_product c p k f e h small = rw (to_z-same c f, to_z-power p k e h) (fits_from_within _ small)

-- it is c * 10 ^ k
pub product_is : (c : ℤ) (p k : ℕ) → FitsSigned w128 c → p ≡ 10 ^ k → k ≤ 38 → unsigned_abs (c *ℤ pos (10 ^ k)) < 10 ^ 38
    → to_z w128 (of_z w128 (to_z w128 (of_z w128 c) *ℤ to_z w128 p)) ≡ c *ℤ pos (10 ^ k)
product_is c p k f e h small =
    rw (to_z-same c f, to_z-power p k e h) (to_z-same (c *ℤ pos (10 ^ k)) (fits_from_within _ small))

-- what the code passes on of a number of at most 38 digits is that number
pub passed : (c d : ℤ) → unsigned_abs c < 10 ^ 38 → c ≡ d → to_z w128 (of_z w128 c) ≡ d
passed c d h e = to_z-same c (fits_from_within c h) ∙ e

-- what `scaled` answers of a number d, where it was passed as c
pub scaled_is : (x c d : ℤ) (k : ℕ) → c ≡ d → (unsigned_abs (c *ℤ pos (10 ^ k)) < 10 ^ 38) × (x ≡ c *ℤ pos (10 ^ k))
    → (unsigned_abs (to_z w128 (of_z w128 x)) < 10 ^ 38) × (to_z w128 (of_z w128 x) ≡ d *ℤ pos (10 ^ k))
scaled_is x c d k e (small, f) =
    let P : ℤ → Type 0 = λ z. unsigned_abs z < 10 ^ 38 in
    let same = passed x (c *ℤ pos (10 ^ k)) (subst P (sym f) small) f in
    (subst P (sym same) small, same ∙ ap (λ z. z *ℤ pos (10 ^ k)) e)

-- ---- at most 18 digits, in 64 bits

pub short_power-le : (p k : ℕ) → p ≡ 10 ^ k → k ≤ 18 → p ≤ 10 ^ 18
short_power-le p k e h = rw e (pow-le-pow_right {n = 10} (omega arith) {i = k} {j = 18} h)

pub fits_short_power : (p k : ℕ) → p ≡ 10 ^ k → k ≤ 18 → FitsSigned w64 (pos p)
fits_short_power p k e h = let low : p ≤ 10 ^ 18 = short_power-le p k e h in fits_signed_from_abs w64 (pos p) (omega arith)

pub fits_short : (z : ℤ) → unsigned_abs z < 10 ^ 18 → FitsSigned w64 z
fits_short z h = fits_signed_from_abs w64 z (omega arith)

-- what the code multiplies, and its product
short_factors : (c : ℤ) (p k : ℕ) → unsigned_abs c < 10 ^ 18 → p ≡ 10 ^ k → k ≤ 18 → to_z w64 (of_z w64 c) *ℤ to_z w64 p ≡ c *ℤ pos (10 ^ k)
short_factors c p k digits e h =
    let low : p ≤ 10 ^ 18 = short_power-le p k e h in
    rw (to_z-of_z w64 c (fits_short c digits), to_z_pos w64 p (omega arith), e) refl

pub fits_short_product : (c : ℤ) (p k : ℕ) → unsigned_abs c < 10 ^ 18 → p ≡ 10 ^ k → k ≤ 18 → unsigned_abs (c *ℤ pos (10 ^ k)) < 10 ^ 18
    → FitsSigned w64 (to_z w64 (of_z w64 c) *ℤ to_z w64 p)
fits_short_product c p k digits e h small = rw (short_factors c p k digits e h) (fits_short (c *ℤ pos (10 ^ k)) small)

pub short_product_is : (c : ℤ) (p k : ℕ) → unsigned_abs c < 10 ^ 18 → p ≡ 10 ^ k → k ≤ 18 → unsigned_abs (c *ℤ pos (10 ^ k)) < 10 ^ 18
    → to_z w64 (of_z w64 (to_z w64 (of_z w64 c) *ℤ to_z w64 p)) ≡ c *ℤ pos (10 ^ k)
short_product_is c p k digits e h small =
    ap (λ z. to_z w64 (of_z w64 z)) (short_factors c p k digits e h) ∙ to_z-of_z w64 (c *ℤ pos (10 ^ k)) (fits_short (c *ℤ pos (10 ^ k)) small)
