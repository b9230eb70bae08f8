-- Digits of over 38 digits spell no number, whatever follows, and exponents that are far off are alike.
use Rattle.std.proofs.Common.{◌≡◌, ℕ, suc, zero, ◌+◌, ◌-◌, ◌*◌, ◌^◌, ◌<◌, ◌≤◌, min, ℤ, pos, negsuc, neg_ℤ, ◌-ℤ◌, ◌*ℤ◌, unsigned_abs, Bool, true, false, ◌==◌, if◌then◌else◌, List, [], ◌∷◌, Some, None, refl, ap, sym, ◌∙◌, arith, inl, inr}
use Rattle.std.specs.Char.{is_ascii_digit, digit_value}
use Rattle.std.proofs.lemmas.Bool.Decides.{nat_tests}
use Rattle.std.proofs.lemmas.Bool.{cases_lt}
use Rattle.std.proofs.lemmas.Int.{ints, unsigned_abs-mul}
use Rattle.sql_decimal.specs.declared.number.Num.TheVariants.{Dec}
use Rattle.sql_decimal.specs.Decimal.{is_64_bit, is_decimal, decimal_of, signed}
use Rattle.sql_decimal.specs.NumberText.{space, plus_sign, minus_sign, decimal_point, decimal_number, whole_number, shifted_number, scaled_number}
use Rattle.sql_decimal.specs.Reading.{is_mark, with_digit, after_number, in_exponent, exponent_digits, after_mark, in_fraction, fraction_digits, in_whole}
use Rattle.sql_decimal.proofs.PowersOfTen.{ten_pow_pos, scaled_far_over}
use Rattle.sql_decimal.specs.Words.{unsigned_abs-signed}

-- a choice by a test that fails
choice-no : {A : Type 0} (t : Bool) (x y : A) → t ≡ false → (if t then x else y) ≡ y
choice-no t x y e = rw e refl

-- a choice between two equal things
choice-same : {A : Type 0} (t : Bool) (x y z : A) → x ≡ z → y ≡ z → (if t then x else y) ≡ z
choice-same true x y z p q = p
choice-same false x y z p q = q

-- a coefficient of over 38 digits is in no decimal
over_decimal : (c : ℤ) (s : ℕ) → 10 ^ 38 ≤ unsigned_abs c → is_decimal c s ≡ false
over_decimal c s h = grind (arith, nat_tests)

pub decimal_number-over : (c : ℤ) (s : ℕ) → 10 ^ 38 ≤ unsigned_abs c → decimal_number c s ≡ None
decimal_number-over c s h = choice-no (is_decimal c s) _ _ (over_decimal c s h)

-- nor does it fit in 64 bits
over_64_bit : (c : ℤ) → 10 ^ 38 ≤ unsigned_abs c → is_64_bit c ≡ false
over_64_bit (pos n) h = grind (arith, nat_tests)
over_64_bit (negsuc n) h = grind (arith, nat_tests)

pub whole_number-over : (b : Bool) (m : ℕ) → 10 ^ 38 ≤ m → whole_number b m ≡ None
whole_number-over b m h =
    let big : 10 ^ 38 ≤ unsigned_abs (signed b m) = omega (arith, unsigned_abs-signed b m) in
    choice-no (is_64_bit (signed b m)) _ _ (over_64_bit (signed b m) big) ∙ decimal_number-over (signed b m) 0 big

shifted_number-over : (c s : ℤ) → 10 ^ 38 ≤ unsigned_abs c → shifted_number c s ≡ None
shifted_number-over c (pos s) h = decimal_number-over c s h
shifted_number-over c (negsuc k) h =
    let one : 1 ≤ 10 ^ suc k = ten_pow_pos (suc k) in
    let more : unsigned_abs c * 1 ≤ unsigned_abs c * 10 ^ suc k = omega (arith, mul-le-mul_left' (unsigned_abs c) one) in
    decimal_number-over (c *ℤ pos (10 ^ suc k)) 0 (omega (arith, more, unsigned_abs-mul c (pos (10 ^ suc k))))
  where
    mul-le-mul_left' : (a : ℕ) {m n : ℕ} → m ≤ n → a * m ≤ a * n
    mul-le-mul_left' a h = grind arith

pub scaled_number-over : (b : Bool) (m f : ℕ) (e : ℤ) → 10 ^ 38 ≤ m → scaled_number b m f e ≡ None
scaled_number-over b m f e h =
    let some : (m == 0) ≡ false = grind (arith, nat_tests) in
    choice-no (m == 0) _ _ some ∙ shifted_number-over (signed b m) (pos f -ℤ e) (omega (arith, unsigned_abs-signed b m))

-- no number, and spaces
pub after_number-none : (cs : List ℕ) → after_number None cs ≡ None
after_number-none [] = refl
after_number-none (c ∷ cs) = choice-same (c == space) _ _ _ (after_number-none cs) refl

in_exponent-over : (b : Bool) (m f : ℕ) (below : Bool) (e : ℕ) (cs : List ℕ) → 10 ^ 38 ≤ m → in_exponent b m f below e cs ≡ None
in_exponent-over b m f below e [] h = scaled_number-over b m f (signed below e) h
in_exponent-over b m f below e (c ∷ cs) h =
    choice-same (is_ascii_digit c) _ _ _ (in_exponent-over b m f below (with_digit e c) cs h)
    (ap (λ n. after_number n (c ∷ cs)) (scaled_number-over b m f (signed below e) h) ∙ after_number-none (c ∷ cs))

exponent_digits-over : (b : Bool) (m f : ℕ) (below : Bool) (cs : List ℕ) → 10 ^ 38 ≤ m → exponent_digits b m f below cs ≡ None
exponent_digits-over b m f below [] h = refl
exponent_digits-over b m f below (c ∷ cs) h =
    choice-same (is_ascii_digit c) _ _ _ (in_exponent-over b m f below (digit_value c) cs h) refl

after_mark-over : (b : Bool) (m f : ℕ) (cs : List ℕ) → 10 ^ 38 ≤ m → after_mark b m f cs ≡ None
after_mark-over b m f [] h = refl
after_mark-over b m f (c ∷ cs) h =
    choice-same (c == minus_sign) _ _ _ (exponent_digits-over b m f true cs h)
    (choice-same (c == plus_sign) _ _ _ (exponent_digits-over b m f false cs h) (exponent_digits-over b m f false (c ∷ cs) h))

pub in_fraction-over : (b : Bool) (m f : ℕ) (cs : List ℕ) → 10 ^ 38 ≤ m → in_fraction b m f cs ≡ None
in_fraction-over b m f [] h = decimal_number-over (signed b m) f (omega (arith, unsigned_abs-signed b m))
in_fraction-over b m f (c ∷ cs) h =
    choice-same (is_ascii_digit c) _ _ _ (in_fraction-over b (with_digit m c) (f + 1) cs (omega arith))
    (choice-same (is_mark c) _ _ _ (after_mark-over b m f cs h)
    (ap (λ n. after_number n (c ∷ cs)) (decimal_number-over (signed b m) f (omega (arith, unsigned_abs-signed b m))) ∙ after_number-none (c ∷ cs)))

fraction_digits-over : (b : Bool) (m : ℕ) (cs : List ℕ) → 10 ^ 38 ≤ m → fraction_digits b m cs ≡ None
fraction_digits-over b m [] h = refl
fraction_digits-over b m (c ∷ cs) h =
    choice-same (is_ascii_digit c) _ _ _ (in_fraction-over b (with_digit m c) 1 cs (omega arith)) refl

pub in_whole-over : (b : Bool) (m : ℕ) (cs : List ℕ) → 10 ^ 38 ≤ m → in_whole b m cs ≡ None
in_whole-over b m [] h = whole_number-over b m h
in_whole-over b m (c ∷ cs) h =
    choice-same (is_ascii_digit c) _ _ _ (in_whole-over b (with_digit m c) cs (omega arith))
    (choice-same (c == decimal_point) _ _ _ (fraction_digits-over b m cs h)
    (choice-same (is_mark c) _ _ _ (after_mark-over b m 0 cs h)
    (ap (λ n. after_number n (c ∷ cs)) (whole_number-over b m h) ∙ after_number-none (c ∷ cs))))

-- ---- exponents that are far off, with fewer than 2 ^ 63 places

-- a scale over 38
shifted_number-far : (c : ℤ) (s : ℕ) → 38 < s → decimal_number c s ≡ None
shifted_number-far c s h = choice-no (is_decimal c s) _ _ (grind (arith, nat_tests))

-- such an exponent leaves no number in range
far_shifted : (b : Bool) (m f : ℕ) (below : Bool) (e : ℕ) → 0 < m → f < 2 ^ 63 → 10 ^ 19 ≤ e → shifted_number (signed b m) (pos f -ℤ signed below e) ≡ None
far_shifted b m f true e some few far =
    let z : pos f -ℤ neg_ℤ (pos e) ≡ pos (f + e) = omega (arith, ints) in
    ap (shifted_number (signed b m)) z ∙ shifted_number-far (signed b m) (f + e) (omega arith)
far_shifted b m f false e some few far =
    let z : pos f -ℤ pos e ≡ negsuc (e - f - 1) = omega (arith, ints) in
    let size : unsigned_abs (signed b m) ≡ m = unsigned_abs-signed b m in
    ap (shifted_number (signed b m)) z
    ∙ decimal_number-over (signed b m *ℤ pos (10 ^ suc (e - f - 1))) 0 (omega (arith, scaled_far_over (suc (e - f - 1)) (signed b m) (omega arith) (omega (arith, size))))

-- zero has the scale 0, and no other number is in range
scaled_number-far : (b : Bool) (m f : ℕ) (below : Bool) (e : ℕ) → f < 2 ^ 63 → 10 ^ 19 ≤ e
    → scaled_number b m f (signed below e) ≡ (if m == 0 then Some (Dec (decimal_of (pos 0) 0)) else None)
scaled_number-far b zero f below e few far = refl
scaled_number-far b (suc n) f below e few far =
    let some : (suc n == 0) ≡ false = grind (arith, nat_tests) in
    choice-no (suc n == 0) _ _ some ∙ far_shifted b (suc n) f below e (omega arith) few far ∙ sym (choice-no (suc n == 0) _ _ some)

-- two such exponents are alike
pub in_exponent-far : (b : Bool) (m f : ℕ) (below : Bool) (e e' : ℕ) (cs : List ℕ) → f < 2 ^ 63 → 10 ^ 19 ≤ e → 10 ^ 19 ≤ e'
    → in_exponent b m f below e cs ≡ in_exponent b m f below e' cs
in_exponent-far b m f below e e' [] few far far' =
    scaled_number-far b m f below e few far ∙ sym (scaled_number-far b m f below e' few far')
in_exponent-far b m f below e e' (c ∷ cs) few far far' =
    choice-both (is_ascii_digit c) _ _ _ _ (in_exponent-far b m f below (with_digit e c) (with_digit e' c) cs few (omega arith) (omega arith))
    (ap (λ n. after_number n (c ∷ cs)) (scaled_number-far b m f below e few far ∙ sym (scaled_number-far b m f below e' few far')))
  where
    choice-both : {A : Type 0} (t : Bool) (x y x' y' : A) → x ≡ x' → y ≡ y' → (if t then x else y) ≡ (if t then x' else y')
    choice-both true x y x' y' p q = p
    choice-both false x y x' y' p q = q

-- an exponent that is cut at 10 ^ 19
pub in_exponent-min : (b : Bool) (m f : ℕ) (below : Bool) (e : ℕ) (cs : List ℕ) → f < 2 ^ 63 → in_exponent b m f below e cs ≡ in_exponent b m f below (min e (10 ^ 19)) cs
in_exponent-min b m f below e cs few =
    elim (cases_lt e (10 ^ 19)) [
      | inl less ↦ ap (λ n. in_exponent b m f below n cs) (omega arith)
      | inr far ↦ in_exponent-far b m f below e (min e (10 ^ 19)) cs few far (omega arith)
    ]

-- a product by 10 ^ k, where k is over 38
pub product-far : (c : ℤ) (k : ℕ) → 38 < k → 0 < unsigned_abs c → None ≡ decimal_number (c *ℤ pos (10 ^ k)) 0
product-far c k far some = sym (decimal_number-over (c *ℤ pos (10 ^ k)) 0 (scaled_far_over k c far some))
