-- What the class of a byte says of it.
use Rattle.std.proofs.Common.{◌≡◌, ℕ, ◌<◌, ◌≤◌, ◌⊎◌, inl, inr, Bool, true, false, cond, ◌||◌, ◌==◌, refl, ap, arith}
use Rattle.std.proofs.lemmas.Bool.Decides.{nat_tests}
use Rattle.json_text.specs.Grammar.{is_blank, is_nonzero_digit, is_digit, is_e, is_sign}
use Rattle.std.proofs.Math.Bool.{or-true}
use Rattle.json_text.specs.Machine.{class}
use Rattle.json_text.specs.declared.bytes.Class.{Class}
use Rattle.json_text.specs.declared.bytes.Class.TheVariants.{Blank, Quote, ArrayBegin, ArrayEnd, ObjectBegin, ObjectEnd, Comma, Colon, Minus, Plus, Point, Zero, Nonzero, LetterE, LetterN, LetterT, LetterF, Other}

-- what a byte of the class is
abbrev pub Means : Class → ℕ → Type 0
Means Blank c = is_blank c ≡ true
Means Quote c = c ≡ 34
Means ArrayBegin c = c ≡ 91
Means ArrayEnd c = c ≡ 93
Means ObjectBegin c = c ≡ 123
Means ObjectEnd c = c ≡ 125
Means Comma c = c ≡ 44
Means Colon c = c ≡ 58
Means Minus c = c ≡ 45
Means Plus c = c ≡ 43
Means Point c = c ≡ 46
Means Zero c = c ≡ 48
Means Nonzero c = is_nonzero_digit c ≡ true
Means LetterE c = is_e c ≡ true
Means LetterN c = c ≡ 110
Means LetterT c = c ≡ 116
Means LetterF c = c ≡ 102
Means Other c = Unit {0}

pub eq_is : (c d : ℕ) → (c == d) ≡ true → c ≡ d
eq_is c d h = grind (arith, nat_tests)

pub eq_of : (c d : ℕ) → c ≡ d → (c == d) ≡ true
eq_of c d h = grind (arith, nat_tests)

by_test : (c : ℕ) (t : Bool) (x y : Class) → (t ≡ true → Means x c) → Means y c → Means (cond t x y) c
by_test c true x y f m = f refl
by_test c false x y f m = m

by_eq : (c d : ℕ) (x y : Class) → (c ≡ d → Means x c) → Means y c → Means (cond (c == d) x y) c
by_eq c d x y f m = by_test c (c == d) x y (λ t. f (eq_is c d t)) m

pub class_means : (c : ℕ) → Means (class c) c
class_means c =
    by_test c (is_blank c) Blank _ (λ t. t) (by_eq c 34 Quote _ (λ e. e) (by_eq c 91 ArrayBegin _ (λ e. e) (by_eq c 93 ArrayEnd _ (λ e. e)
    (by_eq c 123 ObjectBegin _ (λ e. e) (by_eq c 125 ObjectEnd _ (λ e. e) (by_eq c 44 Comma _ (λ e. e) (by_eq c 58 Colon _ (λ e. e)
    (by_eq c 45 Minus _ (λ e. e) (by_eq c 43 Plus _ (λ e. e) (by_eq c 46 Point _ (λ e. e) (by_eq c 48 Zero _ (λ e. e)
    (by_test c (is_nonzero_digit c) Nonzero _ (λ t. t) (by_test c (is_e c) LetterE _ (λ t. t) (by_eq c 110 LetterN _ (λ e. e)
    (by_eq c 116 LetterT _ (λ e. e) (by_eq c 102 LetterF Other (λ e. e) tt))))))))))))))))

pub class_blank : (c : ℕ) → is_blank c ≡ true → class c ≡ Blank
class_blank c h = rw h refl

-- a byte from 49 to 57 is none of the bytes before it in the list of classes
nonzero_range : (c : ℕ) → is_nonzero_digit c ≡ true → (49 ≤ c) × (c ≤ 57)
nonzero_range c h = (grind (arith, nat_tests), grind (arith, nat_tests))

below_not : (c d : ℕ) → c < d → (c == d) ≡ false
below_not c d h = grind (arith, nat_tests)

above_not : (c d : ℕ) → d < c → (c == d) ≡ false
above_not c d h = grind (arith, nat_tests)

pub class_nonzero : (c : ℕ) → is_nonzero_digit c ≡ true → class c ≡ Nonzero
class_nonzero c h =
    let low : 49 ≤ c = (nonzero_range c h).0 in
    let high : c ≤ 57 = (nonzero_range c h).1 in
    rw (
      above_not c 32 (omega arith),
      above_not c 9 (omega arith),
      above_not c 10 (omega arith),
      above_not c 13 (omega arith),
      above_not c 34 (omega arith),
      below_not c 91 (omega arith),
      below_not c 93 (omega arith),
      below_not c 123 (omega arith),
      below_not c 125 (omega arith),
      above_not c 44 (omega arith),
      below_not c 58 (omega arith),
      above_not c 45 (omega arith),
      above_not c 43 (omega arith),
      above_not c 46 (omega arith),
      above_not c 48 (omega arith),
      h,
    ) refl

either : (x y : Bool) → (x || y) ≡ true → (x ≡ true) ⊎ (y ≡ true)
either true y h = inl refl
either false y h = inr h

pub class_digit : (c : ℕ) → is_digit c ≡ true → (class c ≡ Zero) ⊎ (class c ≡ Nonzero)
class_digit c h =
    elim (either (c == 48) (is_nonzero_digit c) h) [ inl e ↦ inl (ap class (eq_is c 48 e)) | inr e ↦ inr (class_nonzero c e) ]

pub class_e : (c : ℕ) → is_e c ≡ true → class c ≡ LetterE
class_e c h =
    elim (either (c == 101) (c == 69) h) [ inl e ↦ ap class (eq_is c 101 e) | inr e ↦ ap class (eq_is c 69 e) ]

pub class_sign : (c : ℕ) → is_sign c ≡ true → (class c ≡ Minus) ⊎ (class c ≡ Plus)
class_sign c h =
    elim (either (c == 45) (c == 43) h) [ inl e ↦ inl (ap class (eq_is c 45 e)) | inr e ↦ inr (ap class (eq_is c 43 e)) ]

pub digit_zero : (c : ℕ) → c ≡ 48 → is_digit c ≡ true
digit_zero c h = ap is_digit h

pub digit_nonzero : (c : ℕ) → is_nonzero_digit c ≡ true → is_digit c ≡ true
digit_nonzero c h = rw h (or-true (c == 48))
