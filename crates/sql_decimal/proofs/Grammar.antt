-- The function of the characters gives the number of each text of the grammar.
use Rattle.std.proofs.Common.{◌≡◌, ℕ, suc, zero, ◌+◌, ◌*◌, ◌<◌, ◌≤◌, Bool, true, false, ◌==◌, ◌&&◌, if◌then◌else◌, List, [], ◌∷◌, ◌++◌, length, replicate, Option, Some, None, IfSome, refl, ap, sym, ◌∙◌, arith, inl, inr, ◌⊎◌}
use Rattle.std.specs.Char.{is_ascii_digit, digit_value}
use Rattle.std.specs.Str.{all_ascii_digits}
use Rattle.std.specs.Str.Parse.{digits_value, digits_value_after}
use Rattle.std.proofs.lemmas.Bool.{ne_eqb}
use Rattle.std.proofs.lemmas.Bool.Decides.{nat_tests}
use Rattle.sql_decimal.specs.declared.number.Num.{Num}
use Rattle.sql_decimal.specs.Decimal.{signed}
use Rattle.sql_decimal.specs.NumberText.{space, plus_sign, minus_sign, capital_e, small_e, Sign, plus, minus, print_sign, Exponent, print_exponent, NumberText, print_fraction, print_number, IsDigits, IsNumberText, is_minus, decimal_number, scaled_number, all_digits, number_from, number_of_text}
use Rattle.sql_decimal.specs.Reading.{with_digit, after_number, in_exponent, exponent_digits, after_mark, in_fraction, fraction_digits, in_whole, whole_digits, number_of}

-- both tests pass
pub both : (a b : Bool) → (a && b) ≡ true → (a ≡ true) × (b ≡ true)
both true b t = (refl, t)
both false b t = grind arith

-- a digit is no character outside '0' to '9'
pub digit-other : (d x : ℕ) → is_ascii_digit d ≡ true → (x < 48) ⊎ (57 < x) → (d == x) ≡ false
digit-other d x t out =
    let low : 48 ≤ d = grind (arith, nat_tests) in
    let high : d ≤ 57 = grind (arith, nat_tests) in
    elim out [ inl h ↦ ne_eqb d x (λ e. omega arith) | inr h ↦ ne_eqb d x (λ e. omega arith) ]

-- digits that follow digits
pub digits_value_after-append : (n : ℕ) (xs ys : List ℕ) → digits_value_after 10 n (xs ++ ys) ≡ digits_value_after 10 (digits_value_after 10 n xs) ys
digits_value_after-append n [] ys = refl
digits_value_after-append n (x ∷ xs) ys = digits_value_after-append (n * 10 + digit_value x) xs ys

-- the first of several digits
pub digits_value-first : (d : ℕ) (ds : List ℕ) → digits_value_after 10 (digit_value d) ds ≡ digits_value 10 (d ∷ ds)
digits_value-first d ds = ap (λ n. digits_value_after 10 n ds) (omega arith)

-- ---- spaces

after_number-spaces : (r : Option Num) (k : ℕ) → after_number r (replicate k space) ≡ r
after_number-spaces r zero = refl
after_number-spaces r (suc k) = after_number-spaces r k

number_of-spaces : (k : ℕ) (cs : List ℕ) → number_of (replicate k space ++ cs) ≡ number_of cs
unfolding number_of
number_of-spaces zero cs = refl
number_of-spaces (suc k) cs = number_of-spaces k cs

-- ---- the exponent

in_exponent-spaces : (b : Bool) (m f : ℕ) (below : Bool) (e k : ℕ) → in_exponent b m f below e (replicate k space) ≡ scaled_number b m f (signed below e)
in_exponent-spaces b m f below e zero = refl
in_exponent-spaces b m f below e (suc k) = after_number-spaces _ k

in_exponent-digits : (b : Bool) (m f : ℕ) (below : Bool) (e : ℕ) (ds cs : List ℕ) → all_ascii_digits ds ≡ true → in_exponent b m f below e (ds ++ cs) ≡ in_exponent b m f below (digits_value_after 10 e ds) cs
in_exponent-digits b m f below e [] cs t = refl
in_exponent-digits b m f below e (d ∷ ds) cs t =
    let p = both (is_ascii_digit d) (all_ascii_digits ds) t in
    rw p.0 (in_exponent-digits b m f below (with_digit e d) ds cs p.1)

exponent_digits-digits : (b : Bool) (m f : ℕ) (below : Bool) (ds : List ℕ) (k : ℕ) → IsDigits ds
    → exponent_digits b m f below (ds ++ replicate k space) ≡ scaled_number b m f (signed below (digits_value 10 ds))
exponent_digits-digits b m f below [] k h = absurd (omega (arith, h.some))
exponent_digits-digits b m f below (d ∷ ds) k h =
    let p = both (is_ascii_digit d) (all_ascii_digits ds) h.all in
    rw p.0 (
    in_exponent-digits b m f below (digit_value d) ds (replicate k space) p.1
    ∙ in_exponent-spaces b m f below (digits_value_after 10 (digit_value d) ds) k
    ∙ ap (λ n. scaled_number b m f (signed below n)) (digits_value-first d ds))

after_mark-sign : (b : Bool) (m f : ℕ) (s : Option Sign) (ds : List ℕ) (k : ℕ) → IsDigits ds
    → after_mark b m f ((print_sign s ++ ds) ++ replicate k space) ≡ scaled_number b m f (signed (is_minus s) (digits_value 10 ds))
after_mark-sign b m f None [] k h = absurd (omega (arith, h.some))
after_mark-sign b m f None (d ∷ ds) k h =
    let p = both (is_ascii_digit d) (all_ascii_digits ds) h.all in
    rw (digit-other d minus_sign p.0 (inl (omega arith)), digit-other d plus_sign p.0 (inl (omega arith)))
    (exponent_digits-digits b m f false (d ∷ ds) k h)
after_mark-sign b m f (Some plus) ds k h = exponent_digits-digits b m f false ds k h
after_mark-sign b m f (Some minus) ds k h = exponent_digits-digits b m f true ds k h

-- ---- the digits after the point

-- what digits with a point and an optional exponent mean
abbrev pub fixed_from : Bool → ℕ → ℕ → Option Exponent → Option Num
fixed_from b m f None = decimal_number (signed b m) f
fixed_from b m f (Some x) = scaled_number b m f (signed (is_minus x.sign) (digits_value 10 x.digits))

in_fraction-tail : (b : Bool) (m f : ℕ) (x : Option Exponent) (k : ℕ) → IfSome x (λ y. IsDigits y.digits) → in_fraction b m f (print_exponent x ++ replicate k space) ≡ fixed_from b m f x
in_fraction-tail b m f None zero h = refl
in_fraction-tail b m f None (suc k) h = after_number-spaces _ k
in_fraction-tail b m f (Some x) k h =
    marked x.capital (print_sign x.sign ++ x.digits) ∙ after_mark-sign b m f x.sign x.digits k h
  where
    marked : (capital : Bool) (cs : List ℕ) → in_fraction b m f (((if capital then capital_e else small_e) ∷ cs) ++ replicate k space) ≡ after_mark b m f (cs ++ replicate k space)
    marked true cs = refl
    marked false cs = refl

in_fraction-digits : (b : Bool) (m f : ℕ) (ds cs : List ℕ) → all_ascii_digits ds ≡ true → in_fraction b m f (ds ++ cs) ≡ in_fraction b (digits_value_after 10 m ds) (f + length ds) cs
in_fraction-digits b m f [] cs t = ap (λ n. in_fraction b m n cs) (omega arith)
in_fraction-digits b m f (d ∷ ds) cs t =
    let p = both (is_ascii_digit d) (all_ascii_digits ds) t in
    rw p.0 (in_fraction-digits b (with_digit m d) (f + 1) ds cs p.1 ∙ ap (λ n. in_fraction b (digits_value_after 10 (with_digit m d) ds) n cs) (omega arith))

fraction_digits-digits : (b : Bool) (m : ℕ) (ds cs : List ℕ) → IsDigits ds → fraction_digits b m (ds ++ cs) ≡ in_fraction b (digits_value_after 10 m ds) (length ds) cs
fraction_digits-digits b m [] cs h = absurd (omega (arith, h.some))
fraction_digits-digits b m (d ∷ ds) cs h =
    let p = both (is_ascii_digit d) (all_ascii_digits ds) h.all in
    rw p.0 (in_fraction-digits b (with_digit m d) 1 ds cs p.1 ∙ ap (λ n. in_fraction b (digits_value_after 10 (with_digit m d) ds) n cs) (omega arith))

-- ---- the digits before the point

-- the value of the digits before and after the point
abbrev pub value_on : ℕ → Option (List ℕ) → ℕ
value_on m None = m
value_on m (Some ds) = digits_value_after 10 m ds

in_whole-tail : (b : Bool) (m : ℕ) (fraction : Option (List ℕ)) (x : Option Exponent) (k : ℕ) → IfSome fraction IsDigits → IfSome x (λ y. IsDigits y.digits)
    → in_whole b m (print_fraction fraction ++ (print_exponent x ++ replicate k space)) ≡ number_from b (value_on m fraction) fraction x
in_whole-tail b m None None zero h g = refl
in_whole-tail b m None None (suc k) h g = after_number-spaces _ k
in_whole-tail b m None (Some x) k h g =
    marked x.capital (print_sign x.sign ++ x.digits) ∙ after_mark-sign b m 0 x.sign x.digits k g
  where
    marked : (capital : Bool) (cs : List ℕ) → in_whole b m (((if capital then capital_e else small_e) ∷ cs) ++ replicate k space) ≡ after_mark b m 0 (cs ++ replicate k space)
    marked true cs = refl
    marked false cs = refl
in_whole-tail b m (Some ds) None k h g =
    fraction_digits-digits b m ds _ h ∙ in_fraction-tail b (digits_value_after 10 m ds) (length ds) None k g
in_whole-tail b m (Some ds) (Some x) k h g =
    fraction_digits-digits b m ds _ h ∙ in_fraction-tail b (digits_value_after 10 m ds) (length ds) (Some x) k g

in_whole-digits : (b : Bool) (m : ℕ) (ds cs : List ℕ) → all_ascii_digits ds ≡ true → in_whole b m (ds ++ cs) ≡ in_whole b (digits_value_after 10 m ds) cs
in_whole-digits b m [] cs t = refl
in_whole-digits b m (d ∷ ds) cs t =
    let p = both (is_ascii_digit d) (all_ascii_digits ds) t in
    rw p.0 (in_whole-digits b (with_digit m d) ds cs p.1)

whole_digits-digits : (b : Bool) (ds cs : List ℕ) → IsDigits ds → whole_digits b (ds ++ cs) ≡ in_whole b (digits_value 10 ds) cs
whole_digits-digits b [] cs h = absurd (omega (arith, h.some))
whole_digits-digits b (d ∷ ds) cs h =
    let p = both (is_ascii_digit d) (all_ascii_digits ds) h.all in
    rw p.0 (in_whole-digits b (digit_value d) ds cs p.1 ∙ ap (λ n. in_whole b n cs) (digits_value-first d ds))

-- ---- the sign

number_of-sign : (s : Option Sign) (ds cs : List ℕ) → IsDigits ds → number_of (print_sign s ++ (ds ++ cs)) ≡ whole_digits (is_minus s) (ds ++ cs)
unfolding number_of
number_of-sign None [] cs h = absurd (omega (arith, h.some))
number_of-sign None (d ∷ ds) cs h =
    let p = both (is_ascii_digit d) (all_ascii_digits ds) h.all in
    rw (digit-other d space p.0 (inl (omega arith)), digit-other d minus_sign p.0 (inl (omega arith)), digit-other d plus_sign p.0 (inl (omega arith))) refl
number_of-sign (Some plus) ds cs h = refl
number_of-sign (Some minus) ds cs h = refl

-- the value of all digits of a text
pub value_on-all : (whole : List ℕ) (fraction : Option (List ℕ)) → value_on (digits_value 10 whole) fraction ≡ digits_value 10 (all_digits whole fraction)
value_on-all whole None = refl
value_on-all whole (Some ds) = sym (digits_value_after-append 0 whole ds)

-- the number of a text's characters is the number of the text
pub number_of-print_number : (t : NumberText) → IsNumberText t → number_of (print_number t) ≡ number_of_text t
unfolding number_of_text
number_of-print_number t h =
    number_of-spaces t.before _
    ∙ number_of-sign t.sign t.whole _ h.whole
    ∙ whole_digits-digits (is_minus t.sign) t.whole _ h.whole
    ∙ in_whole-tail (is_minus t.sign) (digits_value 10 t.whole) t.fraction t.exponent t.after h.fraction h.exponent
    ∙ ap (λ m. number_from (is_minus t.sign) m t.fraction t.exponent) (value_on-all t.whole t.fraction)
