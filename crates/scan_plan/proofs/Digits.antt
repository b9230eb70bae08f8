-- Reading digits one by one.
use Rattle.std.specs.Prelude.{◌≡◌, ℕ, ◌+◌, ◌-◌, ◌*◌, ◌≤◌, ◌<◌, nat_le, nat_lt, Bool, true, false, ◌&&◌, List, [], ◌∷◌, length, Option, Some, None, if◌then◌else◌, refl}
use Rattle.std.proofs.Common.{arith, sym, ap, ◌∙◌, subst}
use Rattle.std.specs.Option.{option_and_then}
use Rattle.std.proofs.lemmas.Bool.Decides.{nat_tests}
use Rattle.std.specs.Char.{is_ascii_digit, digit_value}
use Rattle.std.specs.Str.{all_ascii_digits}
use Rattle.std.specs.Str.Parse.{digits_value, digits_value_after}
use Rattle.scan_plan.specs.Digits.{value_within, next_value, value_from}
use Rattle.scan_plan.specs.Paths.{counted, counts_from_one}

-- digits add to the number
grows : (n : ℕ) (ds : List ℕ) → n ≤ digits_value_after 10 n ds
grows n [] = omega arith
grows n (d ∷ ds) = omega (arith, grows (n * 10 + digit_value d) ds)

is_digit_value : (d : ℕ) → is_ascii_digit d ≡ true → digit_value d ≡ d - 48
is_digit_value d h = grind (arith, nat_tests)

none_over : (t : Bool) (most v : ℕ) → nat_le v most ≡ false → (if t && nat_le v most then Some v else None) ≡ None
none_over false most v h = refl
none_over true most v h = rw h refl

over : (most n v : ℕ) → nat_le n most ≡ false → n ≤ v → nat_le v most ≡ false
over most n v h g = grind (arith, nat_tests)

value_ends : (most v : ℕ) → v ≤ most → value_within most v [] ≡ Some v
unfolding value_within
value_ends most v h = let is : nat_le v most ≡ true = grind (arith, nat_tests) in rw is refl

the_value : (x y : ℕ) → Some x ≡ Some y → x ≡ y
the_value x y e = cc

-- a digit that is taken
taken : (t u : Bool) (most v d : ℕ) (ds : List ℕ) (n : ℕ) → is_ascii_digit d ≡ t → nat_le (v * 10 + (d - 48)) most ≡ u
    → (if t && u then Some (v * 10 + (d - 48)) else None) ≡ Some n → value_within most v (d ∷ ds) ≡ value_within most n ds
unfolding value_within
taken false u most v d ds n h g e = cc
taken true false most v d ds n h g e = cc
taken true true most v d ds n h g e =
    let is : v * 10 + digit_value d ≡ n = ap (λ x. v * 10 + x) (is_digit_value d h) ∙ the_value (v * 10 + (d - 48)) n e in rw (h, is) refl

value_on : (most v d : ℕ) (ds : List ℕ) (n : ℕ) → next_value most v d ≡ Some n → value_within most v (d ∷ ds) ≡ value_within most n ds
unfolding next_value
value_on most v d ds n e = taken (is_ascii_digit d) (nat_le (v * 10 + (d - 48)) most) most v d ds n refl refl e

-- a byte that is no digit, or brings the number over the greatest
refused : (t u : Bool) (most v d : ℕ) (ds : List ℕ) → is_ascii_digit d ≡ t → nat_le (v * 10 + (d - 48)) most ≡ u
    → (if t && u then Some (v * 10 + (d - 48)) else None) ≡ None → value_within most v (d ∷ ds) ≡ None
unfolding value_within
refused false u most v d ds h g e = rw h refl
refused true false most v d ds h g e =
    let is : v * 10 + digit_value d ≡ v * 10 + (d - 48) = ap (λ x. v * 10 + x) (is_digit_value d h) in
    rw (h, is) (none_over (all_ascii_digits ds) most (digits_value_after 10 (v * 10 + (d - 48)) ds)
    (over most (v * 10 + (d - 48)) (digits_value_after 10 (v * 10 + (d - 48)) ds) g (grows (v * 10 + (d - 48)) ds)))
refused true true most v d ds h g e = cc

value_none : (most v d : ℕ) (ds : List ℕ) → next_value most v d ≡ None → value_within most v (d ∷ ds) ≡ None
unfolding next_value
value_none most v d ds e = refused (is_ascii_digit d) (nat_le (v * 10 + (d - 48)) most) most v d ds refl refl e

-- ---- digit by digit

le_of : (x y : ℕ) → nat_le x y ≡ true → x ≤ y
le_of x y h = grind (arith, nat_tests)

within_le : (u : Bool) (x most n : ℕ) → nat_le x most ≡ u → (if u then Some x else None) ≡ Some n → n ≤ most
within_le false x most n h e = cc
within_le true x most n h e = subst (λ k. k ≤ most) (the_value x n e) (le_of x most h)

within_by : (t : Bool) (x most n : ℕ) → (if t && nat_le x most then Some x else None) ≡ Some n → n ≤ most
within_by false x most n e = cc
within_by true x most n e = within_le (nat_le x most) x most n refl e

next_within : (most v d n : ℕ) → next_value most v d ≡ Some n → n ≤ most
unfolding next_value
next_within most v d n e = within_by (is_ascii_digit d) (v * 10 + (d - 48)) most n e

from_step : (most v d : ℕ) (ds : List ℕ) (o : Option ℕ) → next_value most v d ≡ o → ((n : ℕ) → n ≤ most → value_from most n ds ≡ value_within most n ds)
    → option_and_then (λ n. value_from most n ds) o ≡ value_within most v (d ∷ ds)
from_step most v d ds None e more = sym (value_none most v d ds e)
from_step most v d ds (Some n) e more = more n (next_within most v d n e) ∙ sym (value_on most v d ds n e)

from_is : (most v : ℕ) (ds : List ℕ) → v ≤ most → value_from most v ds ≡ value_within most v ds
from_is most v [] h = sym (value_ends most v h)
from_is most v (d ∷ ds) h = from_step most v d ds (next_value most v d) refl (λ n g. from_is most n ds g)

from_zero : (most : ℕ) (ds : List ℕ) → value_from most 0 ds ≡ value_within most 0 ds
from_zero most ds = from_is most 0 ds (omega arith)

-- ---- `_k`

pub counted_nothing : (most : ℕ) (ds : List ℕ) → length ds < 1 → counted most ds ≡ None
unfolding counted
counted_nothing most [] h = refl
counted_nothing most (d ∷ ds) h = absurd (omega (arith, h))

pub counted_from_zero : (most d : ℕ) (ds : List ℕ) → (48 < d → ⊥) → counted most (d ∷ ds) ≡ None
unfolding counted
counted_from_zero most d ds h = let is : nat_lt 48 d ≡ false = grind (arith, nat_tests) in rw is refl

by_value : (u : Bool) (v n : ℕ) → (if u then Some v else None) ≡ Some n → (if u then Some (v - 1) else None) ≡ Some (n - 1)
by_value false v n e = cc
by_value true v n e = ap (λ x. Some (x - 1)) (the_value v n e)

by_none : (u : Bool) (v : ℕ) → (if u then Some v else None) ≡ None → (if u then Some (v - 1) else None) ≡ None
by_none false v e = refl
by_none true v e = cc

pub counted_value : (most d : ℕ) (ds : List ℕ) (n : ℕ) → 48 < d → value_from most 0 (d ∷ ds) ≡ Some n → counted most (d ∷ ds) ≡ Some (n - 1)
unfolding counted value_within
counted_value most d ds n h e =
    let is : nat_lt 48 d ≡ true = grind (arith, nat_tests) in
    rw is (by_value (all_ascii_digits (d ∷ ds) && nat_le (digits_value 10 (d ∷ ds)) most) (digits_value 10 (d ∷ ds)) n (sym (from_zero most (d ∷ ds)) ∙ e))

pub counted_none : (most d : ℕ) (ds : List ℕ) → 48 < d → value_from most 0 (d ∷ ds) ≡ None → counted most (d ∷ ds) ≡ None
unfolding counted value_within
counted_none most d ds h e =
    let is : nat_lt 48 d ≡ true = grind (arith, nat_tests) in
    rw is (by_none (all_ascii_digits (d ∷ ds) && nat_le (digits_value 10 (d ∷ ds)) most) (digits_value 10 (d ∷ ds)) (sym (from_zero most (d ∷ ds)) ∙ e))

pub ruleset counted_steps = (counted_nothing, counted_from_zero, counted_value, counted_none)
