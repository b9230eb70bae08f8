-- The digits of a length.
use Rattle.std.proofs.Common.{◌≡◌, ℕ, zero, suc, ◌+◌, ◌*◌, ◌≤◌, ◌&&◌, Bool, true, false, true≢false, List, [], ◌∷◌, Some, drop, refl, sym, arith}
use Rattle.std.specs.Char.{digit_value, is_ascii_digit}
use Rattle.std.specs.List.{list_all}
use Rattle.std.specs.Str.Parse.{digits_value_after}
use Rattle.http_intake.specs.Bodies.{first_of, is_number, says}

and_left : (a b : Bool) → (a && b) ≡ true → a ≡ true
and_left true b both = refl
and_left false b both = both

and_right : (a b : Bool) → (a && b) ≡ true → b ≡ true
and_right true b both = both
and_right false b both = absurd (true≢false (sym both))

pub all_head : {X : Type 0} (p : X → Bool) (x : X) (xs : List X) → list_all p (x ∷ xs) ≡ true → p x ≡ true
all_head p x xs all = and_left (p x) (list_all p xs) all

pub all_tail : {X : Type 0} (p : X → Bool) (x : X) (xs : List X) → list_all p (x ∷ xs) ≡ true → list_all p xs ≡ true
all_tail p x xs all = and_right (p x) (list_all p xs) all

all_drop : {X : Type 0} (p : X → Bool) (n : ℕ) (xs : List X) → list_all p xs ≡ true → list_all p (drop n xs) ≡ true
all_drop p zero xs all = all
all_drop p (suc n) [] all = refl
all_drop p (suc n) (x ∷ xs) all = all_drop p n xs (all_tail p x xs all)

-- where all values say these digits, the first is a number, whatever is dropped of it
pub stated_digits : (values : List (List ℕ)) (first digits : List ℕ) (n : ℕ) → first_of values ≡ Some first
    → list_all (says digits) values ≡ true → list_all is_ascii_digit (drop n first) ≡ true
stated_digits [] first digits n is all = absurd (cc)
stated_digits (value ∷ values) first digits n is all =
    let same : value ≡ first = cc in
    let number = and_left (is_number value) _ (all_head (says digits) value values all) in
    rw (← same) (all_drop is_ascii_digit n value (and_right _ (list_all is_ascii_digit value) number))

-- further digits make no number smaller
pub number_grows : (n : ℕ) (digits : List ℕ) → n ≤ digits_value_after 10 n digits
number_grows n [] = omega arith
number_grows n (digit ∷ digits) = omega (arith, number_grows (n * 10 + digit_value digit) digits)
