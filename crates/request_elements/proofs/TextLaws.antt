-- A text's references are resolved from the left.
use Rattle.std.proofs.Common.{◌≡◌, ℕ, zero, suc, ◌+◌, ◌*◌, ◌^◌, ◌<◌, ◌≤◌, ◌==◌, ◌||◌, not, Bool, true, false, List, [], ◌∷◌, ◌++◌, length, take, drop, Option, Some, None, MatchOption, option_map, Bor, refl, sym, ap, ◌∙◌, subst, arith, append_assoc, append-nil, length-append, if◌then◌else◌}
use Rattle.std.proofs.lemmas.Bool.Decides.{nat_tests}
use Rattle.std.specs.Prelude.{encode_utf8, nat_lt}
use Rattle.std.specs.Char.{digit_value}
use Rattle.std.proofs.Common.{eqb-true}
use Rattle.std.proofs.Math.Nat.{mul-le-mul_left, mul-le-mul_right, le-mul_of_pos_right, mul_assoc, pow-succ', pow-zero}
use Rattle.std.specs.List.{position_or_len, before_first, after_first}
use Rattle.std.proofs.lemmas.Str.Pattern.{split_once_first, IsSplitOnceResult}
use Rattle.request_elements.specs.Pieces.{has, up_to}
use Rattle.request_elements.specs.TextValue.{Splits, number_after, referred, then_resolved, resolved_behind, resolved}
use Rattle.request_elements.proofs.CutLaws.{drop_behind}
use Rattle.request_elements.proofs.ByteLaws.{up_to_front, has_front, whole_has, part_has, take_up_to}

resolved_skips : (k : ℕ) (bs : List ℕ) → resolved_behind k bs ≡ resolved_behind 0 (drop k bs)
resolved_skips zero bs = refl
resolved_skips (suc k) [] = refl
resolved_skips (suc k) (b ∷ bs) = resolved_skips k bs

map_map : (b : ℕ) (pre : List ℕ) (o : Option (List ℕ)) → option_map (λ rest. b ∷ rest) (option_map (λ rest. pre ++ rest) o) ≡ option_map (λ rest. (b ∷ pre) ++ rest) o
map_map b pre None = refl
map_map b pre (Some rest) = refl

map_none : (o : Option (List ℕ)) → o ≡ option_map (λ rest. [] ++ rest) o
map_none None = refl
map_none (Some rest) = refl

or_both : (a b : Bool) → (a || b) ≡ false → (a ≡ false) × (b ≡ false)
or_both true b e = cc
or_both false b e = (refl, e)

-- bytes that are no `&` stand for themselves
pub resolved_plain : (pre rest : List ℕ) → has 38 pre ≡ false → resolved (pre ++ rest) ≡ option_map (λ more. pre ++ more) (resolved rest)
unfolding resolved
resolved_plain [] rest e = map_none (resolved_behind 0 rest)
resolved_plain (b ∷ pre) rest e =
    let w = or_both (b == 38) (has 38 pre) e in
    rw w.0 (ap (option_map (λ more. b ∷ more)) (resolved_plain pre rest w.1) ∙ map_map b pre (resolved_behind 0 rest))

-- a reference, and what follows it
pub resolved_reference : (name rest : List ℕ) → has 59 name ≡ false → resolved (38 ∷ (name ++ 59 ∷ rest)) ≡ then_resolved (referred name) (resolved rest)
unfolding resolved
resolved_reference name rest e =
    rw (has_front 59 name rest, up_to_front 59 name rest e, resolved_skips (length name + 1) (name ++ 59 ∷ rest), drop_behind name 59 rest) refl

-- a `&` without a `;` behind it
pub resolved_open : (rest : List ℕ) → has 59 rest ≡ false → resolved (38 ∷ rest) ≡ None
unfolding resolved
resolved_open rest e = rw e refl

-- ---- the split at a byte

has_up_to : (x : ℕ) (bs : List ℕ) → has x (up_to x bs) ≡ false
has_up_to x [] = refl
has_up_to x (b ∷ bs) =
    let P : Bool → Type 0 = λ t. b == x ≡ t → has x (if t then [] else b ∷ up_to x bs) ≡ false in
    (elim (b == x) as P [ true ↦ λ e. refl | false ↦ λ e. rw e (has_up_to x bs) ]) refl

joined_again : (x : ℕ) (bs : List ℕ) → has x bs ≡ true → bs ≡ up_to x bs ++ x ∷ drop (length (up_to x bs) + 1) bs
joined_again x [] e = cc
joined_again x (b ∷ bs) e =
    let P : Bool → Type 0 = λ t. b == x ≡ t → (t || has x bs) ≡ true → b ∷ bs ≡ (if t then [] else b ∷ up_to x bs) ++ x ∷ drop (length (if t then [] else b ∷ up_to x bs) + 1) (b ∷ bs) in
    let s : suc (length (up_to x bs)) + 1 ≡ suc (length (up_to x bs) + 1) = omega arith in
    (elim (b == x) as P [
      | true ↦ λ q f. ap (λ y. y ∷ bs) (eqb-true b x q)
      | false ↦ λ q f. rw s (ap (λ l. b ∷ l) (joined_again x bs f))
    ]) refl e

place_up_to : (x : ℕ) (bs : List ℕ) → position_or_len (λ b. b == x) bs ≡ length (up_to x bs)
place_up_to x [] = refl
place_up_to x (b ∷ bs) =
    let r = place_up_to x bs in
    let P : Bool → Type 0 = λ t. (if not t then 1 + position_or_len (λ b. b == x) bs else 0) ≡ length (if t then [] else b ∷ up_to x bs) in
    elim (b == x) as P [ true ↦ refl | false ↦ omega arith ]

splits_of : (x : ℕ) (bs : List ℕ) (r : Option (Bor (List ℕ) × Bor (List ℕ))) → MatchOption r (position_or_len (λ b. b == x) bs ≡ length bs) (λ p. (position_or_len (λ b. b == x) bs < length bs) × (p.0.now ≡ before_first (λ b. b == x) bs) × (p.1.now ≡ after_first (λ b. b == x) bs)) → Splits x bs r
splits_of x bs None h = whole_has x bs (sym (place_up_to x bs) ∙ h)
splits_of x bs (Some p) h =
    let l : length (up_to x bs) < length bs = rw (← place_up_to x bs) h.0 in
    let t = part_has x bs (λ e. absurd (omega arith)) in
    let a : p.0.now ≡ up_to x bs = h.1 ∙ (ap (λ n. take n bs) (place_up_to x bs) ∙ take_up_to x bs) in
    let b : p.1.now ≡ drop (length (up_to x bs) + 1) bs = h.2 ∙ ap (λ n. drop (n + 1) bs) (place_up_to x bs) in
    rw (a, b) (joined_again x bs t, has_up_to x bs)

pub splits : (x : ℕ) (bs : List ℕ) (r : Option (Bor (List ℕ) × Bor (List ℕ))) → IsSplitOnceResult x bs r → x < 128 → Splits x bs r
splits x bs r h l = splits_of x bs r (split_once_first x bs r h l)

-- ---- digits

-- so many more digits keep the number below 2 ^ 32
pub one_more_digit : (number base d n : ℕ) → base ≤ 16 → d < base → (number + 1) * 16 ^ suc n ≤ 4294967296 → (number * base + d + 1) * 16 ^ n ≤ 4294967296
one_more_digit number base d n h l e =
    let a : (number + 1) * base ≤ (number + 1) * 16 = mul-le-mul_left (number + 1) h in
    let b : (number + 1) * base ≡ number * base + base = grind arith in
    let c : number * base + d + 1 ≤ (number + 1) * 16 = omega arith in
    let f : (number * base + d + 1) * 16 ^ n ≤ (number + 1) * 16 * 16 ^ n = mul-le-mul_right (16 ^ n) c in
    let g : (number + 1) * 16 * 16 ^ n ≡ (number + 1) * 16 ^ suc n = rw (pow-succ' 16 n) (mul_assoc (number + 1) 16 (16 ^ n)) in
    omega arith

pow_16_pos : (n : ℕ) → 0 < 16 ^ n
pow_16_pos zero = rw (pow-zero 16) (omega arith)
pow_16_pos (suc n) = let p = pow_16_pos n in rw (pow-succ' 16 n) (omega arith)

pub digits_fit : (number n : ℕ) → (number + 1) * 16 ^ n ≤ 4294967296 → number < 4294967296
digits_fit number n e =
    let p : 0 < 16 ^ n = pow_16_pos n in
    let a : number + 1 ≤ (number + 1) * 16 ^ n = le-mul_of_pos_right (number + 1) p in
    omega arith

pub few_digits : (n : ℕ) → n ≤ 8 → (0 + 1) * 16 ^ n ≤ 4294967296
few_digits zero l = omega arith
few_digits (suc zero) l = omega arith
few_digits (suc (suc zero)) l = omega arith
few_digits (suc (suc (suc zero))) l = omega arith
few_digits (suc (suc (suc (suc zero)))) l = omega arith
few_digits (suc (suc (suc (suc (suc zero))))) l = omega arith
few_digits (suc (suc (suc (suc (suc (suc zero)))))) l = omega arith
few_digits (suc (suc (suc (suc (suc (suc (suc zero))))))) l = omega arith
few_digits (suc (suc (suc (suc (suc (suc (suc (suc zero)))))))) l = omega arith
few_digits (suc (suc (suc (suc (suc (suc (suc (suc (suc n))))))))) l = absurd (omega arith)

-- ---- the steps of the loop: `so_far` was resolved

taken_on : (so_far pre : List ℕ) (o : Option (List ℕ)) → option_map (λ r. so_far ++ r) (option_map (λ r. pre ++ r) o) ≡ option_map (λ r. (so_far ++ pre) ++ r) o
taken_on so_far pre None = refl
taken_on so_far pre (Some r) = ap Some (sym (append_assoc so_far pre r))

resolved_at : (so_far before rest left : List ℕ) → left ≡ before ++ 38 ∷ rest → has 38 before ≡ false
    → option_map (λ r. so_far ++ r) (resolved left) ≡ option_map (λ r. (so_far ++ before) ++ r) (resolved (38 ∷ rest))
resolved_at so_far before rest left e n =
    rw e (ap (option_map (λ r. so_far ++ r)) (resolved_plain before (38 ∷ rest) n) ∙ taken_on so_far before (resolved (38 ∷ rest)))

pub resolved_step : (so_far before rest left behind : List ℕ) (c : ℕ) → left ≡ before ++ 38 ∷ rest → has 38 before ≡ false
    → resolved (38 ∷ rest) ≡ then_resolved (Some c) (resolved behind)
    → option_map (λ r. so_far ++ r) (resolved left) ≡ option_map (λ r. ((so_far ++ before) ++ encode_utf8 c) ++ r) (resolved behind)
resolved_step so_far before rest left behind c e n q =
    resolved_at so_far before rest left e n
    ∙ (ap (option_map (λ r. (so_far ++ before) ++ r)) q ∙ taken_on (so_far ++ before) (encode_utf8 c) (resolved behind))

pub resolved_fails : (so_far before rest left : List ℕ) → left ≡ before ++ 38 ∷ rest → has 38 before ≡ false → resolved (38 ∷ rest) ≡ None
    → option_map (λ r. so_far ++ r) (resolved left) ≡ None
resolved_fails so_far before rest left e n q = resolved_at so_far before rest left e n ∙ rw q refl

pub resolved_ends : (so_far left : List ℕ) → has 38 left ≡ false → option_map (λ r. so_far ++ r) (resolved left) ≡ Some (so_far ++ left)
unfolding resolved
resolved_ends so_far left n =
    let e : resolved_behind 0 (left ++ []) ≡ Some (left ++ []) = resolved_plain left [] n in
    let f : resolved_behind 0 left ≡ Some left = subst (λ l. resolved_behind 0 l ≡ Some l) (append-nil left) e in
    rw f refl

-- what `reference` tells
pub reference_none : (text : List ℕ) → has 59 text ≡ false → resolved (38 ∷ text) ≡ None
reference_none text e = resolved_open text e

pub reference_some : (text name behind : List ℕ) (o : Option ℕ) → text ≡ name ++ 59 ∷ behind → has 59 name ≡ false → o ≡ referred name → resolved (38 ∷ text) ≡ then_resolved o (resolved behind)
reference_some text name behind o e n q = rw (e, q) (resolved_reference name behind n)

pub shorter_behind : (text name behind : List ℕ) → text ≡ name ++ 59 ∷ behind → length behind < length text
shorter_behind text name behind e = rw e (omega (arith, length-append name (59 ∷ behind)))

-- ---- the steps of the digits' loop

pub digit_room : (number base d digit : ℕ) (rest left : List ℕ) → left ≡ digit ∷ rest → base ≤ 16 → d < base → (number + 1) * 16 ^ length left ≤ 4294967296
    → (number * base + d + 1) * 16 ^ length rest ≤ 4294967296
digit_room number base d digit rest left e h l r =
    let q : (number + 1) * 16 ^ suc (length rest) ≤ 4294967296 = rw e at r in one_more_digit number base d (length rest) h l q

pub digit_goes_on : (base so_far d digit : ℕ) (rest left : List ℕ) → left ≡ digit ∷ rest → digit_value digit < base → d ≡ digit_value digit
    → number_after base so_far left ≡ number_after base (so_far * base + d) rest
digit_goes_on base so_far d digit rest left e l q =
    let t : nat_lt (digit_value digit) base ≡ true = grind (arith, nat_tests) in
    rw (e, q, t) refl
