-- The members of a list by commas.
use Rattle.std.proofs.Common.{◌≡◌, ℕ, suc, ◌+◌, ◌<◌, ◌≤◌, ◌==◌, Bool, true, false, not, cond, if◌then◌else◌, List, [], ◌∷◌, length, take, drop, refl, ap, arith}
use Rattle.std.specs.List.{prefix_len}
use Rattle.http_intake.specs.Bodies.{members_of, onto_first}

-- how many bytes stand before the first comma
abbrev pub front_of : List ℕ → ℕ
front_of value = prefix_len (λ b. not (b == 44)) value

none_by : (b : ℕ) (value : List ℕ) (t : Bool) → (length value ≤ front_of value → members_of value ≡ value ∷ [])
    → suc (length value) ≤ cond (not t) (1 + front_of value) 0
    → (if t then [] ∷ members_of value else onto_first b (members_of value)) ≡ (b ∷ value) ∷ []
none_by b value true rest past = absurd (omega (arith, past))
none_by b value false rest past = ap (λ l. onto_first b l) (rest (omega (arith, past)))

pub members_none : (value : List ℕ) → length value ≤ front_of value → members_of value ≡ value ∷ []
members_none [] past = refl
members_none (b ∷ value) past = none_by b value (b == 44) (members_none value) past

some_by : (b : ℕ) (value : List ℕ) (t : Bool)
    → (front_of value < length value → members_of value ≡ take (front_of value) value ∷ members_of (drop (front_of value + 1) value))
    → cond (not t) (1 + front_of value) 0 < suc (length value)
    → (if t then [] ∷ members_of value else onto_first b (members_of value))
    ≡ take (cond (not t) (1 + front_of value) 0) (b ∷ value) ∷ members_of (drop (cond (not t) (1 + front_of value) 0 + 1) (b ∷ value))
some_by b value true rest within = refl
some_by b value false rest within =
    let next : 1 + front_of value ≡ suc (front_of value) = omega arith in
    let further : suc (front_of value) + 1 ≡ suc (front_of value + 1) = omega arith in
    rw (next, further) (ap (λ l. onto_first b l) (rest (omega (arith, within))))

pub members_some : (value : List ℕ) → front_of value < length value
    → members_of value ≡ take (front_of value) value ∷ members_of (drop (front_of value + 1) value)
members_some [] within = absurd (omega (arith, within))
members_some (b ∷ value) within = some_by b value (b == 44) (members_some value) within
