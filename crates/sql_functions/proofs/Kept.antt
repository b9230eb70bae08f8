-- The characters at positions are a part of the text.
use Rattle.std.proofs.Common.{◌≡◌, ℕ, zero, suc, ◌-◌, ◌≤◌, ◌<◌, max, ℤ, pos, negsuc, ◌+ℤ◌, Bool, true, false, nat_lt, List, [], ◌∷◌, length, take, drop, refl, ap, sym, ◌∙◌, ◌⊎◌, inl, inr, arith}
use Rattle.std.specs.Prelude.{int_le, int_lt, nat_le, ◌&&◌}
use Rattle.std.proofs.Math.Seq.{drop-nil, take-nil}
use Rattle.std.proofs.lemmas.Bool.Decides.{nat_tests, leb_tells}
use Rattle.sql_functions.specs.Positions.{least}
use Rattle.sql_functions.specs.Texts.{kept_at, from_position, positions_from}

-- tests that agree keep the same
kept_same : (f g : ℕ → Bool) (p : ℕ) (text : List ℕ) → ((q : ℕ) → f q ≡ g q) → kept_at f p text ≡ kept_at g p text
kept_same f g p [] h = refl
kept_same f g p (c ∷ cs) h = rw (h p, kept_same f g (suc p) cs h) refl

take_all : (n : ℕ) (l : List ℕ) → length l ≤ n → take n l ≡ l
take_all zero [] h = refl
take_all zero (x ∷ xs) h = absurd (omega arith)
take_all (suc n) [] h = refl
take_all (suc n) (x ∷ xs) h = ap (λ t. x ∷ t) (take_all n xs (omega arith))

length-drop_le : (n : ℕ) (l : List ℕ) → length (drop n l) ≤ length l
length-drop_le zero l = omega arith
length-drop_le (suc n) [] = omega arith
length-drop_le (suc n) (x ∷ xs) = let h = length-drop_le n xs in omega arith

-- ---- from a position on

passed : (a p c : ℕ) (cs : List ℕ) → p < a → drop (a - p) (c ∷ cs) ≡ drop (a - suc p) cs
passed a p c cs h = ap (λ n. drop n (c ∷ cs)) (let e : a - p ≡ suc (a - suc p) = omega arith in e)

none_passed : (a p : ℕ) (l : List ℕ) → a ≤ p → drop (a - p) l ≡ l
none_passed a p l h = ap (λ n. drop n l) (let e : a - p ≡ 0 = omega arith in e)

kept_below : (a p : ℕ) (text : List ℕ) → kept_at (λ q. nat_le a q) p text ≡ drop (a - p) text
kept_below a p [] = sym (drop-nil (a - p))
kept_below a p (c ∷ cs) = elim (leb_tells a p) [
  | inl h ↦ rw (h.0, kept_below a (suc p) cs) (ap (λ l. c ∷ l) (none_passed a (suc p) cs (omega (arith, h.1))) ∙ sym (none_passed a p (c ∷ cs) h.1))
  | inr h ↦ rw (h.0, kept_below a (suc p) cs) (sym (passed a p c cs h.1))
]

at_least : (s : ℤ) (q : ℕ) → int_le s (pos q) ≡ nat_le (least s) q
at_least (pos n) q = refl
at_least (negsuc n) q = grind (arith, nat_tests)

pub kept_from : (s : ℤ) (text : List ℕ) (k : ℕ) → length text ≤ k → take k (drop (least s - 1) text) ≡ from_position s text
unfolding from_position
kept_from s text k h =
    let short : length (drop (least s - 1) text) ≤ k = omega (arith, length-drop_le (least s - 1) text) in
    take_all k (drop (least s - 1) text) short ∙ sym (kept_below (least s) 1 text) ∙ sym (kept_same (λ p. int_le s (pos p)) (λ p. nat_le (least s) p) 1 text (at_least s))

-- ---- up to a position

below : (z : ℤ) (q : ℕ) → int_lt (pos q) z ≡ nat_lt q (least z)
below (pos n) q = refl
below (negsuc n) q = grind (arith, nat_tests)

-- one character more in front
between_cons : (a e p c : ℕ) (cs : List ℕ)
    → kept_at (λ q. nat_le a q && nat_lt q e) (suc p) cs ≡ take (e - max a (suc p)) (drop (a - suc p) cs)
    → ((nat_le a p ≡ true) × (a ≤ p)) ⊎ ((nat_le a p ≡ false) × (p < a))
    → ((nat_le (suc p) e ≡ true) × (suc p ≤ e)) ⊎ ((nat_le (suc p) e ≡ false) × (e < suc p))
    → kept_at (λ q. nat_le a q && nat_lt q e) p (c ∷ cs) ≡ take (e - max a p) (drop (a - p) (c ∷ cs))
between_cons a e p c cs rest (inl h) (inl k) =
    let test : nat_lt p e ≡ true = grind (arith, nat_tests, k.1) in
    let size : e - max a p ≡ suc (e - max a (suc p)) = omega (arith, h.1, k.1) in
    rw (h.0, test, size, rest, none_passed a (suc p) cs (omega (arith, h.1)), none_passed a p (c ∷ cs) h.1) refl
between_cons a e p c cs rest (inl h) (inr k) =
    let test : nat_lt p e ≡ false = grind (arith, nat_tests, k.1) in
    let none : e - max a (suc p) ≡ 0 = omega (arith, h.1, k.1) in
    let nothing : e - max a p ≡ 0 = omega (arith, h.1, k.1) in
    rw (h.0, test, rest, none, nothing) refl
between_cons a e p c cs rest (inr h) k =
    let same : max a (suc p) ≡ max a p = omega (arith, h.1) in
    rw (h.0, rest, same, passed a p c cs h.1) refl

kept_between : (a e p : ℕ) (text : List ℕ) → kept_at (λ q. nat_le a q && nat_lt q e) p text ≡ take (e - max a p) (drop (a - p) text)
kept_between a e p [] = rw (drop-nil {A = ℕ} (a - p)) (sym (take-nil (e - max a p)))
kept_between a e p (c ∷ cs) = between_cons a e p c cs (kept_between a e (suc p) cs) (leb_tells a p) (leb_tells (suc p) e)

pub kept_positions : (s n : ℤ) (text : List ℕ) → take (least (s +ℤ n) - max (least s) 1) (drop (least s - 1) text) ≡ positions_from s n text
unfolding positions_from
kept_positions s n text =
    sym (kept_between (least s) (least (s +ℤ n)) 1 text)
    ∙ sym (kept_same (λ p. int_le s (pos p) && int_lt (pos p) (s +ℤ n)) (λ p. nat_le (least s) p && nat_lt p (least (s +ℤ n))) 1 text (λ q. rw (at_least s q, below (s +ℤ n) q) refl))
