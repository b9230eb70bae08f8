-- Bodies: the bytes before the first delimiter.
use Rattle.std.proofs.Common.{◌≡◌, ℕ, zero, suc, ◌<◌, ◌≤◌, Bool, true, false, List, [], ◌∷◌, length, take, refl, ap, ◌∙◌, arith}
use Rattle.std.proofs.lemmas.Slice.Eq.{bytes_eq-Decides}
use Rattle.std.specs.Prelude.{bytes_eq, if◌then◌else◌}
use Rattle.line_window.specs.Starts.{before_delimiter}
use Rattle.line_window.specs.Delimiters.{StandsAt, HasNone}
use Rattle.line_window.proofs.DelimiterLaws.{stands_within}

-- the delimiter stands at the front
front : (d : List ℕ) (x : ℕ) (xs : List ℕ) → StandsAt d (x ∷ xs) 0 → before_delimiter d (x ∷ xs) ≡ []
front d x xs stands =
    ap (λ b. if b then [] else x ∷ before_delimiter d xs) ((bytes_eq-Decides (take (length d) (x ∷ xs)) d).1 stands)

-- it doesn't
not_front : (d : List ℕ) (x : ℕ) (xs : List ℕ) → (StandsAt d (x ∷ xs) 0 → ⊥) → before_delimiter d (x ∷ xs) ≡ x ∷ before_delimiter d xs
not_front d x xs never = by_test (bytes_eq (take (length d) (x ∷ xs)) d) (λ is. never ((bytes_eq-Decides (take (length d) (x ∷ xs)) d).0 is))
  where
    by_test : (b : Bool) → (b ≡ true → ⊥) → (if b then [] else x ∷ before_delimiter d xs) ≡ x ∷ before_delimiter d xs
    by_test true never = absurd (never refl)
    by_test false never = refl

-- a body ends at the first delimiter
pub body_found : (d xs : List ℕ) (i : ℕ) → 0 < length d → StandsAt d xs i → HasNone d xs i → before_delimiter d xs ≡ take i xs
body_found d [] i some stands clear = absurd (omega (arith, stands_within d [] i some stands))
body_found d (x ∷ xs) zero some stands clear = front d x xs stands
body_found d (x ∷ xs) (suc i) some stands clear =
    not_front d x xs (clear 0 (omega arith))
    ∙ ap (λ l. x ∷ l) (body_found d xs i some stands (λ k lt. clear (suc k) (omega arith)))

-- without one it is all there is
pub body_open : (d xs : List ℕ) → HasNone d xs (length xs) → before_delimiter d xs ≡ xs
body_open d [] clear = refl
body_open d (x ∷ xs) clear =
    not_front d x xs (clear 0 (omega arith)) ∙ ap (λ l. x ∷ l) (body_open d xs (λ k lt. clear (suc k) (omega arith)))

-- and it is at least as long as the bytes in front that begin no delimiter
pub body_long : (d xs : List ℕ) (n : ℕ) → n ≤ length xs → HasNone d xs n → n ≤ length (before_delimiter d xs)
body_long d xs zero within clear = omega arith
body_long d [] (suc n) within clear = absurd (omega arith)
body_long d (x ∷ xs) (suc n) within clear =
    let rest : n ≤ length (before_delimiter d xs) = body_long d xs n (omega arith) (λ k lt. clear (suc k) (omega arith)) in
    let longer : length (before_delimiter d (x ∷ xs)) ≡ suc (length (before_delimiter d xs)) = ap length (not_front d x xs (clear 0 (omega arith))) in
    omega arith
