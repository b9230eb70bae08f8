-- How many digits of a number stand behind its leading zeros.
use Rattle.std.proofs.Common.{◌≡◌, ℕ, ◌+◌, ◌-◌, ◌≤◌, ◌==◌, List, ◌++◌, length, length-append, refl, arith, eqb, eq-eqb, true, false, eqb-true, Bool}
use Rattle.std.specs.List.{prefix_len}
use Rattle.std.proofs.lemmas.List.Folds.{prefix_len-append}
use Rattle.sql_tokens.specs.TokenForms.{significant}

abbrev zeros : List ℕ → ℕ
zeros ds = prefix_len (λ d. d == 48) ds

-- all digits before the point are zeros
pub zeros_alone : (w f : List ℕ) → zeros w ≡ length w → length f - zeros f ≡ significant (w ++ f)
zeros_alone w f e =
    let t : eqb (zeros w) (length w) ≡ true = eq-eqb (zeros w) (length w) e in
    rw (prefix_len-append (λ d. d == 48) w f, length-append w f, t) (omega arith)

not_so : (a b : ℕ) (t : Bool) → eqb a b ≡ t → (a ≡ b → ⊥) → t ≡ false
not_so a b true e n = absurd (n (eqb-true a b e))
not_so a b false e n = refl

-- another digit stands before the point
pub zeros_before : (w f : List ℕ) → (zeros w ≡ length w → ⊥) → zeros w ≤ length w → length w - zeros w + length f ≡ significant (w ++ f)
zeros_before w f n l =
    let t : eqb (zeros w) (length w) ≡ false = not_so (zeros w) (length w) (eqb (zeros w) (length w)) refl n in
    rw (prefix_len-append (λ d. d == 48) w f, length-append w f, t) (omega arith)
