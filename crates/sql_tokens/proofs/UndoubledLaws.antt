-- A quote that is doubled is copied once.
use Rattle.std.proofs.Common.{◌≡◌, ℕ, zero, suc, ◌+◌, ◌<◌, ◌==◌, Bool, true, false, List, [], ◌∷◌, ◌++◌, length, take, drop, slice_index, refl, sym, ap, ◌∙◌, arith, append_assoc, if◌then◌else◌, Some, None}
use Rattle.memchr.specs.Find.{IsFirstByte, is_byte}
use Rattle.sql_tokens.specs.TokenForms.{begins}
use Rattle.sql_tokens.specs.Payloads.{once_behind, undoubled}

-- the rest without the second quote
abbrev pub second : ℕ → List ℕ → List ℕ
second q bs = if begins (λ b. b == q) bs then drop 1 bs else bs

after_first : (q : ℕ) (bs : List ℕ) → once_behind q true bs ≡ once_behind q false (second q bs)
after_first q [] = refl
after_first q (b ∷ bs) =
    let P : Bool → Type 0 = λ t. (if t then once_behind q false bs else b ∷ once_behind q (b == q) bs) ≡ once_behind q false (if t then bs else b ∷ bs) in
    elim (b == q) as P [ true ↦ refl | false ↦ refl ]

to_first : (q : ℕ) (bs : List ℕ) (n : ℕ) → n < length bs → (slice_index bs n == q) ≡ true
    → ((j : ℕ) → j < n → (slice_index bs j == q) ≡ true → ⊥) → once_behind q false bs ≡ take (n + 1) bs ++ once_behind q true (drop (n + 1) bs)
to_first q [] n l e before = absurd (omega arith)
to_first q (b ∷ bs) zero l e before = rw e refl
to_first q (b ∷ bs) (suc n) l e before =
    let r = to_first q bs n (omega arith) e (λ j m f. before (suc j) (omega arith) f) in
    let w : suc n + 1 ≡ suc (n + 1) = omega arith in
    let P : Bool → Type 0 = λ t. (t ≡ true → ⊥) → b ∷ once_behind q t bs ≡ take (suc n + 1) (b ∷ bs) ++ once_behind q true (drop (suc n + 1) (b ∷ bs)) in
    (elim (b == q) as P [ true ↦ λ no. absurd (no refl) | false ↦ λ no. rw w (ap (λ l. b ∷ l) r) ]) (before 0 (omega arith))

no_quote : (q : ℕ) (bs : List ℕ) → ((j : ℕ) → j < length bs → (slice_index bs j == q) ≡ true → ⊥) → once_behind q false bs ≡ bs
no_quote q [] n = refl
no_quote q (b ∷ bs) n =
    let r = no_quote q bs (λ j l f. n (suc j) (omega arith) f) in
    let P : Bool → Type 0 = λ t. (t ≡ true → ⊥) → b ∷ once_behind q t bs ≡ b ∷ bs in
    (elim (b == q) as P [ true ↦ λ m. absurd (m refl) | false ↦ λ m. ap (λ l. b ∷ l) r ]) (n 0 (omega arith))

-- the bytes up to a quote, and then the rest
pub undoubled_step : (q n : ℕ) (written bs : List ℕ) → IsFirstByte (is_byte q) bs (Some n)
    → written ++ undoubled q bs ≡ written ++ take (n + 1) bs ++ undoubled q (second q (drop (n + 1) bs))
unfolding undoubled
undoubled_step q n written bs h =
    let r = to_first q bs n h.0.high h.1 (λ j l f. h.0.before j (omega arith) l f) in
    ap (λ l. written ++ l) (r ∙ ap (λ l. take (n + 1) bs ++ l) (after_first q (drop (n + 1) bs))) ∙ sym (append_assoc written (take (n + 1) bs) _)

-- no quote is left
pub undoubled_ends : (q : ℕ) (written bs : List ℕ) → IsFirstByte (is_byte q) bs None → written ++ undoubled q bs ≡ written ++ bs
unfolding undoubled
undoubled_ends q written bs h = ap (λ l. written ++ l) (no_quote q bs (λ j l f. h j (omega arith) l f))
