-- Where a quoted token closes.
use Rattle.std.proofs.Common.{◌≡◌, ℕ, zero, suc, ◌+◌, ◌<◌, ◌==◌, Bool, true, false, List, [], ◌∷◌, length, drop, slice_index, refl, sym, ◌∙◌, arith, eqb-true, if◌then◌else◌, Option, Some, None, IfSome}
use Rattle.memchr.specs.Find.{IsFirstByte, is_byte}
use Rattle.sql_tokens.specs.TokenForms.{begins, closing_behind, closing}

-- whether the quote in front is doubled
after_quote : ℕ → ℕ → List ℕ → Option ℕ
after_quote quote at bs = if begins (λ c. c == quote) bs then closing_behind quote 1 (at + 1) bs else Some at

step_to : (q at : ℕ) (bs : List ℕ) (n : ℕ) → n < length bs → (slice_index bs n == q) ≡ true
    → ((j : ℕ) → j < n → (slice_index bs j == q) ≡ true → ⊥) → closing_behind q 0 at bs ≡ after_quote q (at + n) (drop (n + 1) bs)
unfolding after_quote
step_to q at [] n l e before = absurd (omega arith)
step_to q at (b ∷ bs) zero l e before = let z : at + 0 ≡ at = omega arith in rw (e, z) refl
step_to q at (b ∷ bs) (suc n) l e before =
    let r = step_to q (at + 1) bs n (omega arith) e (λ j m f. before (suc j) (omega arith) f) in
    let z : at + 1 + n ≡ at + suc n = omega arith in
    let w : suc n + 1 ≡ suc (n + 1) = omega arith in
    let r2 = rw z at r in
    let P : Bool → Type 0 = λ t. (t ≡ true → ⊥) → (if t then (if begins (λ c. c == q) bs then closing_behind q 1 (at + 1) bs else Some at) else closing_behind q 0 (at + 1) bs) ≡ after_quote q (at + suc n) (drop (suc n + 1) (b ∷ bs)) in
    (elim (b == q) as P [ true ↦ λ no. absurd (no refl) | false ↦ λ no. rw w r2 ]) (before 0 (omega arith))

nowhere : (q at : ℕ) (bs : List ℕ) → ((j : ℕ) → j < length bs → (slice_index bs j == q) ≡ true → ⊥) → closing_behind q 0 at bs ≡ None
nowhere q at [] n = refl
nowhere q at (b ∷ bs) n =
    let r = nowhere q (at + 1) bs (λ j l f. n (suc j) (omega arith) f) in
    let P : Bool → Type 0 = λ t. (t ≡ true → ⊥) → (if t then (if begins (λ c. c == q) bs then closing_behind q 1 (at + 1) bs else Some at) else closing_behind q 0 (at + 1) bs) ≡ None in
    (elim (b == q) as P [ true ↦ λ m. absurd (m refl) | false ↦ λ m. r ]) (n 0 (omega arith))

passed : (q at : ℕ) (bs : List ℕ) → closing_behind q 1 at bs ≡ closing_behind q 0 (at + 1) (drop 1 bs)
passed q at [] = refl
passed q at (b ∷ bs) = refl

-- a quote that closes
pub closes : (q at n : ℕ) (bs : List ℕ) → IsFirstByte (is_byte q) bs (Some n) → begins (λ c. c == q) (drop (n + 1) bs) ≡ false → closing_behind q 0 at bs ≡ Some (at + n)
unfolding after_quote
closes q at n bs h e = step_to q at bs n h.0.high h.1 (λ j l f. h.0.before j (omega arith) l f) ∙ rw e refl

-- a quote that is doubled
pub goes_on : (q at n : ℕ) (bs : List ℕ) → IsFirstByte (is_byte q) bs (Some n) → begins (λ c. c == q) (drop (n + 1) bs) ≡ true → closing_behind q 0 at bs ≡ closing_behind q 0 (at + (n + 2)) (drop 1 (drop (n + 1) bs))
unfolding after_quote
goes_on q at n bs h e =
    let z : at + n + 1 + 1 ≡ at + (n + 2) = omega arith in
    step_to q at bs n h.0.high h.1 (λ j l f. h.0.before j (omega arith) l f) ∙ (rw e (passed q (at + n + 1) (drop (n + 1) bs) ∙ rw z refl))

-- no quote
pub never_closes : (q at : ℕ) (bs : List ℕ) → IsFirstByte (is_byte q) bs None → closing_behind q 0 at bs ≡ None
never_closes q at bs h = nowhere q at bs (λ j l f. h j (omega arith) l f)

pub closing_is : (q : ℕ) (bs : List ℕ) → closing q bs ≡ closing_behind q 0 0 bs
unfolding closing
closing_is q bs = refl

-- the place that is found is that of a quote
record Stands (q at n : ℕ) (bs : List ℕ) : Type 0 where
  k : ℕ
  place : n ≡ at + k
  within : k < length bs
  quote : slice_index bs k ≡ q

one_on : (q at n b : ℕ) (bs : List ℕ) → Stands q (at + 1) n bs → Stands q at n (b ∷ bs)
one_on q at n b bs s = record { k = suc s.k; place = let p = s.place in omega arith; within = let w = s.within in omega arith; quote = s.quote }

stands : (q skip at n : ℕ) (bs : List ℕ) → closing_behind q skip at bs ≡ Some n → Stands q at n bs
stands q skip at n [] e = cc
stands q (suc skip) at n (b ∷ bs) e = one_on q at n b bs (stands q skip (at + 1) n bs e)
stands q zero at n (b ∷ bs) e =
    let Q : Bool → Type 0 = λ t. (if t then closing_behind q 1 (at + 1) bs else Some at) ≡ Some n → b ≡ q → Stands q at n (b ∷ bs) in
    let P : Bool → Type 0 = λ t. (b == q) ≡ t → (if t then (if begins (λ c. c == q) bs then closing_behind q 1 (at + 1) bs else Some at) else closing_behind q 0 (at + 1) bs) ≡ Some n → Stands q at n (b ∷ bs) in
    (elim (b == q) as P [
      | true ↦ λ t f. (elim (begins (λ c. c == q) bs) as Q [
        | true ↦ λ g i. one_on q at n b bs (stands q 1 (at + 1) n bs g)
        | false ↦ λ g i. let p : at ≡ n = cc in record { k = 0; place = omega arith; within = omega arith; quote = i }
      ]) f (eqb-true b q t)
      | false ↦ λ t f. one_on q at n b bs (stands q 0 (at + 1) n bs f)
    ]) refl e

stands_at : (q n : ℕ) (bs : List ℕ) → Stands q 0 n bs → (n < length bs) × (slice_index bs n ≡ q)
stands_at q n bs s = let e : n ≡ s.k = let p = s.place in omega arith in rw e (s.within, s.quote)

pub closes_there : (q : ℕ) (bs : List ℕ) (o : Option ℕ) → o ≡ closing q bs → IfSome o (λ n. (n < length bs) × (slice_index bs n ≡ q))
closes_there q bs None e = search
closes_there q bs (Some n) e = stands_at q n bs (stands q 0 0 n bs (sym (closing_is q bs) ∙ sym e))
