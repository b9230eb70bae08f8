-- The tables hold what they are said to hold.
use Rattle.std.proofs.Common.{◌≡◌, ℕ, zero, suc, ◌+◌, ◌<◌, List, [], ◌∷◌, length, refl, sym, ap, ◌∙◌, arith, Bool, true, false, ◌&&◌, slice_index_or, eqb}
use Rattle.std.proofs.lemmas.Bool.{eqb-true}
use Rattle.event_frame.specs.Register.{times_x, times_power, times_bytes}
use Rattle.event_frame.specs.declared.products.TheConstants.{PRODUCTS}

-- from its i-th entry on, the row has the products of i, i + 1 and so on by x^(8 k)
row_holds : ℕ → ℕ → List ℕ → Bool
row_holds k i [] = true
row_holds k i (entry ∷ row) = eqb entry (times_bytes k i) && row_holds k (suc i) row

-- the rows have 256 entries, and are those of k + 1, k + 2 and so on
rows_hold : ℕ → List (List ℕ) → Bool
rows_hold k [] = true
rows_hold k (row ∷ rows) = (eqb (length row) 256 && row_holds (suc k) 0 row) && rows_hold (suc k) rows

products-hold : rows_hold 0 PRODUCTS ≡ true
unfolding row_holds rows_hold times_x times_power times_bytes
products-hold = refl

both : (a b : Bool) → (a && b) ≡ true → (a ≡ true) × (b ≡ true)
both true b h = (refl, h)
both false b h = absurd (cc)

row-entry : (k i : ℕ) (row : List ℕ) → row_holds k i row ≡ true → (j : ℕ) → j < length row
    → slice_index_or row j 0 ≡ times_bytes k (i + j)
unfolding row_holds
row-entry k i [] h j inside = absurd (omega arith)
row-entry k i (entry ∷ row) h zero inside =
    let here : i + 0 ≡ i = omega arith in
    eqb-true entry (times_bytes k i) (both (eqb entry (times_bytes k i)) (row_holds k (suc i) row) h).0
    ∙ ap (times_bytes k) (sym here)
row-entry k i (entry ∷ row) h (suc j) inside =
    let next : suc i + j ≡ i + suc j = omega arith in
    row-entry k (suc i) row (both (eqb entry (times_bytes k i)) (row_holds k (suc i) row) h).1 j (omega arith)
    ∙ ap (times_bytes k) next

rows-entry : (k : ℕ) (rows : List (List ℕ)) → rows_hold k rows ≡ true → (j : ℕ) → j < length rows
    → (byte : ℕ) → byte < 256
    → slice_index_or (slice_index_or rows j []) byte 0 ≡ times_bytes (suc k + j) byte
unfolding rows_hold
rows-entry k [] h j inside byte small = absurd (omega arith)
rows-entry k (row ∷ rows) h zero inside byte small =
    let first : (eqb (length row) 256 && row_holds (suc k) 0 row) ≡ true =
    (both (eqb (length row) 256 && row_holds (suc k) 0 row) (rows_hold (suc k) rows) h).0 in
    let parts = both (eqb (length row) 256) (row_holds (suc k) 0 row) first in
    let size : length row ≡ 256 = eqb-true (length row) 256 parts.0 in
    let here : suc k + 0 ≡ suc k = omega arith in
    let from_zero : 0 + byte ≡ byte = omega arith in
    row-entry (suc k) 0 row parts.1 byte (omega arith)
    ∙ ap (times_bytes (suc k)) from_zero ∙ ap (λ n. times_bytes n byte) (sym here)
rows-entry k (row ∷ rows) h (suc j) inside byte small =
    let next : suc (suc k) + j ≡ suc k + suc j = omega arith in
    rows-entry (suc k) rows
    (both (eqb (length row) 256 && row_holds (suc k) 0 row) (rows_hold (suc k) rows) h).1 j (omega arith) byte small
    ∙ ap (λ n. times_bytes n byte) next

pub products-entry : (k byte : ℕ) → k < 16 → byte < 256
    → slice_index_or (slice_index_or PRODUCTS k []) byte 0 ≡ times_bytes (k + 1) byte
products-entry k byte inside small =
    let place : 1 + k ≡ k + 1 = omega arith in
    rows-entry 0 PRODUCTS products-hold k inside byte small ∙ ap (λ n. times_bytes n byte) place
