-- The bits behind some bytes.
use Rattle.std.proofs.Common.{◌≡◌, ℕ, zero, suc, ◌+◌, ◌*◌, ◌/◌, ◌%◌, ◌^◌, ◌<◌, List, [], ◌∷◌, drop, sym, ap, ◌∙◌, arith}
use Rattle.std.specs.Prelude.{slice_index_or}
use Rattle.std.proofs.Math.Nat.{add-mul-div_left, zero-div, div-one}
use Rattle.std.proofs.lemmas.Nat.{shr-shr}
use Rattle.packed_bits.specs.Packed.{little}

no_bits : (k : ℕ) → 0 ≡ 0 / 2 ^ k
no_bits k = sym (zero-div (2 ^ k))

-- whole bytes were passed
pub dropped : (n : ℕ) (bytes : List ℕ) → ((i : ℕ) → slice_index_or bytes i 0 < 256) → little (drop n bytes) ≡ little bytes / 2 ^ (8 * n)
unfolding little
dropped zero bytes fits = sym (div-one (little bytes))
dropped (suc n) [] fits = no_bits (8 * suc n)
dropped (suc n) (b ∷ bytes) fits =
    let low : b < 256 = fits 0 in
    let first : (b + 256 * little bytes) / 256 ≡ little bytes = add-mul-div_left b (little bytes) (omega arith) ∙ omega (arith, low) in
    let sum : 8 + 8 * n ≡ 8 * suc n = omega arith in
    dropped n bytes (λ i. fits (suc i))
    ∙ ap (λ x. x / 2 ^ (8 * n)) (sym first)
    ∙ shr-shr (b + 256 * little bytes) 8 (8 * n)
    ∙ ap (λ k. (b + 256 * little bytes) / 2 ^ k) sum

-- and some bits of the next one
pub at_bit : (bit : ℕ) (bytes : List ℕ) → ((i : ℕ) → slice_index_or bytes i 0 < 256)
    → little (drop (bit / 8) bytes) / 2 ^ (bit % 8) ≡ little bytes / 2 ^ bit
at_bit bit bytes fits =
    let sum : 8 * (bit / 8) + bit % 8 ≡ bit = omega arith in
    ap (λ x. x / 2 ^ (bit % 8)) (dropped (bit / 8) bytes fits) ∙ shr-shr (little bytes) (8 * (bit / 8)) (bit % 8) ∙ ap (λ k. little bytes / 2 ^ k) sum
