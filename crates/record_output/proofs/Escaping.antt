-- A text whose bytes are escaped one by one is itself up to the first that is.
use Rattle.std.specs.Prelude.{◌≡◌, ℕ, zero, suc, ◌+◌, ◌-◌, ◌<◌, ◌≤◌, Bool, true, false, List, [], ◌∷◌, ◌++◌, length, take, drop, slice_index, refl}
use Rattle.std.proofs.Common.{◌∙◌, ap, sym, arith, add-one, append_assoc, length-append, length-drop}
use Rattle.std.proofs.Math.Seq.{take-length}
use Rattle.std.proofs.lemmas.Bool.{false_from_ne_true}
use Rattle.std.specs.List.{flat_map}

module _ (escape : ℕ → List ℕ) (test : ℕ → Bool) (own : (c : ℕ) → test c ≡ false → escape c ≡ c ∷ []) where
  -- no byte is escaped
  pub all_own : (text : List ℕ) → ((k : ℕ) → k < length text → test (slice_index text k) ≡ true → ⊥) → flat_map escape text ≡ text
  all_own [] none = refl
  all_own (c ∷ text) none =
      ap (λ l. l ++ flat_map escape text) (own c (false_from_ne_true (test c) (none 0 (omega arith))))
      ∙ ap (λ l. c ∷ l) (all_own text (λ k within passes. none (suc k) (omega arith) passes))

  -- up to the first that is escaped
  own_front : (text : List ℕ) (k : ℕ) → k < length text → ((j : ℕ) → j < k → test (slice_index text j) ≡ true → ⊥)
      → flat_map escape text ≡ take k text ++ (escape (slice_index text k) ++ flat_map escape (drop (suc k) text))
  own_front [] k within none = absurd (omega arith)
  own_front (c ∷ text) zero within none = refl
  own_front (c ∷ text) (suc k) within none =
      ap (λ l. l ++ flat_map escape text) (own c (false_from_ne_true (test c) (none 0 (omega arith))))
      ∙ ap (λ l. c ∷ l) (own_front text k (omega arith) (λ j before passes. none (suc j) (omega arith) passes))

  pub first_escaped : (text : List ℕ) (k : ℕ) → k < length text → ((j : ℕ) → j < k → test (slice_index text j) ≡ true → ⊥)
      → flat_map escape text ≡ (take k text ++ escape (slice_index text k)) ++ flat_map escape (drop (k + 1) text)
  first_escaped text k within none = rw add-one (own_front text k within none ∙ sym (append_assoc (take k text) (escape (slice_index text k)) (flat_map escape (drop (suc k) text))))

-- escapes make no text shorter
pub no_shorter : (escape : ℕ → List ℕ) → ((c : ℕ) → 0 < length (escape c)) → (text : List ℕ) → length text ≤ length (flat_map escape text)
no_shorter escape some [] = omega arith
no_shorter escape some (c ∷ text) = omega (arith, some c, no_shorter escape some text, length-append (escape c) (flat_map escape text))

-- the bytes from a place on, as a slice of so many
pub rest_is : (n : ℕ) (xs : List ℕ) → take (length xs - n) (drop n xs) ≡ drop n xs
rest_is n xs = ap (λ k. take k (drop n xs)) (sym (length-drop n xs)) ∙ take-length (drop n xs)
