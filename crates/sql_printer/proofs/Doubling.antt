-- A text is doubled from one quote to the next.
use Rattle.std.specs.Prelude.{◌≡◌, ℕ, zero, suc, ◌+◌, ◌<◌, Bool, true, false, ◌==◌, List, [], ◌∷◌, ◌++◌, length, take, drop, slice_index, Some, None, if◌then◌else◌, refl}
use Rattle.std.proofs.Common.{◌∙◌, ap, arith, add-one, eqb-true}
use Rattle.std.proofs.lemmas.Bool.{false_from_ne_true}
use Rattle.memchr.specs.Find.{IsFirstByte, is_byte}
use Rattle.sql_printed.specs.Shown.{doubled}

plain_byte : (q b : ℕ) (rest : List ℕ) (t : Bool) → t ≡ false → (if t then q ∷ q ∷ rest else b ∷ rest) ≡ b ∷ rest
plain_byte q b rest t e = rw e refl

quote_byte : (q b : ℕ) (rest : List ℕ) (t : Bool) → t ≡ true → (if t then q ∷ q ∷ rest else b ∷ rest) ≡ q ∷ q ∷ rest
quote_byte q b rest t e = rw e refl

-- a text without the quote stands for itself
doubled_plain : (q : ℕ) (text : List ℕ) → ((k : ℕ) → k < length text → (slice_index text k == q) ≡ true → ⊥) → doubled q text ≡ text
doubled_plain q [] none = refl
doubled_plain q (b ∷ text) none =
    plain_byte q b (doubled q text) (b == q) (false_from_ne_true (b == q) (none 0 (omega arith)))
    ∙ ap (λ t. b ∷ t) (doubled_plain q text (λ k within passes. none (suc k) (omega arith) passes))

-- a text is cut at its first quote
doubled_cut : (q : ℕ) (text : List ℕ) (k : ℕ) → k < length text → (slice_index text k == q) ≡ true → ((j : ℕ) → j < k → (slice_index text j == q) ≡ true → ⊥)
    → doubled q text ≡ take k text ++ (q ∷ q ∷ doubled q (drop (suc k) text))
doubled_cut q [] k within at none = absurd (omega arith)
doubled_cut q (b ∷ text) zero within at none = quote_byte q b (doubled q text) (b == q) at
doubled_cut q (b ∷ text) (suc k) within at none =
    plain_byte q b (doubled q text) (b == q) (false_from_ne_true (b == q) (none 0 (omega arith)))
    ∙ ap (λ t. b ∷ t) (doubled_cut q text k (omega arith) at (λ j before passes. none (suc j) (omega arith) passes))

-- ---- what a search for the quote tells

pub cut_none : (q : ℕ) (text bytes : List ℕ) → bytes ≡ text → IsFirstByte (is_byte q) bytes None → doubled q text ≡ text
cut_none q text bytes is none =
    let none_in = rw is at none in doubled_plain q text (λ k within passes. none_in k (omega arith) within passes)

pub quote_at : (q : ℕ) (text bytes : List ℕ) (at : ℕ) → q < 128 → bytes ≡ text → IsFirstByte (is_byte q) bytes (Some at) → (at < length text) × (slice_index text at < 128)
quote_at q text bytes at low is found =
    let found_in = rw is at found in
    let same : slice_index text at ≡ q = eqb-true (slice_index text at) q found_in.1 in
    (found_in.0.high, omega arith)

pub cut_at : (q : ℕ) (text bytes : List ℕ) (at : ℕ) → bytes ≡ text → IsFirstByte (is_byte q) bytes (Some at)
    → doubled q text ≡ take at text ++ (q ∷ q ∷ doubled q (drop (at + 1) text))
cut_at q text bytes at is found =
    let found_in = rw is at found in
    rw add-one (doubled_cut q text at found_in.0.high found_in.1 (λ j before passes. found_in.0.before j (omega arith) before passes))
