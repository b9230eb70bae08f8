-- Escaping a text from one special byte to the next.
use Rattle.std.specs.Prelude.{◌≡◌, ℕ, zero, suc, ◌+◌, ◌<◌, Bool, true, false, ◌||◌, ◌==◌, List, [], ◌∷◌, ◌++◌, length, take, drop, codes, slice_index, if◌then◌else◌, refl}
use Rattle.std.proofs.Common.{◌∙◌, ap, arith, add-one}
use Rattle.std.proofs.lemmas.Bool.{true≢false, false_from_ne_true}
use Rattle.std.proofs.lemmas.Bool.Decides.{nat_tests}
use Rattle.memchr.specs.Find.{is_byte3, Nowhere, Passes, NoneBefore}
use Rattle.select_request.specs.Printed.{escaped_byte, escaped}

-- `<`, `>` or `&`
abbrev pub is_special : ℕ → Bool
is_special = is_byte3 60 62 38

last_of_four : {A : Type 0} (x y z : Bool) (a b c d : A) → x || y || z ≡ false → (if x then a else if y then b else if z then c else d) ≡ d
last_of_four true y z a b c d h = absurd (true≢false h)
last_of_four false true z a b c d h = absurd (true≢false h)
last_of_four false false true a b c d h = absurd (true≢false h)
last_of_four false false false a b c d h = refl

-- another byte stands for itself
pub plain_byte : (b : ℕ) → is_special b ≡ false → escaped_byte b ≡ b ∷ []
plain_byte b h = last_of_four (b == 60) (b == 62) (b == 38) (codes "&lt;") (codes "&gt;") (codes "&amp;") (b ∷ []) h

pub special_is_ascii : (b : ℕ) → is_special b ≡ true → b < 128
special_is_ascii b h = grind (arith, nat_tests)

-- a text without special bytes stands for itself
pub escaped_plain : (text : List ℕ) → ((k : ℕ) → k < length text → is_special (slice_index text k) ≡ true → ⊥) → escaped text ≡ text
escaped_plain [] none = refl
escaped_plain (b ∷ text) none =
    let here : escaped_byte b ≡ b ∷ [] = plain_byte b (false_from_ne_true (is_special b) (none 0 (omega arith))) in
    let later : escaped text ≡ text = escaped_plain text (λ k within passes. none (suc k) (omega arith) passes) in
    ap (λ e. e ++ escaped text) here ∙ ap (λ t. b ∷ t) later

-- a text is cut at its first special byte
pub escaped_cut : (text : List ℕ) (k : ℕ) → k < length text → ((j : ℕ) → j < k → is_special (slice_index text j) ≡ true → ⊥)
    → escaped text ≡ take k text ++ (escaped_byte (slice_index text k) ++ escaped (drop (suc k) text))
escaped_cut [] k within none = absurd (omega arith)
escaped_cut (b ∷ text) zero within none = refl
escaped_cut (b ∷ text) (suc k) within none =
    let here : escaped_byte b ≡ b ∷ [] = plain_byte b (false_from_ne_true (is_special b) (none 0 (omega arith))) in
    let later = escaped_cut text k (omega arith) (λ j before passes. none (suc j) (omega arith) passes) in
    ap (λ e. e ++ escaped text) here ∙ ap (λ t. b ∷ t) later

-- ---- what a search for the first special byte tells

abbrev pub IsAt : List ℕ → ℕ → Type 0
IsAt bytes at = NoneBefore (Passes is_special bytes) 0 (length bytes) at × Passes is_special bytes at

-- it finds none
pub cut_none : (text bytes : List ℕ) → bytes ≡ text → Nowhere (Passes is_special bytes) 0 (length bytes) → escaped text ≡ text
cut_none text bytes is none =
    let none_in = rw is at none in escaped_plain text (λ k within passes. none_in k (omega arith) within passes)

pub special_at : (text bytes : List ℕ) (at : ℕ) → bytes ≡ text → IsAt bytes at → (at < length text) × (slice_index text at < 128)
special_at text bytes at is found =
    let found_in = rw is at found in (found_in.0.high, special_is_ascii (slice_index text at) found_in.1)

pub cut_at : (text bytes : List ℕ) (at : ℕ) → bytes ≡ text → IsAt bytes at
    → escaped text ≡ take at text ++ (escaped_byte (slice_index text at) ++ escaped (drop (at + 1) text))
cut_at text bytes at is found =
    let found_in = rw is at found in
    rw add-one (escaped_cut text at found_in.0.high (λ j before passes. found_in.0.before j (omega arith) before passes))
