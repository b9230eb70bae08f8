-- The escapes of a JSON string.
use Rattle.std.specs.Prelude.{◌≡◌, ℕ, ◌+◌, ◌<◌, ◌≤◌, Bool, true, false, not, ◌==◌, List, [], ◌∷◌, ◌++◌, length, take, drop, slice_index, refl, if◌then◌else◌}
use Rattle.std.proofs.Common.{◌∙◌, ap, arith, length-append, length-drop}
use Rattle.std.proofs.lemmas.List.Sums.{prefix_len_passes, prefix_len_stops}
use Rattle.std.specs.List.{prefix_len, flat_map}
use Rattle.json_text.specs.Runs.{is_special, is_plain}
use Rattle.record_output.specs.JsonStrings.{escape, spelled, spelled_text, json_string}
use Rattle.record_output.proofs.Escaping.{all_own, first_escaped, no_shorter}

own : (c : ℕ) → is_special c ≡ false → spelled c ≡ c ∷ []
own c e = rw e refl

at_special : (c : ℕ) → is_special c ≡ true → spelled c ≡ escape c
at_special c e = rw e refl

not_both : (b : Bool) → not b ≡ true → b ≡ true → ⊥
not_both true p q = cc
not_both false p q = cc

was_true : (b : Bool) → not b ≡ false → b ≡ true
was_true true p = refl
was_true false p = absurd (cc)

none_before : (text : List ℕ) (k : ℕ) → k < prefix_len is_plain text → is_special (slice_index text k) ≡ true → ⊥
none_before text k before passes = not_both (is_special (slice_index text k)) (prefix_len_passes is_plain text k 0 before) passes

pub cut_none : (text : List ℕ) (at : ℕ) → at ≡ prefix_len is_plain text → length text ≤ at → spelled_text text ≡ text
unfolding spelled_text
cut_none text at is over = all_own spelled is_special own text (λ k within passes. none_before text k (omega arith) passes)

pub cut_some : (text : List ℕ) (at : ℕ) → at ≡ prefix_len is_plain text → at < length text
    → spelled_text text ≡ (take at text ++ escape (slice_index text at)) ++ spelled_text (drop (at + 1) text)
unfolding spelled_text
cut_some text at is within =
    let here : prefix_len is_plain text < length text = omega arith in
    first_escaped spelled is_special own text at within (λ j before passes. none_before text j (omega arith) passes)
    ∙ ap (λ l. (take at text ++ l) ++ flat_map spelled (drop (at + 1) text))
    (at_special (slice_index text at) (was_true (is_special (slice_index text at)) (ap (λ k. not (is_special (slice_index text k))) is ∙ prefix_len_stops is_plain text 0 here)))

pub cut_shorter : (text : List ℕ) (at : ℕ) → at < length text → length (drop (at + 1) text) < length text
cut_shorter text at within = omega (arith, length-drop (at + 1) text)

-- ---- a string is no shorter than its text

longer_if : (b : Bool) (xs ys : List ℕ) → 0 < length xs → 0 < length ys → 0 < length (if b then xs else ys)
longer_if true xs ys p q = p
longer_if false xs ys p q = q

some_escape : (c : ℕ) → 0 < length (escape c)
some_escape c =
    longer_if (c == 34) _ _ (omega arith) (longer_if (c == 92) _ _ (omega arith) (longer_if (c == 8) _ _ (omega arith) (longer_if (c == 9) _ _ (omega arith)
    (longer_if (c == 10) _ _ (omega arith) (longer_if (c == 12) _ _ (omega arith) (longer_if (c == 13) _ _ (omega arith) (omega arith)))))))

some_byte : (c : ℕ) → 0 < length (spelled c)
some_byte c = longer_if (is_special c) (escape c) (c ∷ []) (some_escape c) (omega arith)

pub string_longer : (text : List ℕ) → length text ≤ length (json_string text)
unfolding spelled_text
string_longer text = omega (arith, no_shorter spelled some_byte text, length-append (flat_map spelled text) (34 ∷ []))

-- a search from the front
pub from_front : (text : List ℕ) (at : ℕ) → at ≡ 0 + prefix_len is_plain (drop 0 text) → at ≡ prefix_len is_plain text
from_front text at is =
    let none : 0 + prefix_len is_plain text ≡ prefix_len is_plain text = omega arith in
    is ∙ none
