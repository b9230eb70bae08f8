-- An escaped text stands for the text.
use Rattle.std.specs.Prelude.{◌≡◌, ℕ, zero, suc, ◌+◌, ◌/◌, ◌%◌, ◌<◌, ◌≤◌, Bool, true, false, ◌==◌, nat_lt, List, [], ◌∷◌, ◌++◌, length, Some, codes, slice_index, IsUtf8, if◌then◌else◌, refl}
use Rattle.std.specs.List.{list_any, list_all}
use Rattle.std.proofs.Common.{sym, ◌∙◌, ap, subst, arith, append_assoc, lit<}
use Rattle.std.proofs.lemmas.List.{append-nil}
use Rattle.std.proofs.lemmas.Bool.{eqb-true, ltb-true, or_from, or_parts, cond_both}
use Rattle.std.proofs.lemmas.List.Folds.{list_any-append}
use Rattle.select_request.proofs.Printables.{and_left, and_right}
use Rattle.std.proofs.lemmas.Bool.Decides.{nat_tests}
use Rattle.std.proofs.lemmas.Str.{IsUtf8-append, IsUtf8-encode, IsUtf8-nil, encode_ascii, is_utf8-from_IsUtf8}
use lib.Utf8.{encode, encodes, scalar, scalars}
use Rattle.request_elements.specs.Pieces.{has}
use Rattle.request_elements.specs.TextValue.{referred, resolved_behind, resolved, text_value}
use Rattle.select_request.specs.Printed.{escaped_byte, escaped}
use Rattle.select_request.proofs.Escaping.{is_special, special_is_ascii, escaped_plain}

-- ---- a byte by its cases

-- what holds of the three special bytes and of each other byte holds of each
module _ (P : ℕ → List ℕ → Type 0) (less : P 60 (codes "&lt;")) (greater : P 62 (codes "&gt;")) (ampersand : P 38 (codes "&amp;"))
    (plain : (b : ℕ) → (b == 60) ≡ false → (b == 62) ≡ false → (b == 38) ≡ false → P b (b ∷ [])) (b : ℕ) where
  by_tests : (x y z : Bool) → (b == 60) ≡ x → (b == 62) ≡ y → (b == 38) ≡ z
      → P b (if x then codes "&lt;" else if y then codes "&gt;" else if z then codes "&amp;" else b ∷ [])
  by_tests true y z ex ey ez = subst (λ (n : ℕ). P n (codes "&lt;")) (sym (eqb-true b 60 ex)) less
  by_tests false true z ex ey ez = subst (λ (n : ℕ). P n (codes "&gt;")) (sym (eqb-true b 62 ey)) greater
  by_tests false false true ex ey ez = subst (λ (n : ℕ). P n (codes "&amp;")) (sym (eqb-true b 38 ez)) ampersand
  by_tests false false false ex ey ez = plain b ex ey ez

  pub by_special : P b (escaped_byte b)
  by_special = by_tests (b == 60) (b == 62) (b == 38) refl refl refl

-- ---- bytes that don't stand in an escaped text

pub any_append : (p : ℕ → Bool) (xs ys : List ℕ) → list_any p xs ≡ false → list_any p ys ≡ false → list_any p (xs ++ ys) ≡ false
any_append p xs ys h k = list_any-append p xs ys ∙ or_from (list_any p xs) (list_any p ys) h k

-- no `<`
byte_without_less : (b : ℕ) → has 60 (escaped_byte b) ≡ false
byte_without_less b = by_special (λ n text. has 60 text ≡ false) refl refl refl (λ n less greater ampersand. or_from (n == 60) false less refl) b

pub escaped_without_less : (text : List ℕ) → has 60 (escaped text) ≡ false
escaped_without_less [] = refl
escaped_without_less (b ∷ text) = any_append (λ x. x == 60) (escaped_byte b) (escaped text) (byte_without_less b) (escaped_without_less text)

-- no NUL, where the text has none
byte_without_nul : (b : ℕ) → (b == 0) ≡ false → has 0 (escaped_byte b) ≡ false
byte_without_nul b h = by_special (λ n text. (n == 0) ≡ false → has 0 text ≡ false) (λ _. refl) (λ _. refl) (λ _. refl) (λ n less greater ampersand k. or_from (n == 0) false k refl) b h

escaped_without_nul : (text : List ℕ) → has 0 text ≡ false → has 0 (escaped text) ≡ false
escaped_without_nul [] h = refl
escaped_without_nul (b ∷ text) h =
    let parts = or_parts (b == 0) (has 0 text) h in
    any_append (λ x. x == 0) (escaped_byte b) (escaped text) (byte_without_nul b parts.0) (escaped_without_nul text parts.1)

-- ---- references resolved

abbrev Resolves : ℕ → List ℕ → Type 0
Resolves b text = (rest value : List ℕ) → resolved_behind 0 rest ≡ Some value → resolved_behind 0 (text ++ rest) ≡ Some (b ∷ value)

-- a reference of three bytes behind its `&`, one of them `;`
resolves_less : Resolves 60 (codes "&lt;")
unfolding referred
resolves_less rest value h = rw (h, encode_ascii 60 (lit< tt)) refl

resolves_greater : Resolves 62 (codes "&gt;")
unfolding referred
resolves_greater rest value h = rw (h, encode_ascii 62 (lit< tt)) refl

resolves_ampersand : Resolves 38 (codes "&amp;")
unfolding referred
resolves_ampersand rest value h = rw (h, encode_ascii 38 (lit< tt)) refl

resolves_byte : (b : ℕ) → Resolves b (escaped_byte b)
resolves_byte b = by_special Resolves resolves_less resolves_greater resolves_ampersand
    (λ n less greater ampersand rest value h. rw (ampersand, h) refl) b

resolves : (text : List ℕ) → resolved_behind 0 (escaped text) ≡ Some text
resolves [] = refl
resolves (b ∷ text) = resolves_byte b (escaped text) text (resolves text)

-- ---- UTF-8

escaped_append : (xs ys : List ℕ) → escaped (xs ++ ys) ≡ escaped xs ++ escaped ys
escaped_append [] ys = refl
escaped_append (x ∷ xs) ys = ap (λ t. escaped_byte x ++ t) (escaped_append xs ys) ∙ sym (append_assoc (escaped_byte x) (escaped xs) (escaped ys))

ascii_scalar : (b : ℕ) → b < 128 → scalar b ≡ true
ascii_scalar b h = grind (arith, nat_tests)

single : (b : ℕ) → b < 128 → IsUtf8 (b ∷ [])
single b h = subst IsUtf8 (encode_ascii b h) (IsUtf8-encode b (ascii_scalar b h))

-- ASCII is UTF-8
pub ascii_is_utf8 : (text : List ℕ) → list_all (λ b. nat_lt b 128) text ≡ true → IsUtf8 text
ascii_is_utf8 [] h = IsUtf8-nil
ascii_is_utf8 (b ∷ text) h =
    let below : b < 128 = ltb-true b 128 (and_left (nat_lt b 128) (list_all (λ b. nat_lt b 128) text) h) in
    IsUtf8-append (b ∷ []) text (single b below) (ascii_is_utf8 text (and_right (nat_lt b 128) (list_all (λ b. nat_lt b 128) text) h))

escaped_ascii : (b : ℕ) → b < 128 → IsUtf8 (escaped (b ∷ []))
escaped_ascii b h = subst IsUtf8 (sym (append-nil (escaped_byte b)))
    (by_special (λ n text. n < 128 → IsUtf8 text) (λ _. ascii_is_utf8 (codes "&lt;") refl) (λ _. ascii_is_utf8 (codes "&gt;") refl) (λ _. ascii_is_utf8 (codes "&amp;") refl)
    (λ n less greater ampersand k. single n k) b h)

abbrev AllHigh : List ℕ → Type 0
AllHigh text = (k : ℕ) → k < length text → is_special (slice_index text k) ≡ true → ⊥

high : (b : ℕ) → 128 ≤ b → is_special b ≡ true → ⊥
high b h e = absurd (omega (arith, special_is_ascii b e))

high_cons : (b : ℕ) (text : List ℕ) → 128 ≤ b → AllHigh text → AllHigh (b ∷ text)
high_cons b text h later zero within = high b h
high_cons b text h later (suc k) within = later k (omega arith)

high_nil : AllHigh []
high_nil k within = absurd (omega arith)

-- the last byte, the last two, the last three
one_left : (c : ℕ) → AllHigh ((128 + c % 64) ∷ [])
one_left c = high_cons (128 + c % 64) [] (omega arith) high_nil

two_left : (c : ℕ) → AllHigh ((128 + c / 64 % 64) ∷ (128 + c % 64) ∷ [])
two_left c = high_cons (128 + c / 64 % 64) ((128 + c % 64) ∷ []) (omega arith) (one_left c)

three_left : (c : ℕ) → AllHigh ((128 + c / 4096 % 64) ∷ (128 + c / 64 % 64) ∷ (128 + c % 64) ∷ [])
three_left c = high_cons (128 + c / 4096 % 64) ((128 + c / 64 % 64) ∷ (128 + c % 64) ∷ []) (omega arith) (two_left c)

encode_high : (c : ℕ) → nat_lt c 128 ≡ false → AllHigh (encode c)
unfolding encode
encode_high c h = rw h (
    cond_both (nat_lt c 2048) _ _ AllHigh
    (λ _. high_cons (192 + c / 64) ((128 + c % 64) ∷ []) (omega arith) (one_left c))
    (λ _. cond_both (nat_lt c 65536) _ _ AllHigh
    (λ _. high_cons (224 + c / 4096) ((128 + c / 64 % 64) ∷ (128 + c % 64) ∷ []) (omega arith) (two_left c))
    (λ _. high_cons (240 + c / 262144) ((128 + c / 4096 % 64) ∷ (128 + c / 64 % 64) ∷ (128 + c % 64) ∷ []) (omega arith) (three_left c))))

escaped_char : (c : ℕ) → scalar c ≡ true → (t : Bool) → nat_lt c 128 ≡ t → IsUtf8 (escaped (encode c))
escaped_char c h true e = rw (encode_ascii c (ltb-true c 128 e)) (escaped_ascii c (ltb-true c 128 e))
escaped_char c h false e = rw (escaped_plain (encode c) (encode_high c e)) (IsUtf8-encode c h)

escaped_chars : (cs : List ℕ) → scalars cs ≡ true → IsUtf8 (escaped (encodes cs))
escaped_chars [] h = IsUtf8-nil
escaped_chars (c ∷ cs) h =
    subst IsUtf8 (sym (escaped_append (encode c) (encodes cs)))
    (IsUtf8-append (escaped (encode c)) (escaped (encodes cs)) (escaped_char c (and_left (scalar c) (scalars cs) h) (nat_lt c 128) refl)
    (escaped_chars cs (and_right (scalar c) (scalars cs) h)))

escaped_utf8 : (text : List ℕ) → IsUtf8 text → IsUtf8 (escaped text)
escaped_utf8 text h = subst (λ (t : List ℕ). IsUtf8 (escaped t)) h.1.1 (escaped_chars h.0 h.1.0)

-- a text of characters other than NUL is what its escaped text stands for
pub text_value_escaped : (text : List ℕ) → IsUtf8 text → has 0 text ≡ false → text_value (escaped text) ≡ Some text
unfolding text_value resolved
text_value_escaped text h none = rw (is_utf8-from_IsUtf8 (escaped text) (escaped_utf8 text h), escaped_without_nul text none) (resolves text)
