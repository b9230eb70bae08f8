-- The order of UTF-8 bytes is the order of code points.
use Rattle.std.proofs.Common.{◌≡◌, ℕ, ◌+◌, ◌/◌, ◌%◌, ◌≤◌, ◌<◌, inl, inr, true, false, List, [], ◌∷◌, ◌++◌, refl, sym, ◌∙◌, ap, arith, nat_lt}
use Rattle.std.proofs.lemmas.Bool.{cases_lt}
use Rattle.std.proofs.lemmas.Bool.Decides.{nat_tests}
use Rattle.std.proofs.lemmas.Str.{encodes-chars}
use Rattle.std.specs.Str.{chars, encode_utf8_all, IsUtf8}
use Rattle.std.specs.Ordering.{nat_cmp, ordering_then}
use Rattle.std.specs.declared.cmp.Ordering.{Ordering}
use Rattle.std.specs.declared.cmp.Ordering.TheVariants.{Less, Equal, Greater}
use Rattle.std.specs.Cmp.Lexicographic.{slice_cmp}
use lib.Utf8.{encode}

-- ---- numbers and their digits of base 64

then_assoc : (a b o : Ordering) → ordering_then a (ordering_then b o) ≡ ordering_then (ordering_then a b) o
then_assoc Less b o = refl
then_assoc Equal b o = refl
then_assoc Greater b o = refl

is_less : (x y : ℕ) → x < y → nat_cmp x y ≡ Less
is_less x y h = grind (arith, nat_tests)

is_greater : (x y : ℕ) → y < x → nat_cmp x y ≡ Greater
is_greater x y h = grind (arith, nat_tests)

is_equal : (x : ℕ) → nat_cmp x x ≡ Equal
is_equal x = grind (arith, nat_tests)

shifted : (k x y : ℕ) → nat_cmp (k + x) (k + y) ≡ nat_cmp x y
shifted k x y = elim (cases_lt x y) [
  | inl h ↦ is_less (k + x) (k + y) (omega arith) ∙ sym (is_less x y h)
  | inr h ↦ elim (cases_lt y x) [
    | inl g ↦ is_greater (k + x) (k + y) (omega arith) ∙ sym (is_greater x y g)
    | inr g ↦ let e : x ≡ y = omega arith in rw e (is_equal (k + y) ∙ sym (is_equal y))
  ]
]

same_digit : (c d : ℕ) → c / 64 ≡ d / 64 → nat_cmp (c % 64) (d % 64) ≡ nat_cmp c d
same_digit c d e = elim (cases_lt c d) [
  | inl h ↦ is_less (c % 64) (d % 64) (omega arith) ∙ sym (is_less c d h)
  | inr h ↦ elim (cases_lt d c) [
    | inl g ↦ is_greater (c % 64) (d % 64) (omega arith) ∙ sym (is_greater c d g)
    | inr g ↦ let s : c ≡ d = omega arith in rw s (is_equal (d % 64) ∙ sym (is_equal d))
  ]
]

digits : (c d : ℕ) → ordering_then (nat_cmp (c / 64) (d / 64)) (nat_cmp (c % 64) (d % 64)) ≡ nat_cmp c d
digits c d = elim (cases_lt (c / 64) (d / 64)) [
  | inl h ↦ rw (is_less (c / 64) (d / 64) h) (sym (is_less c d (omega arith)))
  | inr h ↦ elim (cases_lt (d / 64) (c / 64)) [
    | inl g ↦ rw (is_greater (c / 64) (d / 64) g) (sym (is_greater c d (omega arith)))
    | inr g ↦ let e : c / 64 ≡ d / 64 = omega arith in ap (λ o. ordering_then o (nat_cmp (c % 64) (d % 64))) (ap (λ n. nat_cmp n (d / 64)) e ∙ is_equal (d / 64)) ∙ same_digit c d e
  ]
]

-- the last digit, behind the others
last_digit : (l c d : ℕ) (o : Ordering) → ordering_then (nat_cmp (c / 64) (d / 64)) (ordering_then (nat_cmp (l + c % 64) (l + d % 64)) o) ≡ ordering_then (nat_cmp c d) o
last_digit l c d o =
    ap (λ p. ordering_then (nat_cmp (c / 64) (d / 64)) (ordering_then p o)) (shifted l (c % 64) (d % 64))
    ∙ then_assoc (nat_cmp (c / 64) (d / 64)) (nat_cmp (c % 64) (d % 64)) o
    ∙ ap (λ p. ordering_then p o) (digits c d)

two_digits : (k l c d : ℕ) (o : Ordering) → ordering_then (nat_cmp (k + c / 64) (k + d / 64)) (ordering_then (nat_cmp (l + c % 64) (l + d % 64)) o) ≡ ordering_then (nat_cmp c d) o
two_digits k l c d o =
    ap (λ p. ordering_then p (ordering_then (nat_cmp (l + c % 64) (l + d % 64)) o)) (shifted k (c / 64) (d / 64)) ∙ last_digit l c d o

-- ---- characters and their bytes

below : (c n : ℕ) → c < n → nat_lt c n ≡ true
below c n h = grind (arith, nat_tests)

above : (c n : ℕ) → n ≤ c → nat_lt c n ≡ false
above c n h = grind (arith, nat_tests)

-- how many bytes a character takes
pub data Width : ℕ → Type 0 where
  one : {c : ℕ} → c < 128 → Width c
  two : {c : ℕ} → 128 ≤ c → c < 2048 → Width c
  three : {c : ℕ} → 2048 ≤ c → c < 65536 → Width c
  four : {c : ℕ} → 65536 ≤ c → Width c

pub width : (c : ℕ) → Width c
width c = elim (cases_lt c 128) [
  | inl h ↦ one h
  | inr h ↦ elim (cases_lt c 2048) [
    | inl g ↦ two h g
    | inr g ↦ elim (cases_lt c 65536) [ inl f ↦ three g f | inr f ↦ four f ]
  ]
]

pub encode_one : (c : ℕ) → c < 128 → encode c ≡ c ∷ []
unfolding encode
encode_one c h = rw (below c 128 h) refl

pub encode_two : (c : ℕ) → 128 ≤ c → c < 2048 → encode c ≡ (192 + c / 64) ∷ (128 + c % 64) ∷ []
unfolding encode
encode_two c h g = rw (above c 128 h, below c 2048 g) refl

pub encode_three : (c : ℕ) → 2048 ≤ c → c < 65536 → encode c ≡ (224 + (c / 64) / 64) ∷ (128 + (c / 64) % 64) ∷ (128 + c % 64) ∷ []
unfolding encode
encode_three c h g =
    let e : c / 4096 ≡ (c / 64) / 64 = omega arith in
    rw (above c 128 (omega arith), above c 2048 h, below c 65536 g, e) refl

pub encode_four : (c : ℕ) → 65536 ≤ c → encode c ≡ (240 + ((c / 64) / 64) / 64) ∷ (128 + ((c / 64) / 64) % 64) ∷ (128 + (c / 64) % 64) ∷ (128 + c % 64) ∷ []
unfolding encode
encode_four c h =
    let e : c / 4096 ≡ (c / 64) / 64 = omega arith in
    let f : c / 262144 ≡ ((c / 64) / 64) / 64 = omega arith in
    rw (above c 128 (omega arith), above c 2048 (omega arith), above c 65536 h, f, e) refl

lesser : (x y c d : ℕ) (o p : Ordering) → x < y → c < d → ordering_then (nat_cmp x y) o ≡ ordering_then (nat_cmp c d) p
lesser x y c d o p h g = rw (is_less x y h, is_less c d g) refl

greater : (x y c d : ℕ) (o p : Ordering) → y < x → d < c → ordering_then (nat_cmp x y) o ≡ ordering_then (nat_cmp c d) p
greater x y c d o p h g = rw (is_greater x y h, is_greater c d g) refl

ordered : (c d : ℕ) (xs ys : List ℕ) → Width c → Width d → slice_cmp nat_cmp (encode c ++ xs) (encode d ++ ys) ≡ ordering_then (nat_cmp c d) (slice_cmp nat_cmp xs ys)
ordered c d xs ys (one h) (one k) = rw (encode_one c h, encode_one d k) refl
ordered c d xs ys (one h) (two k l) = rw (encode_one c h, encode_two d k l) (lesser c (192 + d / 64) c d _ _ (omega arith) (omega arith))
ordered c d xs ys (one h) (three k l) = rw (encode_one c h, encode_three d k l) (lesser c (224 + (d / 64) / 64) c d _ _ (omega arith) (omega arith))
ordered c d xs ys (one h) (four k) = rw (encode_one c h, encode_four d k) (lesser c (240 + ((d / 64) / 64) / 64) c d _ _ (omega arith) (omega arith))
ordered c d xs ys (two h i) (one k) = rw (encode_two c h i, encode_one d k) (greater (192 + c / 64) d c d _ _ (omega arith) (omega arith))
ordered c d xs ys (two h i) (two k l) = rw (encode_two c h i, encode_two d k l) (two_digits 192 128 c d (slice_cmp nat_cmp xs ys))
ordered c d xs ys (two h i) (three k l) = rw (encode_two c h i, encode_three d k l) (lesser (192 + c / 64) (224 + (d / 64) / 64) c d _ _ (omega arith) (omega arith))
ordered c d xs ys (two h i) (four k) = rw (encode_two c h i, encode_four d k) (lesser (192 + c / 64) (240 + ((d / 64) / 64) / 64) c d _ _ (omega arith) (omega arith))
ordered c d xs ys (three h i) (one k) = rw (encode_three c h i, encode_one d k) (greater (224 + (c / 64) / 64) d c d _ _ (omega arith) (omega arith))
ordered c d xs ys (three h i) (two k l) = rw (encode_three c h i, encode_two d k l) (greater (224 + (c / 64) / 64) (192 + d / 64) c d _ _ (omega arith) (omega arith))
ordered c d xs ys (three h i) (three k l) =
    rw (encode_three c h i, encode_three d k l) (two_digits 224 128 (c / 64) (d / 64) _ ∙ last_digit 128 c d (slice_cmp nat_cmp xs ys))
ordered c d xs ys (three h i) (four k) = rw (encode_three c h i, encode_four d k) (lesser (224 + (c / 64) / 64) (240 + ((d / 64) / 64) / 64) c d _ _ (omega arith) (omega arith))
ordered c d xs ys (four h) (one k) = rw (encode_four c h, encode_one d k) (greater (240 + ((c / 64) / 64) / 64) d c d _ _ (omega arith) (omega arith))
ordered c d xs ys (four h) (two k l) = rw (encode_four c h, encode_two d k l) (greater (240 + ((c / 64) / 64) / 64) (192 + d / 64) c d _ _ (omega arith) (omega arith))
ordered c d xs ys (four h) (three k l) = rw (encode_four c h, encode_three d k l) (greater (240 + ((c / 64) / 64) / 64) (224 + (d / 64) / 64) c d _ _ (omega arith) (omega arith))
ordered c d xs ys (four h) (four k) =
    rw (encode_four c h, encode_four d k) (two_digits 240 128 ((c / 64) / 64) ((d / 64) / 64) _ ∙ last_digit 128 (c / 64) (d / 64) _ ∙ last_digit 128 c d (slice_cmp nat_cmp xs ys))

filled : (c : ℕ) (xs : List ℕ) → Width c → (ys : List ℕ) → slice_cmp nat_cmp [] (encode c ++ xs) ≡ Less
filled c xs (one h) ys = rw (encode_one c h) refl
filled c xs (two h i) ys = rw (encode_two c h i) refl
filled c xs (three h i) ys = rw (encode_three c h i) refl
filled c xs (four h) ys = rw (encode_four c h) refl

filled_left : (c : ℕ) (xs : List ℕ) → Width c → slice_cmp nat_cmp (encode c ++ xs) [] ≡ Greater
filled_left c xs (one h) = rw (encode_one c h) refl
filled_left c xs (two h i) = rw (encode_two c h i) refl
filled_left c xs (three h i) = rw (encode_three c h i) refl
filled_left c xs (four h) = rw (encode_four c h) refl

all_ordered : (cs ds : List ℕ) → slice_cmp nat_cmp (encode_utf8_all cs) (encode_utf8_all ds) ≡ slice_cmp nat_cmp cs ds
all_ordered [] [] = refl
all_ordered [] (d ∷ ds) = filled d (encode_utf8_all ds) (width d) []
all_ordered (c ∷ cs) [] = filled_left c (encode_utf8_all cs) (width c)
all_ordered (c ∷ cs) (d ∷ ds) =
    ordered c d (encode_utf8_all cs) (encode_utf8_all ds) (width c) (width d) ∙ ap (λ o. ordering_then (nat_cmp c d) o) (all_ordered cs ds)

pub ordered_bytes : (xs ys : List ℕ) → IsUtf8 xs → IsUtf8 ys → slice_cmp nat_cmp xs ys ≡ slice_cmp nat_cmp (chars xs) (chars ys)
ordered_bytes xs ys u v =
    ap (λ l. slice_cmp nat_cmp l ys) (sym (encodes-chars xs u)) ∙ ap (λ l. slice_cmp nat_cmp (encode_utf8_all (chars xs)) l) (sym (encodes-chars ys v)) ∙ all_ordered (chars xs) (chars ys)
