-- Counting characters by their first bytes, and cutting a text behind some of them.
use Rattle.std.proofs.Common.{◌≡◌, ℕ, zero, suc, ◌+◌, ◌/◌, ◌%◌, ◌≤◌, ◌<◌, true, false, cond, List, [], ◌∷◌, ◌++◌, take, drop, length, refl, sym, ◌∙◌, ap, arith, count_by, slice_index}
use Rattle.std.proofs.lemmas.Bool.Decides.{nat_tests}
use Rattle.std.proofs.lemmas.List.{take-append-drop, take_all, drop_all, append-nil}
use Rattle.std.proofs.lemmas.List.Sums.{sum_by-append}
use Rattle.std.proofs.lemmas.Str.{encodes-chars, encodes_same, encodes-append, chars-append, chars-nil, IsUtf8-take, IsCharBoundary-end}
use Rattle.std.specs.Str.{chars, encode_utf8_all, IsUtf8, IsCharBoundary}
use Rattle.text_view.specs.FirstBytes.{begins_char, IsBehind}
use Rattle.text_view.proofs.CodePoints.{Width, one, two, three, four, width, encode_one, encode_two, encode_three, encode_four}
use Rattle.std.specs.Char.{encode_utf8}
use lib.Utf8.{encode}

first_low : (b : ℕ) → b < 128 → begins_char b ≡ true
first_low b h = grind (arith, nat_tests)

first_high : (b : ℕ) → 192 ≤ b → begins_char b ≡ true
first_high b h = grind (arith, nat_tests)

further : (b : ℕ) → 128 ≤ b → b < 192 → begins_char b ≡ false
further b h l = grind (arith, nat_tests)

one_more : (n : ℕ) → 1 + n ≡ suc n
one_more n = omega arith

none_more : (n : ℕ) → 0 + n ≡ n
none_more n = omega arith

firsts : List ℕ → ℕ
firsts bs = count_by begins_char bs

firsts_cons : (b : ℕ) (bs : List ℕ) → firsts (b ∷ bs) ≡ cond (begins_char b) 1 0 + firsts bs
unfolding firsts
firsts_cons b bs = sum_by-append (λ x. cond (begins_char x) 1 0) (b ∷ []) bs ∙ ap (λ n. n + count_by begins_char bs) (none_more (cond (begins_char b) 1 0))

counted : (b : ℕ) (bs : List ℕ) → begins_char b ≡ true → firsts (b ∷ bs) ≡ suc (firsts bs)
counted b bs e = firsts_cons b bs ∙ ap (λ t. cond t 1 0 + firsts bs) e ∙ one_more (firsts bs)

passed : (b : ℕ) (bs : List ℕ) → begins_char b ≡ false → firsts (b ∷ bs) ≡ firsts bs
passed b bs e = firsts_cons b bs ∙ ap (λ t. cond t 1 0 + firsts bs) e ∙ none_more (firsts bs)

tail : (c : ℕ) (bs : List ℕ) → firsts ((128 + c % 64) ∷ bs) ≡ firsts bs
tail c bs = passed (128 + c % 64) bs (further (128 + c % 64) (omega arith) (omega arith))

counted_char : (c : ℕ) (bs : List ℕ) → Width c → firsts (encode c ++ bs) ≡ suc (firsts bs)
counted_char c bs (one h) = rw (encode_one c h) (counted c bs (first_low c h))
counted_char c bs (two h i) =
    rw (encode_two c h i) (counted (192 + c / 64) ((128 + c % 64) ∷ bs) (first_high (192 + c / 64) (omega arith)) ∙ ap suc (tail c bs))
counted_char c bs (three h i) =
    rw (encode_three c h i) (counted (224 + (c / 64) / 64) ((128 + (c / 64) % 64) ∷ (128 + c % 64) ∷ bs) (first_high (224 + (c / 64) / 64) (omega arith)) ∙ ap suc (tail (c / 64) ((128 + c % 64) ∷ bs) ∙ tail c bs))
counted_char c bs (four h) =
    rw (encode_four c h) (counted (240 + ((c / 64) / 64) / 64) ((128 + ((c / 64) / 64) % 64) ∷ (128 + (c / 64) % 64) ∷ (128 + c % 64) ∷ bs) (first_high (240 + ((c / 64) / 64) / 64) (omega arith)) ∙ ap suc (tail ((c / 64) / 64) ((128 + (c / 64) % 64) ∷ (128 + c % 64) ∷ bs) ∙ tail (c / 64) ((128 + c % 64) ∷ bs) ∙ tail c bs))

counted_all : (cs : List ℕ) → firsts (encode_utf8_all cs) ≡ length cs
unfolding firsts
counted_all [] = refl
counted_all (c ∷ cs) = counted_char c (encode_utf8_all cs) (width c) ∙ ap suc (counted_all cs)

pub counted_chars : (bs : List ℕ) → IsUtf8 bs → count_by begins_char bs ≡ length (chars bs)
unfolding firsts
counted_chars bs u = ap (count_by begins_char) (sym (encodes-chars bs u)) ∙ counted_all (chars bs)

-- ---- cutting behind a count of characters

pub take_front : (xs ys : List ℕ) (n : ℕ) → length xs ≡ n → take n (xs ++ ys) ≡ xs
take_front [] [] zero e = refl
take_front [] (y ∷ ys) zero e = refl
take_front [] ys (suc n) e = absurd (omega arith)
take_front (x ∷ xs) ys zero e = absurd (omega arith)
take_front (x ∷ xs) ys (suc n) e = ap (λ l. x ∷ l) (take_front xs ys n (omega arith))

pub drop_front : (xs ys : List ℕ) (n : ℕ) → length xs ≡ n → drop n (xs ++ ys) ≡ ys
drop_front [] ys zero e = refl
drop_front [] ys (suc n) e = absurd (omega arith)
drop_front (x ∷ xs) ys zero e = absurd (omega arith)
drop_front (x ∷ xs) ys (suc n) e = drop_front xs ys n (omega arith)

boundary : (bs : List ℕ) (place : ℕ) → place < length bs → begins_char (slice_index bs place) ≡ true → IsCharBoundary bs place
boundary bs place l e = (omega arith, λ k h. grind (arith, nat_tests))

pub cut_before : (bs : List ℕ) (n place : ℕ) → IsUtf8 bs → place < length bs → begins_char (slice_index bs place) ≡ true → count_by begins_char (take place bs) ≡ n → IsBehind bs n place
cut_before bs n place u l b e =
    let at : IsCharBoundary bs place = boundary bs place l b in
    let front : IsUtf8 (take place bs) = IsUtf8-take bs place u at in
    let whole : chars bs ≡ chars (take place bs) ++ chars (drop place bs) = ap chars (sym (take-append-drop place bs)) ∙ chars-append (take place bs) (drop place bs) front in
    let size : length (chars (take place bs)) ≡ n = sym (counted_chars (take place bs) front) ∙ e in
    record {
      boundary = at;
      front = sym (ap (take n) whole ∙ take_front (chars (take place bs)) (chars (drop place bs)) n size);
      back = sym (ap (drop n) whole ∙ drop_front (chars (take place bs)) (chars (drop place bs)) n size);
    }

pub cut_end : (bs : List ℕ) (n place : ℕ) → IsUtf8 bs → place ≡ length bs → count_by begins_char (take place bs) ≤ n → IsBehind bs n place
cut_end bs n place u e h =
    let all : take (length bs) bs ≡ bs = take_all (length bs) bs (omega arith) in
    let size : length (chars bs) ≤ n = omega (arith, counted_chars bs u, ap (λ l. count_by begins_char l) (ap (λ m. take m bs) e ∙ all)) in
    rw e (record {
      boundary = IsCharBoundary-end bs;
      front = ap chars all ∙ sym (take_all n (chars bs) size);
      back = ap chars (drop_all (length bs) bs (omega arith)) ∙ chars-nil ∙ sym (drop_all n (chars bs) size);
    })

-- ---- the last character

pub last_char : (bs front : List ℕ) (c : ℕ) → IsUtf8 bs → IsUtf8 front → bs ≡ front ++ encode_utf8 c → chars bs ≡ chars front ++ c ∷ []
last_char bs front c u v e =
    let back : encode_utf8_all (chars front ++ c ∷ []) ≡ front ++ encode_utf8 c = encodes-append (chars front) (c ∷ []) ∙ ap (λ l. l ++ encode_utf8_all (c ∷ [])) (encodes-chars front v) ∙ ap (λ l. front ++ l) (append-nil (encode_utf8 c)) in
    encodes_same (chars bs) (chars front ++ c ∷ []) (encodes-chars bs u ∙ e ∙ sym back)

pub empty_chars : (bs : List ℕ) → length bs ≡ 0 → chars bs ≡ []
empty_chars [] e = chars-nil
empty_chars (b ∷ bs) e = absurd (omega arith)
