-- The tokens of printed numbers.
use Rattle.std.proofs.Common.{◌≡◌, ℕ, ◌+◌, ◌*◌, ◌^◌, ◌/◌, ◌≤◌, ◌<◌, ◌==◌, ◌||◌, nat_lt, true, false, List, [], ◌∷◌, ◌++◌, length, take, drop, Some, refl, sym, ap, ◌∙◌, arith, append_assoc, length-append, pos, decimal}
use Rattle.std.specs.Str.{chars}
use Rattle.std.proofs.lemmas.Str.{chars-nil}
use Rattle.std.proofs.lemmas.Bool.{lt-ltb}
use Rattle.std.proofs.Math.Nat.{div-one}
use Rattle.sql_decimal.specs.declared.number.Num.TheVariants.{Int}
use Rattle.sql_decimal.specs.Decimal.{decimal_of, IsDecimal}
use Rattle.sql_decimal.specs.Printing.{printed, read_back}
use Rattle.sql_decimal.specs.Reading.{number_of, in_whole}
use Rattle.sql_decimal.proofs.ReadingBytes.{first_char}
use Rattle.sql_decimal.proofs.PrintedNumbers.{printed_reads_back}
use Rattle.sql_grammar.specs.Marks.{number_in, number_or_zero}
use Rattle.std.proofs.Math.Seq.{take-append_seam, drop-append_seam}
use Rattle.std.specs.Char.{is_ascii_digit, digit_value}
use Rattle.std.specs.Str.{all_ascii_digits}
use Rattle.std.specs.Str.Parse.{AllDigits}
use Rattle.std.proofs.lemmas.Bool.Decides.{nat_tests}
use Rattle.std.proofs.lemmas.Fmt.{decimal_is_IsNumeral_wide, length-decimal-le_wide}
use Rattle.std.proofs.lemmas.List.{append-nil}
use Rattle.sql_tokens.specs.TokenForms.{whole_number, point_number, begins, digits, fraction_length, exponent_length, significant, is_too_long, parts_number, plain_number, number_by, number_of_size, number_token, is_letter, is_blank, token_from}
use Rattle.sql_tokens.specs.Cutting.{cut}
use Rattle.sql_tokens.proofs.CutSteps.{cut_token}
use Rattle.sql_printed.proofs.Telling.{is_clear, ends_words}
use Rattle.sql_printed.proofs.Words.{and_left, and_right, if_true, if_false}

-- ---- what may stand behind a number

pub record AfterNumber (rest : List ℕ) : Type 0 where
  pub digit : begins is_ascii_digit rest ≡ false
  pub point : begins (λ b. b == 46) rest ≡ false
  pub letter : begins is_letter rest ≡ false

pub clear_number : (rest : List ℕ) → is_clear rest ≡ true → AfterNumber rest
unfolding is_clear
clear_number [] c = record { digit = refl; point = refl; letter = refl }
clear_number (b ∷ rest) c =
    let e : ends_words (b ∷ rest) ≡ true = and_left (ends_words (b ∷ rest)) _ c in
    record { digit = grind (arith, nat_tests); point = grind (arith, nat_tests); letter = grind (arith, nat_tests) }

-- ---- digits

digit_run : (ds rest : List ℕ) → all_ascii_digits ds ≡ true → begins is_ascii_digit rest ≡ false → digits (ds ++ rest) ≡ length ds
digit_run [] [] a e = refl
digit_run [] (r ∷ rest) a e = rw e refl
digit_run (d ∷ ds) rest a e =
    let f : is_ascii_digit d ≡ true = and_left (is_ascii_digit d) (all_ascii_digits ds) a in
    let more = digit_run ds rest (and_right (is_ascii_digit d) (all_ascii_digits ds) a) e in
    rw (f, more) (omega arith)

no_fraction : (rest : List ℕ) → begins (λ b. b == 46) rest ≡ false → fraction_length rest ≡ 0
no_fraction [] e = refl
no_fraction (b ∷ rest) e = rw e refl

no_mark : (b : ℕ) → is_letter b ≡ false → (b == 101 || b == 69) ≡ false
no_mark b e = grind (arith, nat_tests)

no_exponent : (rest : List ℕ) → begins is_letter rest ≡ false → exponent_length rest ≡ 0
no_exponent [] e = refl
no_exponent (b ∷ rest) e = if_false (b == 101 || b == 69) _ _ (no_mark b e)

pub few : (n : ℕ) → n ≤ 38 → nat_lt 38 n ≡ false
few n l = grind (arith, nat_tests)

significant_few : (ds : List ℕ) → significant ds ≤ length ds
significant_few ds = omega arith

whole_short : (ds : List ℕ) → length ds ≤ 38 → is_too_long ds [] ≡ false
whole_short ds l =
    let s : significant (ds ++ []) ≤ length (ds ++ []) = significant_few (ds ++ []) in
    let n : length (ds ++ []) ≡ length ds = ap length (append-nil ds) in
    let a = few (significant (ds ++ [])) (omega arith) in
    rw a refl

by_sizes : (whole size : ℕ) (raw bs : List ℕ) → digits bs ≡ whole → whole + fraction_length (drop whole bs) ≡ size → exponent_length (drop size bs) ≡ 0 → begins is_letter (drop size bs) ≡ false → take size bs ≡ raw
    → number_token bs ≡ plain_number whole raw bs
unfolding number_token
by_sizes whole size raw bs w s x l t =
    ap (λ n. number_of_size n (n + fraction_length (drop n bs)) bs) w
    ∙ (ap (λ n. number_of_size whole n bs) s
    ∙ (ap (λ n. number_by whole size n bs) x
    ∙ (if_false (begins is_letter (drop size bs)) _ _ l ∙ ap (λ r. plain_number whole r bs) t)))

-- digits alone
whole_token : (ds rest : List ℕ) → all_ascii_digits ds ≡ true → length ds ≤ 38 → AfterNumber rest → number_token (ds ++ rest) ≡ whole_number ds
whole_token ds rest a l r =
    let bs = ds ++ rest in
    let d : drop (length ds) bs ≡ rest = drop-append_seam ds rest in
    let f : fraction_length (drop (length ds) bs) ≡ 0 = ap fraction_length d ∙ no_fraction rest r.point in
    let s : length ds + fraction_length (drop (length ds) bs) ≡ length ds = omega (arith, f) in
    let x : exponent_length (drop (length ds) bs) ≡ 0 = ap exponent_length d ∙ no_exponent rest r.letter in
    let y : begins is_letter (drop (length ds) bs) ≡ false = ap (λ q. begins is_letter q) d ∙ r.letter in
    let t : take (length ds) ds ≡ ds = ap (λ q. take (length ds) q) (sym (append-nil ds)) ∙ take-append_seam ds [] in
    let u : drop (length ds) ds ≡ [] = ap (λ q. drop (length ds) q) (sym (append-nil ds)) ∙ drop-append_seam ds [] in
    by_sizes (length ds) (length ds) ds bs (digit_run ds rest a r.digit) s x y (take-append_seam ds rest)
    ∙ (ap (λ q. parts_number q (drop (length ds) ds) ds bs) t ∙ (ap (λ q. parts_number ds q ds bs) u ∙ if_false (is_too_long ds []) _ _ (whole_short ds l)))

some_fraction : (bs : List ℕ) (n : ℕ) → digits bs ≡ n → 0 < n → fraction_length (46 ∷ bs) ≡ n + 1
some_fraction bs n d l =
    let t : nat_lt 0 n ≡ true = lt-ltb 0 n l in
    rw (d, t) refl

-- digits, a point and digits
pub point_token : (ds es rest : List ℕ) → all_ascii_digits ds ≡ true → all_ascii_digits es ≡ true → 0 < length es → is_too_long ds es ≡ false → AfterNumber rest
    → number_token ((ds ++ 46 ∷ es) ++ rest) ≡ point_number (ds ++ 46 ∷ es)
point_token ds es rest a b some l r =
    let raw = ds ++ 46 ∷ es in
    let bs = raw ++ rest in
    let e : bs ≡ ds ++ (46 ∷ (es ++ rest)) = append_assoc ds (46 ∷ es) rest in
    let d : digits bs ≡ length ds = ap (λ q. digits q) e ∙ digit_run ds (46 ∷ (es ++ rest)) a refl in
    let f : drop (length ds) bs ≡ 46 ∷ (es ++ rest) = ap (λ q. drop (length ds) q) e ∙ drop-append_seam ds (46 ∷ (es ++ rest)) in
    let g : fraction_length (drop (length ds) bs) ≡ length es + 1 = ap fraction_length f ∙ some_fraction (es ++ rest) (length es) (digit_run es rest b r.digit) some in
    let s : length ds + fraction_length (drop (length ds) bs) ≡ length raw = let n = length-append ds (46 ∷ es) in omega (arith, g, n) in
    let h : drop (length raw) bs ≡ rest = drop-append_seam raw rest in
    let x : exponent_length (drop (length raw) bs) ≡ 0 = ap exponent_length h ∙ no_exponent rest r.letter in
    let y : begins is_letter (drop (length raw) bs) ≡ false = ap (λ q. begins is_letter q) h ∙ r.letter in
    by_sizes (length ds) (length raw) raw bs d s x y (take-append_seam raw rest)
    ∙ (ap (λ q. parts_number q (drop (length ds) raw) raw bs) (take-append_seam ds (46 ∷ es)) ∙ (ap (λ q. parts_number ds q raw bs) (drop-append_seam ds (46 ∷ es)) ∙ if_false (is_too_long ds es) _ _ l))

-- ---- decimal numerals

ascii_digit : (c : ℕ) → digit_value c < 10 → is_ascii_digit c ≡ true
ascii_digit c h = grind (arith, nat_tests)

ascii_digits : (ds : List ℕ) → AllDigits 10 ds → all_ascii_digits ds ≡ true
ascii_digits [] h = refl
ascii_digits (c ∷ cs) (h, rest) = rw (ascii_digit c h) (ascii_digits cs rest)

pub decimal_digits : (n : ℕ) → n < 10 ^ 64 → (all_ascii_digits (decimal n) ≡ true) × (0 < length (decimal n))
decimal_digits n h = let d = decimal_is_IsNumeral_wide n h in (ascii_digits (decimal n) d.0.1, d.0.0)

pub digit_no_letter : (d : ℕ) → is_ascii_digit d ≡ true → is_letter d ≡ false
digit_no_letter d e = grind (arith, nat_tests)

pub digit_no_blank : (d : ℕ) → is_ascii_digit d ≡ true → is_blank d ≡ false
digit_no_blank d e = grind (arith, nat_tests)

-- digits in a text
pub cut_digits : (ds rest : List ℕ) (place : ℕ) → all_ascii_digits ds ≡ true → 0 < length ds → length ds ≤ 38 → AfterNumber rest
    → cut place (ds ++ rest) ≡ record { at = place; token = whole_number ds } ∷ cut (place + length ds) rest
unfolding token_from
cut_digits [] rest place a some l r = absurd (omega (arith, some))
cut_digits (d ∷ ds) rest place a some l r =
    let f : is_ascii_digit d ≡ true = and_left (is_ascii_digit d) (all_ascii_digits ds) a in
    let c = cut_token place d (ds ++ rest) (digit_no_blank d f) in
    let t : token_from d (ds ++ rest) ≡ whole_number (d ∷ ds) = if_false (is_letter d) _ _ (digit_no_letter d f) ∙ (if_true (is_ascii_digit d) _ _ f ∙ whole_token (d ∷ ds) rest a l r) in
    rw t at c ∙ ap (λ q. record { at = place; token = whole_number (d ∷ ds) } ∷ cut (place + length (d ∷ ds)) q) (drop-append_seam (d ∷ ds) rest)

pub cut_decimal : (n : ℕ) (rest : List ℕ) (place : ℕ) → n < 10 ^ 38 → AfterNumber rest → cut place (decimal n ++ rest) ≡ record { at = place; token = whole_number (decimal n) } ∷ cut (place + length (decimal n)) rest
cut_decimal n rest place l r =
    let d = decimal_digits n (omega arith) in
    cut_digits (decimal n) rest place d.0 d.1 (length-decimal-le_wide 38 n (omega arith) l (omega arith)) r

-- ---- the number that is read

ascii_chars : (bs : List ℕ) → ((b : ℕ) (front back : List ℕ) → bs ≡ front ++ b ∷ back → b < 128) → chars bs ≡ bs
ascii_chars [] low = chars-nil
ascii_chars (b ∷ bs) low = first_char b bs (low b [] bs refl) ∙ ap (λ l. b ∷ l) (ascii_chars bs (λ c front back e. low c (b ∷ front) back (ap (λ l. b ∷ l) e)))

pub digit_chars : (ds : List ℕ) → all_ascii_digits ds ≡ true → chars ds ≡ ds
digit_chars [] a = chars-nil
digit_chars (d ∷ ds) a =
    let f : is_ascii_digit d ≡ true = and_left (is_ascii_digit d) (all_ascii_digits ds) a in
    let l : d < 128 = grind (arith, nat_tests) in
    first_char d ds l ∙ ap (λ l. d ∷ l) (digit_chars ds (and_right (is_ascii_digit d) (all_ascii_digits ds) a))

digit_other : (d x : ℕ) → is_ascii_digit d ≡ true → x < 48 → (d == x) ≡ false
digit_other d x e l = grind (arith, nat_tests)

-- a zero in front changes nothing
pub zero_front : (d : ℕ) (ds : List ℕ) → is_ascii_digit d ≡ true → number_of (48 ∷ d ∷ ds) ≡ number_of (d ∷ ds)
unfolding number_of
zero_front d ds f =
    let z : 0 * 10 + digit_value d ≡ digit_value d = omega arith in
    if_true (is_ascii_digit d) _ _ f ∙ (ap (λ n. in_whole false n ds) z
    ∙ sym (if_false (d == 32) _ _ (digit_other d 32 f (omega arith)) ∙ (if_false (d == 45) _ _ (digit_other d 45 f (omega arith)) ∙ (if_false (d == 43) _ _ (digit_other d 43 f (omega arith)) ∙ if_true (is_ascii_digit d) _ _ f))))

pub printed_whole : (n : ℕ) → printed (decimal_of (pos n) 0) ≡ decimal n
unfolding printed
printed_whole n = append-nil (decimal (n / 10 ^ 0)) ∙ ap decimal (div-one n)

pub front_read : (ds : List ℕ) → all_ascii_digits ds ≡ true → 0 < length ds → number_of (48 ∷ ds) ≡ number_of ds
front_read [] a l = absurd (omega (arith, l))
front_read (d ∷ ds) a l = zero_front d ds (and_left (is_ascii_digit d) (all_ascii_digits ds) a)

-- digits of at most 2^63 - 1 are that Int
pub decimal_in : (n : ℕ) → n < 9223372036854775808 → number_in (whole_number (decimal n)) ≡ Int (pos n)
decimal_in n l =
    let d = decimal_digits n (omega arith) in
    let is : IsDecimal (decimal_of (pos n) 0) = record { digits = omega arith; scale = omega arith } in
    let back = printed_reads_back (decimal_of (pos n) 0) is in
    let t : nat_lt n (2 ^ 63) ≡ true = lt-ltb n (2 ^ 63) l in
    let r : read_back (decimal_of (pos n) 0) ≡ Int (pos n) = if_true (nat_lt n (2 ^ 63)) (Int (pos n)) _ t in
    ap (λ o. number_or_zero o) (front_read (decimal n) d.0 d.1 ∙ (sym (ap number_of (ap chars (printed_whole n) ∙ digit_chars (decimal n) d.0)) ∙ (back ∙ ap (λ x. Some x) r)))
