-- Reading bytes of ASCII is reading characters.
use Rattle.std.proofs.Common.{◌≡◌, ℕ, suc, zero, ◌+◌, ◌-◌, ◌*◌, ◌<◌, ◌≤◌, nat_lt, Bool, true, false, ◌==◌, List, [], ◌∷◌, length, get_or, drop, ◌^◌, ℤ, pos, Option, Some, None, refl, ap, sym, ◌∙◌, arith, inl, inr}
use Rattle.std.specs.Char.{is_ascii_digit, digit_value}
use Rattle.std.specs.Str.{chars}
use Rattle.std.proofs.Math.Seq.{drop-cons, drop-length}
use Rattle.std.proofs.lemmas.Bool.{cases_lt}
use Rattle.std.proofs.lemmas.Bool.Decides.{nat_tests}
use Rattle.std.proofs.lemmas.Map.Views.{exact_unsigned_eq}
use Rattle.std.proofs.lemmas.Str.{chars-nil}
use Rattle.sql_decimal.specs.declared.number.Num.{Num}
use Rattle.sql_decimal.specs.declared.number.Num.TheVariants.{Int}
use Rattle.sql_decimal.specs.Decimal.{is_64_bit, signed}
use Rattle.sql_decimal.specs.NumberText.{space, plus_sign, minus_sign, decimal_point, whole_number}
use Rattle.sql_decimal.specs.Reading.{number_of, whole_digits, in_whole, in_fraction, fraction_digits, after_number, with_digit}
use Rattle.sql_decimal.specs.ReadingBytes.{chars_from, ReadsSpaces, ReadsDigits, EndsBefore}

-- the first character of bytes that begin in ASCII
pub first_char : (b : ℕ) (bs : List ℕ) → b < 128 → chars (b ∷ bs) ≡ b ∷ chars bs
unfolding chars
first_char b [] low = let t : nat_lt b 128 ≡ true = grind (arith, nat_tests) in rw t refl
first_char b (c ∷ bs) low = let t : nat_lt b 128 ≡ true = grind (arith, nat_tests) in rw t refl

-- the character at the place of an ASCII byte
pub char_at : (bs : List ℕ) (i b : ℕ) → i < length bs → get_or bs i 0 ≡ b → b < 128 → chars_from bs i ≡ b ∷ chars_from bs (i + 1)
char_at bs i b within e low =
    let s : i + 1 ≡ suc i = omega arith in
    rw s (ap chars (drop-cons bs i 0 within) ∙ first_char (get_or bs i 0) (drop (suc i) bs) (omega arith) ∙ ap (λ c. c ∷ chars (drop (suc i) bs)) e)

-- none is left at the end
pub chars_at_end : (bs : List ℕ) (i : ℕ) → i ≡ length bs → chars_from bs i ≡ []
chars_at_end bs i e = rw (e, drop-length bs) chars-nil

-- ---- spaces

pub spaces_start : (bs : List ℕ) (i : ℕ) → ReadsSpaces bs i i
spaces_start bs i = record { before = refl; behind = λ n. refl }

pub spaces_more : (bs : List ℕ) (i j : ℕ) → ReadsSpaces bs i j → j < length bs → get_or bs j 0 ≡ space → ReadsSpaces bs i (j + 1)
unfolding number_of
spaces_more bs i j so_far within e =
    let c = char_at bs j space within e (omega arith) in
    record { before = so_far.before ∙ ap number_of c; behind = λ n. so_far.behind n ∙ ap (after_number n) c }

-- where spaces alone are left, a number may end
ends_from : (cs : List ℕ) → ((n : Option Num) → after_number n cs ≡ n) → EndsBefore cs
ends_from [] h = record { whole = λ b m. refl; fraction = λ b m f. refl }
ends_from (c ∷ cs) h = by (c == space) refl
  where
    by : (t : Bool) → (c == space) ≡ t → EndsBefore (c ∷ cs)
    by true e =
        let same : c ≡ space = exact_unsigned_eq c space e in
        record { whole = λ b m. rw same (let k = rw same at h in k _); fraction = λ b m f. rw same (let k = rw same at h in k _) }
    by false e = let no : None ≡ Some (Int (pos 0)) = rw e at h (Some (Int (pos 0))) in cc

pub ends_at : (bs : List ℕ) (i j : ℕ) → ReadsSpaces bs i j → j ≡ length bs → EndsBefore (chars_from bs i)
ends_at bs i j spaces e = ends_from (chars_from bs i) (λ n. spaces.behind n ∙ ap (after_number n) (chars_at_end bs j e))

-- ---- digits

pub digits_start : (bs : List ℕ) (i m : ℕ) → ReadsDigits bs i m i m
digits_start bs i m = record {
  first = λ h. absurd (omega arith);
  whole = λ b. refl;
  fraction = λ b f. let e : f + (i - i) ≡ f = omega arith in rw e refl;
}

-- the byte of a digit
digit_at : (bs : List ℕ) (i : ℕ) → i < length bs → is_ascii_digit (get_or bs i 0) ≡ true → chars_from bs i ≡ get_or bs i 0 ∷ chars_from bs (i + 1)
digit_at bs i within t = char_at bs i (get_or bs i 0) within refl (grind (arith, nat_tests))

pub digits_more : (bs : List ℕ) (i m j n v : ℕ) → ReadsDigits bs i m j n → i ≤ j → j < length bs → is_ascii_digit (get_or bs j 0) ≡ true
    → v ≡ with_digit n (get_or bs j 0) → ReadsDigits bs i m (j + 1) v
digits_more bs i m j n v so_far order within t e =
    let c = digit_at bs j within t in
    record {
      first = λ h. elim (cases_lt i j) [ inl less ↦ so_far.first less | inr more ↦ let s : i ≡ j = omega arith in rw s t ];
      whole = λ b. so_far.whole b ∙ ap (in_whole b n) c ∙ rw (t, e) refl;
      fraction = λ b f.
          let k : f + (j + 1 - i) ≡ f + (j - i) + 1 = omega arith in
          so_far.fraction b f ∙ ap (in_fraction b n (f + (j - i))) c ∙ rw (t, e, k) refl;
    }

-- a digit more, as the code computes it
pub pushed_digit : (n d v : ℕ) → is_ascii_digit d ≡ true → v ≡ d - 48 → n * 10 + v ≡ with_digit n d
pushed_digit n d v t e = grind (arith, nat_tests)

pub digit_high : (d : ℕ) → is_ascii_digit d ≡ true → d ≤ 57
digit_high d t = grind (arith, nat_tests)

-- digits where the first one must stand
pub digits_first : (bs : List ℕ) (i j n : ℕ) (b : Bool) → ReadsDigits bs i 0 j n → i < j → i < length bs
    → whole_digits b (chars_from bs i) ≡ in_whole b n (chars_from bs j)
digits_first bs i j n b digits some within =
    let t = digits.first some in
    let c = digit_at bs i within t in
    let z : with_digit 0 (get_or bs i 0) ≡ digit_value (get_or bs i 0) = omega arith in
    let one : whole_digits b (get_or bs i 0 ∷ chars_from bs (i + 1)) ≡ in_whole b 0 (get_or bs i 0 ∷ chars_from bs (i + 1)) = rw (t, z) refl in
    ap (whole_digits b) c ∙ one ∙ ap (in_whole b 0) (sym c) ∙ digits.whole b

-- digits behind a point
pub digits_after_point : (bs : List ℕ) (p j m n : ℕ) (b : Bool) → ReadsDigits bs (p + 1) m j n → p + 1 < j → j ≤ length bs → get_or bs p 0 ≡ decimal_point
    → in_whole b m (chars_from bs p) ≡ in_fraction b n (j - (p + 1)) (chars_from bs j)
digits_after_point bs p j m n b digits some within point =
    let t = digits.first some in
    let c = digit_at bs (p + 1) (omega arith) t in
    let k : 0 + (j - (p + 1)) ≡ j - (p + 1) = omega arith in
    let one : fraction_digits b m (get_or bs (p + 1) 0 ∷ chars_from bs (p + 1 + 1)) ≡ in_fraction b m 0 (get_or bs (p + 1) 0 ∷ chars_from bs (p + 1 + 1)) = rw t refl in
    ap (in_whole b m) (char_at bs p decimal_point (omega arith) point (omega arith))
    ∙ ap (fraction_digits b m) c ∙ one ∙ ap (in_fraction b m 0) (sym c) ∙ digits.fraction b 0 ∙ ap (λ f. in_fraction b n f (chars_from bs j)) k

-- ---- the sign

pub minus_at : (bs : List ℕ) (i : ℕ) → i < length bs → get_or bs i 0 ≡ minus_sign → number_of (chars_from bs i) ≡ whole_digits true (chars_from bs (i + 1))
unfolding number_of
minus_at bs i within e = ap number_of (char_at bs i minus_sign within e (omega arith))

pub plus_at : (bs : List ℕ) (i : ℕ) → i < length bs → get_or bs i 0 ≡ plus_sign → number_of (chars_from bs i) ≡ whole_digits false (chars_from bs (i + 1))
unfolding number_of
plus_at bs i within e = ap number_of (char_at bs i plus_sign within e (omega arith))

-- what begins with a digit begins with no sign
pub unsigned_number : (cs : List ℕ) (n : Num) → whole_digits false cs ≡ Some n → number_of cs ≡ Some n
unfolding number_of
unsigned_number [] n h = let no : None ≡ Some n = h in cc
unsigned_number (c ∷ cs) n h = by (is_ascii_digit c) refl
  where
    by : (t : Bool) → is_ascii_digit c ≡ t → number_of (c ∷ cs) ≡ Some n
    by true e =
        let low : 48 ≤ c = grind (arith, nat_tests) in
        let s : (c == space) ≡ false = grind (arith, nat_tests) in
        let m : (c == minus_sign) ≡ false = grind (arith, nat_tests) in
        let p : (c == plus_sign) ≡ false = grind (arith, nat_tests) in
        rw (s, m, p) h
    by false e = let no : None ≡ Some n = rw e at h in cc

-- ---- a whole number of at most 18 digits

short_fits : (b : Bool) (m : ℕ) → m < 10 ^ 18 → is_64_bit (signed b m) ≡ true
short_fits true zero h = refl
short_fits true (suc m) h = grind (arith, nat_tests)
short_fits false m h = grind (arith, nat_tests)

pub whole_number-short : (b : Bool) (m : ℕ) (z : ℤ) → m < 10 ^ 18 → z ≡ signed b m → Some (Int z) ≡ whole_number b m
whole_number-short b m z h e = rw (e, short_fits b m h) refl
