-- What is printed is read as the same number.
use Rattle.std.proofs.Common.{◌≡◌, ℕ, suc, zero, ◌+◌, ◌-◌, ◌*◌, ◌/◌, ◌%◌, ◌^◌, ◌<◌, ◌≤◌, ℤ, pos, negsuc, unsigned_abs, Bool, true, false, ◌==◌, if◌then◌else◌, List, [], ◌∷◌, ◌++◌, length, replicate, length-append, append_assoc, Option, Some, None, refl, ap, sym, ◌∙◌, arith}
use Rattle.std.specs.Char.{is_ascii_digit, digit_value}
use Rattle.std.specs.Fmt.{decimal}
use Rattle.std.specs.Str.{all_ascii_digits, chars}
use Rattle.std.specs.Str.Parse.{AllDigits, digits_value, digits_value_after}
use Rattle.std.proofs.Math.Nat.{mul_assoc, add-mul, pow-succ', div-one, div-le_self, pow-le-pow_right}
use Rattle.std.proofs.lemmas.Bool.Decides.{nat_tests}
use Rattle.std.proofs.lemmas.Fmt.{decimal_is_IsNumeral_wide}
use Rattle.std.proofs.lemmas.List.{append-nil, length-replicate}
use Rattle.std.proofs.lemmas.Map.Views.{exact_unsigned_eq}
use Rattle.std.proofs.lemmas.Nat.{div-add-mod', mod_below}
use Rattle.std.proofs.lemmas.Str.{chars-nil}
use Rattle.sql_decimal.specs.declared.number.Num.TheVariants.{Int, Dec}
use Rattle.sql_decimal.specs.Decimal.{Decimal, decimal_of, IsDecimal, is_64_bit, is_negative, signed}
use Rattle.sql_decimal.specs.NumberText.{Sign, minus, minus_sign, decimal_point, print_sign, NumberText, print_number, print_fraction, IsDigits, IsNumberText, is_minus, whole_number, decimal_number, number_of_text}
use Rattle.sql_decimal.specs.Printing.{digit_zero, padded, sign_of, whole_part, fraction_part, printed, read_back}
use Rattle.sql_decimal.specs.Reading.{number_of}
use Rattle.sql_decimal.specs.Words.{signed_parts}
use Rattle.sql_decimal.proofs.Grammar.{both, digits_value_after-append, number_of-print_number}
use Rattle.sql_decimal.proofs.Lengths.{length-fraction}
use Rattle.sql_decimal.proofs.PowersOfTen.{ten_pow_pos}
use Rattle.sql_decimal.proofs.ReadingBytes.{first_char, digit_high}
use Rattle.sql_decimal.proofs.ShortPairs.{few_digits}

-- ---- digits

ascii_digit : (c : ℕ) → digit_value c < 10 → is_ascii_digit c ≡ true
ascii_digit c h = grind (arith, nat_tests)

ascii_digits : (ds : List ℕ) → AllDigits 10 ds → all_ascii_digits ds ≡ true
ascii_digits [] h = refl
ascii_digits (c ∷ cs) (h, rest) = rw (ascii_digit c h) (ascii_digits cs rest)

decimal_digits : (n : ℕ) → n < 10 ^ 64 → IsDigits (decimal n)
decimal_digits n h = let d = decimal_is_IsNumeral_wide n h in record { some = d.0.0; all = ascii_digits (decimal n) d.0.1 }

-- zeros in front
zeros_digits : (k : ℕ) (ds : List ℕ) → all_ascii_digits ds ≡ true → all_ascii_digits (replicate k digit_zero ++ ds) ≡ true
zeros_digits zero ds h = h
zeros_digits (suc k) ds h = zeros_digits k ds h

zeros_value : (k : ℕ) (ds : List ℕ) → digits_value 10 (replicate k digit_zero ++ ds) ≡ digits_value 10 ds
zeros_value zero ds = refl
zeros_value (suc k) ds = zeros_value k ds

-- digits that follow those of n
value_after : (n : ℕ) (ds : List ℕ) → digits_value_after 10 n ds ≡ n * 10 ^ length ds + digits_value 10 ds
value_after n [] = omega arith
value_after n (c ∷ cs) =
    let v = digit_value c in
    let p = 10 ^ length cs in
    let rest : digits_value_after 10 v cs ≡ v * p + digits_value 10 cs = value_after v cs in
    let first : digits_value 10 (c ∷ cs) ≡ digits_value_after 10 v cs = ap (λ m. digits_value_after 10 m cs) (omega arith) in
    let power : 10 ^ suc (length cs) ≡ 10 * p = pow-succ' 10 (length cs) in
    let all : digits_value_after 10 (n * 10 + v) cs ≡ (n * 10 + v) * p + digits_value 10 cs = value_after (n * 10 + v) cs in
    let product : (n * 10 + v) * p ≡ n * (10 * p) + v * p = spread n v p in
    all ∙ rw (power, first, rest) (omega (arith, product))
  where
    spread : (n v p : ℕ) → (n * 10 + v) * p ≡ n * (10 * p) + v * p
    spread n v p = add-mul (n * 10) v p ∙ ap (λ m. m + v * p) (mul_assoc n 10 p)

-- digits are their own characters
chars_digits : (ds rest : List ℕ) → all_ascii_digits ds ≡ true → chars (ds ++ rest) ≡ ds ++ chars rest
chars_digits [] rest h = refl
chars_digits (c ∷ cs) rest h =
    let b = both (is_ascii_digit c) (all_ascii_digits cs) h in
    let high : c ≤ 57 = digit_high c b.0 in
    first_char c (cs ++ rest) (omega arith) ∙ ap (λ s. c ∷ s) (chars_digits cs rest b.1)

all_chars : (ds : List ℕ) → all_ascii_digits ds ≡ true → chars ds ≡ ds
all_chars ds h = ap chars (sym (append-nil ds)) ∙ chars_digits ds [] h ∙ ap (λ s. ds ++ s) chars-nil ∙ append-nil ds

-- ---- the text that is printed

abbrev sign_text : ℤ → Option Sign
sign_text (pos n) = None
sign_text (negsuc n) = Some minus

-- its fraction, where the scale is not 0
abbrev fraction_text : Bool → Decimal → Option (List ℕ)
fraction_text true d = None
fraction_text false d = Some (padded d.scale (unsigned_abs d.coefficient % 10 ^ d.scale))

abbrev text_of : Bool → Decimal → NumberText
text_of t d = record { before = 0; sign = sign_text d.coefficient; whole = whole_part d; fraction = fraction_text t d; exponent = None; after = 0 }

sign_text-is : (c : ℤ) → print_sign (sign_text c) ≡ sign_of c
sign_text-is (pos n) = refl
sign_text-is (negsuc n) = refl

is_minus-sign : (c : ℤ) → is_minus (sign_text c) ≡ is_negative c
is_minus-sign (pos n) = refl
is_minus-sign (negsuc n) = refl

fraction_text-is : (t : Bool) (d : Decimal) → (d.scale == 0) ≡ t → print_fraction (fraction_text t d) ≡ fraction_part d
fraction_text-is true d e = rw e refl
fraction_text-is false d e = rw e refl

text_of-is : (t : Bool) (d : Decimal) → (d.scale == 0) ≡ t → print_number (text_of t d) ≡ printed d
unfolding printed
text_of-is t d e =
    ap (λ s. s ++ (whole_part d ++ (print_fraction (fraction_text t d) ++ []))) (sign_text-is d.coefficient)
    ∙ ap (λ s. sign_of d.coefficient ++ (whole_part d ++ s)) (append-nil (print_fraction (fraction_text t d)) ∙ fraction_text-is t d e)
    ∙ sym (append_assoc (sign_of d.coefficient) (whole_part d) (fraction_part d))

-- ---- its digits

whole_digits' : (d : Decimal) → IsDecimal d → IsDigits (whole_part d)
whole_digits' d h =
    let split = div-add-mod' (unsigned_abs d.coefficient) (10 ^ d.scale) in
    let less : unsigned_abs d.coefficient / 10 ^ d.scale ≤ unsigned_abs d.coefficient = div-le_self (unsigned_abs d.coefficient) (10 ^ d.scale) in
    decimal_digits (unsigned_abs d.coefficient / 10 ^ d.scale) (omega (arith, less, h.digits))

rest_below : (d : Decimal) → unsigned_abs d.coefficient % 10 ^ d.scale < 10 ^ d.scale
rest_below d = mod_below (unsigned_abs d.coefficient) (10 ^ d.scale) (ten_pow_pos d.scale)

rest_small : (d : Decimal) → IsDecimal d → unsigned_abs d.coefficient % 10 ^ d.scale < 10 ^ 64
rest_small d h = omega (arith, rest_below d, pow-le-pow_right {n = 10} (omega arith) {i = d.scale} {j = 38} h.scale)

length-padded : (w n : ℕ) → length (decimal n) ≤ w → length (padded w n) ≡ w
unfolding padded
length-padded w n h = length-append (replicate (w - length (decimal n)) digit_zero) (decimal n) ∙ omega (arith, length-replicate (w - length (decimal n)) digit_zero)

fraction_digits' : (d : Decimal) → IsDecimal d → 0 < d.scale → IsDigits (padded d.scale (unsigned_abs d.coefficient % 10 ^ d.scale))
unfolding padded
fraction_digits' d h some =
    let n = unsigned_abs d.coefficient % 10 ^ d.scale in
    let own = decimal_digits n (rest_small d h) in
    let l = length-padded d.scale n (length-fraction (unsigned_abs d.coefficient) d.scale h.scale some) in
    record { some = omega (arith, l, some); all = zeros_digits (d.scale - length (decimal n)) (decimal n) own.all }

positive : (s : ℕ) → (s == 0) ≡ false → 0 < s
positive s e = grind (arith, nat_tests)

text_valid : (t : Bool) (d : Decimal) → IsDecimal d → (d.scale == 0) ≡ t → IsNumberText (text_of t d)
text_valid true d h e = record { whole = whole_digits' d h; fraction = tt; exponent = tt }
text_valid false d h e = record { whole = whole_digits' d h; fraction = fraction_digits' d h (positive d.scale e); exponent = tt }

-- ---- its number

int_or_decimal : (c : ℤ) → unsigned_abs c < 10 ^ 38 → whole_number (is_negative c) (unsigned_abs c) ≡ Some (if is_64_bit c then Int c else Dec (decimal_of c 0))
int_or_decimal c h = rw (signed_parts c) (by (is_64_bit c))
  where
    by : (t : Bool) → (if t then Some (Int c) else decimal_number c 0) ≡ Some (if t then Int c else Dec (decimal_of c 0))
    by true = refl
    by false = rw (few_digits c 0 h (omega arith)) refl

whole_value : (d : Decimal) → IsDecimal d → digits_value 10 (whole_part d) ≡ unsigned_abs d.coefficient / 10 ^ d.scale
whole_value d h =
    let less : unsigned_abs d.coefficient / 10 ^ d.scale ≤ unsigned_abs d.coefficient = div-le_self (unsigned_abs d.coefficient) (10 ^ d.scale) in
    (decimal_is_IsNumeral_wide (unsigned_abs d.coefficient / 10 ^ d.scale) (omega (arith, less, h.digits))).1

-- all digits without the point
all_value : (d : Decimal) → IsDecimal d → 0 < d.scale
    → digits_value 10 (whole_part d ++ padded d.scale (unsigned_abs d.coefficient % 10 ^ d.scale)) ≡ unsigned_abs d.coefficient
unfolding padded
all_value d h some =
    let c = unsigned_abs d.coefficient in
    let n = c % 10 ^ d.scale in
    let k = d.scale - length (decimal n) in
    let l = length-padded d.scale n (length-fraction c d.scale h.scale some) in
    digits_value_after-append 0 (whole_part d) (padded d.scale n)
    ∙ ap (λ m. digits_value_after 10 m (padded d.scale n)) (whole_value d h)
    ∙ value_after (c / 10 ^ d.scale) (padded d.scale n)
    ∙ ap (λ j. c / 10 ^ d.scale * 10 ^ j + digits_value 10 (padded d.scale n)) l
    ∙ ap (λ m. c / 10 ^ d.scale * 10 ^ d.scale + m) (zeros_value k (decimal n) ∙ (decimal_is_IsNumeral_wide n (rest_small d h)).1)
    ∙ div-add-mod' c (10 ^ d.scale)

text_number : (t : Bool) (d : Decimal) → IsDecimal d → (d.scale == 0) ≡ t → number_of_text (text_of t d) ≡ Some (read_back d)
unfolding number_of_text
text_number true d h e =
    let zero_scale : d.scale ≡ 0 = exact_unsigned_eq d.scale 0 e in
    let value : digits_value 10 (whole_part d) ≡ unsigned_abs d.coefficient =
    whole_value d h ∙ ap (λ s. unsigned_abs d.coefficient / 10 ^ s) zero_scale ∙ div-one (unsigned_abs d.coefficient) in
    let same : decimal_of d.coefficient 0 ≡ d = ap (decimal_of d.coefficient) (sym zero_scale) in
    ap (λ b. whole_number b (digits_value 10 (whole_part d))) (is_minus-sign d.coefficient)
    ∙ ap (whole_number (is_negative d.coefficient)) value
    ∙ int_or_decimal d.coefficient h.digits
    ∙ rw e (ap (λ x. Some (if is_64_bit d.coefficient then Int d.coefficient else Dec x)) same)
text_number false d h e =
    let some = positive d.scale e in
    let n = unsigned_abs d.coefficient % 10 ^ d.scale in
    let l = length-padded d.scale n (length-fraction (unsigned_abs d.coefficient) d.scale h.scale some) in
    ap (λ b. decimal_number (signed b (digits_value 10 (whole_part d ++ padded d.scale n))) (length (padded d.scale n))) (is_minus-sign d.coefficient)
    ∙ ap (λ m. decimal_number (signed (is_negative d.coefficient) m) (length (padded d.scale n))) (all_value d h some)
    ∙ ap (λ c. decimal_number c (length (padded d.scale n))) (signed_parts d.coefficient)
    ∙ ap (decimal_number d.coefficient) l
    ∙ rw (few_digits d.coefficient d.scale h.digits h.scale, e) refl

-- ---- its characters

chars_fraction : (t : Bool) (d : Decimal) → IsDecimal d → (d.scale == 0) ≡ t → chars (fraction_part d) ≡ fraction_part d
chars_fraction true d h e = rw e chars-nil
chars_fraction false d h e =
    let digits = padded d.scale (unsigned_abs d.coefficient % 10 ^ d.scale) in
    rw e (first_char decimal_point digits (omega arith) ∙ ap (λ s. decimal_point ∷ s) (all_chars digits (fraction_digits' d h (positive d.scale e)).all))

chars_printed : (t : Bool) (d : Decimal) → IsDecimal d → (d.scale == 0) ≡ t → chars (printed d) ≡ printed d
unfolding printed
chars_printed t d h e = ap chars parts ∙ by d.coefficient ∙ sym parts
  where
    parts : sign_of d.coefficient ++ whole_part d ++ fraction_part d ≡ sign_of d.coefficient ++ (whole_part d ++ fraction_part d)
    parts = append_assoc (sign_of d.coefficient) (whole_part d) (fraction_part d)

    body : chars (whole_part d ++ fraction_part d) ≡ whole_part d ++ fraction_part d
    body = chars_digits (whole_part d) (fraction_part d) (whole_digits' d h).all ∙ ap (λ s. whole_part d ++ s) (chars_fraction t d h e)

    by : (c : ℤ) → chars (sign_of c ++ (whole_part d ++ fraction_part d)) ≡ sign_of c ++ (whole_part d ++ fraction_part d)
    by (pos n) = body
    by (negsuc n) = first_char minus_sign (whole_part d ++ fraction_part d) (omega arith) ∙ ap (λ s. minus_sign ∷ s) body

pub printed_reads_back : (d : Decimal) → IsDecimal d → number_of (chars (printed d)) ≡ Some (read_back d)
printed_reads_back d h =
    let t = d.scale == 0 in
    ap number_of (chars_printed t d h refl ∙ sym (text_of-is t d refl))
    ∙ number_of-print_number (text_of t d) (text_valid t d h refl)
    ∙ text_number t d h refl
