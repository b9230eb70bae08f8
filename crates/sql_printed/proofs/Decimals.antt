-- Printed decimals are one token, and are read as those decimals.
use Rattle.std.proofs.Common.{◌≡◌, ℕ, zero, suc, ◌+◌, ◌-◌, ◌*◌, ◌^◌, ◌/◌, ◌%◌, ◌≤◌, ◌<◌, ◌==◌, Bool, true, false, List, [], ◌∷◌, ◌++◌, length, replicate, Some, refl, sym, ap, ◌∙◌, subst, arith, length-append, if◌then◌else◌, ℤ, pos, negsuc, decimal}
use Rattle.std.specs.Char.{is_ascii_digit, digit_value}
use Rattle.std.specs.Str.{chars, all_ascii_digits}
use Rattle.std.proofs.lemmas.Bool.Decides.{nat_tests}
use Rattle.std.specs.Str.Parse.{digits_value}
use Rattle.std.proofs.lemmas.Fmt.{decimal_is_IsNumeral_wide, length-decimal-le_wide}
use Rattle.std.proofs.lemmas.List.{append-nil, length-replicate}
use Rattle.std.proofs.lemmas.Nat.{div_below, mod_below}
use Rattle.std.proofs.Math.Nat.{div-le_self, pow-le-pow_right}
use Rattle.sql_decimal.specs.Decimal.{Decimal, decimal_of, IsDecimal}
use Rattle.sql_decimal.specs.declared.number.Num.{Num}
use Rattle.sql_decimal.specs.declared.number.Num.TheVariants.{Int, Dec}
use Rattle.sql_decimal.specs.Printing.{padded, digit_zero, printed, fraction_part, read_back}
use Rattle.sql_decimal.specs.Reading.{number_of}
use Rattle.sql_decimal.proofs.Lengths.{length-fraction}
use Rattle.sql_decimal.proofs.PowersOfTen.{pow_split, ten_pow_pos}
use Rattle.sql_decimal.proofs.ReadingBytes.{first_char}
use Rattle.sql_decimal.proofs.PrintedNumbers.{printed_reads_back}
use Rattle.sql_tokens.specs.TokenForms.{Token, significant, is_too_long}
use Rattle.sql_tokens.specs.TokenForms.{word, quoted_name, text_literal, whole_number, point_number, exponent_number, punctuation, unfit, is_letter, class_of, token_from}
use Rattle.sql_tokens.specs.Cutting.{Symbol, cut, is_unfit}
use Rattle.sql_tokens.proofs.CutSteps.{cut_token}
use Rattle.std.proofs.Math.Seq.{drop-append_seam}
use Rattle.std.proofs.lemmas.Map.Views.{exact_unsigned_eq}
use Rattle.std.proofs.Math.Nat.{div-one}
use Rattle.grammar_rules.specs.Rules.{takes, refuses}
use Rattle.sql_grammar.specs.declared.tree.Expr.{Expr}
use Rattle.sql_grammar.specs.declared.tree.Expr.TheVariants as e
use Rattle.sql_grammar.specs.Marks.{class, is_number, number_in, number_or_zero, literal_number}
use Rattle.sql_grammar.specs.Expressions.{room_of, primary_of}
use Rattle.sql_printed.specs.Shown.{number_text}
use Rattle.sql_printed.proofs.Names.{GoodToken, NumberFit, DecimalFit}
use Rattle.sql_printed.proofs.Again.{AllGood, OnePrints}
use Rattle.sql_printed.proofs.Folds.{shown_number}
use Rattle.sql_printed.proofs.Levels.{inner_of, Own}
use Rattle.sql_printed.proofs.Primaries.{fault_verdict, spelled_literal, own-literal}
use Rattle.sql_printed.proofs.Words.{and_left, and_right, if_true, if_false}
use Rattle.sql_printed.proofs.Numbers.{AfterNumber, clear_number, decimal_digits, digit_chars, few, point_token, cut_decimal, digit_no_letter, digit_no_blank, zero_front, front_read, decimal_in, printed_whole}

-- ---- the digits behind the point

zeros_digits : (k : ℕ) (ds : List ℕ) → all_ascii_digits ds ≡ true → all_ascii_digits (replicate k digit_zero ++ ds) ≡ true
zeros_digits zero ds h = h
zeros_digits (suc k) ds h = zeros_digits k ds h

-- of a coefficient n and a scale s
pub record Behind (n s : ℕ) : Type 0 where
  pub long : length (padded s (n % 10 ^ s)) ≡ s
  pub all : all_ascii_digits (padded s (n % 10 ^ s)) ≡ true

pub behind_point : (n s : ℕ) → s ≤ 38 → 0 < s → Behind n s
unfolding padded
behind_point n s h some =
    let m = n % 10 ^ s in
    let below : m < 10 ^ s = mod_below n (10 ^ s) (ten_pow_pos s) in
    let most : 10 ^ s ≤ 10 ^ 38 = pow-le-pow_right {n = 10} (omega arith) {i = s} {j = 38} h in
    let l = length-fraction n s h some in
    let k = s - length (decimal m) in
    let a = length-append (replicate k digit_zero) (decimal m) in
    let r = length-replicate k digit_zero in
    record {
      long = a ∙ omega (arith, r, l);
      all = zeros_digits k (decimal m) (decimal_digits m (omega (arith, below, most))).0;
    }

-- ---- how many digits count

one_zero : (ds : List ℕ) → length ds ≤ 1 → 0 < length ds → all_ascii_digits ds ≡ true → digits_value 10 ds ≡ 0 → ds ≡ 48 ∷ []
one_zero [] l s a v = absurd (omega (arith, s))
one_zero (c ∷ []) l s a v =
    let f : is_ascii_digit c ≡ true = and_left (is_ascii_digit c) true a in
    let w : digit_value c ≡ 0 = omega (arith, v) in
    let z : c ≡ 48 = grind (arith, nat_tests) in
    ap (λ x. x ∷ []) z
one_zero (c ∷ d ∷ ds) l s a v = absurd (omega (arith, l))

decimal_zero : decimal 0 ≡ 48 ∷ []
decimal_zero =
    let n = decimal_is_IsNumeral_wide 0 (omega arith) in
    let d = decimal_digits 0 (omega arith) in
    one_zero (decimal 0) (length-decimal-le_wide 1 0 (omega arith) (omega arith) (omega arith)) d.1 d.0 n.1

-- a whole part that isn't 0
whole_length : (n s : ℕ) → n < 10 ^ 38 → s ≤ 38 → 0 < n / 10 ^ s → length (decimal (n / 10 ^ s)) + s ≤ 38
whole_length n s small h some =
    let split : 10 ^ 38 ≡ 10 ^ (38 - s) * 10 ^ s = pow_split (38 - s) s 38 (omega arith) in
    let below : n / 10 ^ s < 10 ^ (38 - s) = div_below n (10 ^ s) (10 ^ (38 - s)) (ten_pow_pos s) (omega arith) in
    let most : 10 ^ (38 - s) ≤ 10 ^ 38 = pow-le-pow_right {n = 10} (omega arith) {i = 38 - s} {j = 38} (omega arith) in
    let room : 0 < 38 - s = has_room (38 - s) (n / 10 ^ s) below some in
    let l : length (decimal (n / 10 ^ s)) ≤ 38 - s = length-decimal-le_wide (38 - s) (n / 10 ^ s) room below (omega arith) in
    omega arith
  where
    has_room : (k m : ℕ) → m < 10 ^ k → 0 < m → 0 < k
    has_room zero m b e = absurd (omega (arith, b, e))
    has_room (suc k) m b e = omega arith

significant_few : (ds : List ℕ) → significant ds ≤ length ds
significant_few ds = omega arith

-- behind a zero in front
significant_zero : (ds : List ℕ) → significant (48 ∷ ds) ≤ length ds
significant_zero ds = omega arith

not_too_long : (whole fraction : List ℕ) → significant (whole ++ fraction) ≤ 38 → length fraction ≤ 38 → is_too_long whole fraction ≡ false
not_too_long whole fraction a b =
    let s = few (significant (whole ++ fraction)) a in
    let t = few (length fraction) b in
    rw (s, t) refl

pub decimal_short : (n s : ℕ) → n < 10 ^ 38 → s ≤ 38 → 0 < s → is_too_long (decimal (n / 10 ^ s)) (padded s (n % 10 ^ s)) ≡ false
decimal_short n s small h some = by (n / 10 ^ s) refl
  where
    fraction : List ℕ
    fraction = padded s (n % 10 ^ s)

    long : length fraction ≡ s
    long = (behind_point n s h some).long

    by : (q : ℕ) → q ≡ n / 10 ^ s → is_too_long (decimal q) fraction ≡ false
    by zero e =
        let d = decimal_zero in
        let z = significant_zero fraction in
        subst (λ w. is_too_long w fraction ≡ false) (sym d) (not_too_long (48 ∷ []) fraction (omega (arith, z, long, h)) (omega (arith, long, h)))
    by (suc q) e =
        let l = whole_length n s small h (omega (arith, e)) in
        let m : length (decimal (suc q)) + s ≤ 38 = subst (λ x. length (decimal x) + s ≤ 38) (sym e) l in
        let a = length-append (decimal (suc q)) fraction in
        let f = significant_few (decimal (suc q) ++ fraction) in
        not_too_long (decimal (suc q)) fraction (omega (arith, m, a, f, long)) (omega (arith, long, h))

-- ---- one token

cut_point : (ds es rest : List ℕ) (place : ℕ) → all_ascii_digits ds ≡ true → 0 < length ds → all_ascii_digits es ≡ true → 0 < length es → is_too_long ds es ≡ false → AfterNumber rest
    → cut place ((ds ++ 46 ∷ es) ++ rest) ≡ record { at = place; token = point_number (ds ++ 46 ∷ es) } ∷ cut (place + length (ds ++ 46 ∷ es)) rest
unfolding token_from
cut_point [] es rest place a some b more l r = absurd (omega (arith, some))
cut_point (d ∷ ds) es rest place a some b more l r =
    let f : is_ascii_digit d ≡ true = and_left (is_ascii_digit d) (all_ascii_digits ds) a in
    let raw = (d ∷ ds) ++ 46 ∷ es in
    let c = cut_token place d ((ds ++ 46 ∷ es) ++ rest) (digit_no_blank d f) in
    let t : token_from d ((ds ++ 46 ∷ es) ++ rest) ≡ point_number raw = if_false (is_letter d) _ _ (digit_no_letter d f) ∙ (if_true (is_ascii_digit d) _ _ f ∙ point_token (d ∷ ds) es rest a b more l r) in
    rw t at c ∙ ap (λ q. record { at = place; token = point_number raw } ∷ cut (place + length raw) q) (drop-append_seam raw rest)

-- ---- the number that is read

point_chars : (ds es : List ℕ) → all_ascii_digits ds ≡ true → all_ascii_digits es ≡ true → chars (ds ++ 46 ∷ es) ≡ ds ++ 46 ∷ es
point_chars [] es a b = first_char 46 es (omega arith) ∙ ap (λ l. 46 ∷ l) (digit_chars es b)
point_chars (d ∷ ds) es a b =
    let f : is_ascii_digit d ≡ true = and_left (is_ascii_digit d) (all_ascii_digits ds) a in
    let l : d < 128 = grind (arith, nat_tests) in
    first_char d (ds ++ 46 ∷ es) l ∙ ap (λ l. d ∷ l) (point_chars ds es (and_right (is_ascii_digit d) (all_ascii_digits ds) a) b)

point_front : (ds es : List ℕ) → all_ascii_digits ds ≡ true → 0 < length ds → number_of (48 ∷ (ds ++ 46 ∷ es)) ≡ number_of (ds ++ 46 ∷ es)
point_front [] es a l = absurd (omega (arith, l))
point_front (d ∷ ds) es a l = zero_front d (ds ++ 46 ∷ es) (and_left (is_ascii_digit d) (all_ascii_digits ds) a)

-- ---- decimals

-- a decimal's text is one token, whose number is the decimal
record DecimalCut (d : Decimal) (rest : List ℕ) (place : ℕ) : Type 0 where
  token : Token
  next : ℕ
  is : cut place (printed d ++ rest) ≡ record { at = place; token = token } ∷ cut next rest
  spells : number_in token ≡ Dec d
  known : is_number (class_of token) ≡ true
  fit : is_unfit token ≡ false

whole_text : (c s : ℕ) → (s == 0) ≡ true → printed (decimal_of (pos c) s) ≡ decimal c
unfolding printed
whole_text c s e =
    let z : s ≡ 0 = exact_unsigned_eq s 0 e in
    let f : fraction_part (decimal_of (pos c) s) ≡ [] = if_true (s == 0) _ _ e in
    ap (λ l. decimal (c / 10 ^ s) ++ l) f ∙ (append-nil (decimal (c / 10 ^ s)) ∙ (ap (λ x. decimal (c / 10 ^ x)) z ∙ ap decimal (div-one c)))

point_text : (c s : ℕ) → (s == 0) ≡ false → printed (decimal_of (pos c) s) ≡ decimal (c / 10 ^ s) ++ 46 ∷ padded s (c % 10 ^ s)
unfolding printed
point_text c s e = ap (λ l. decimal (c / 10 ^ s) ++ l) (if_false (s == 0) _ _ e)

positive : (s : ℕ) → (s == 0) ≡ false → 0 < s
positive s e = grind (arith, nat_tests)

decimal_cut : (c s : ℕ) (t : Bool) → (s == 0) ≡ t → IsDecimal (decimal_of (pos c) s) → read_back (decimal_of (pos c) s) ≡ Dec (decimal_of (pos c) s) → (rest : List ℕ) (place : ℕ) → AfterNumber rest → DecimalCut (decimal_of (pos c) s) rest place
decimal_cut c s true e h r rest place after =
    let d = decimal_of (pos c) s in
    let w = whole_text c s e in
    let digits = decimal_digits c (let l = h.digits in omega (arith, l)) in
    let back = printed_reads_back d h in
    record {
      token = whole_number (decimal c);
      next = place + length (decimal c);
      is = ap (λ l. cut place (l ++ rest)) w ∙ cut_decimal c rest place h.digits after;
      spells = ap (λ o. number_or_zero o) (front_read (decimal c) digits.0 digits.1 ∙ (sym (ap number_of (ap chars w ∙ digit_chars (decimal c) digits.0)) ∙ (back ∙ ap (λ x. Some x) r)));
      known = refl;
      fit = refl;
    }
decimal_cut c s false e h r rest place after =
    let d = decimal_of (pos c) s in
    let some = positive s e in
    let w = point_text c s e in
    let q = c / 10 ^ s in
    let less : q ≤ c = div-le_self c (10 ^ s) in
    let small : c < 10 ^ 38 = h.digits in
    let digits = decimal_digits q (omega (arith, less, small)) in
    let b = behind_point c s h.scale some in
    let es = padded s (c % 10 ^ s) in
    let l : 0 < length es = let n = b.long in omega (arith, n, some) in
    let raw = decimal q ++ 46 ∷ es in
    let back = printed_reads_back d h in
    record {
      token = point_number raw;
      next = place + length raw;
      is = ap (λ l. cut place (l ++ rest)) w ∙ cut_point (decimal q) es rest place digits.0 digits.1 b.all l (decimal_short c s small h.scale some) after;
      spells = ap (λ o. number_or_zero o) (point_front (decimal q) es digits.0 digits.1 ∙ (sym (ap number_of (ap chars w ∙ point_chars (decimal q) es digits.0 b.all)) ∙ (back ∙ ap (λ x. Some x) r)));
      known = refl;
      fit = refl;
    }

-- ---- literals

decimal_prints : (z : ℤ) (s : ℕ) → DecimalFit (decimal_of z s) → OnePrints (λ s. fault_verdict (if is_number (class s) then takes (e.Number (number_in s.token)) else refuses)) (e.Number (Dec (decimal_of z s))) (printed (decimal_of z s))
decimal_prints (pos m) s f place rest c =
    let o = decimal_cut m s (s == 0) refl f.decimal f.reads rest place (clear_number rest c) in
    record {
      symbol = record { at = place; token = o.token };
      next = o.next;
      is = o.is;
      taken = if_true (is_number (class_of o.token)) _ _ o.known ∙ ap (λ y. takes (e.Number y)) o.spells;
      fit = o.fit;
    }
decimal_prints (negsuc m) s f place rest c = absurd (let x = f.positive in let no : ⊥ = cc in no)

number_prints : (x : Num) → NumberFit x → OnePrints (λ s. fault_verdict (if is_number (class s) then takes (e.Number (number_in s.token)) else refuses)) (e.Number x) (number_text x)
number_prints (Int (pos n)) f place rest c =
    record {
      symbol = record { at = place; token = whole_number (decimal n) };
      next = place + length (decimal n);
      is = ap (λ l. cut place (l ++ rest)) (printed_whole n) ∙ cut_decimal n rest place (omega (arith, f)) (clear_number rest c);
      taken = ap (λ y. takes (e.Number y)) (decimal_in n f);
      fit = refl;
    }
number_prints (Int (negsuc n)) f place rest c = absurd f
number_prints (Dec d) f place rest c = decimal_prints d.coefficient d.scale f place rest c

good_number : (t : Token) → GoodToken t → NumberFit (number_in t)
good_number (word called w) g = omega arith
good_number (quoted_name called raw) g = omega arith
good_number (text_literal raw) g = omega arith
good_number (whole_number raw) g = g
good_number (point_number raw) g = g
good_number (exponent_number raw) g = omega arith
good_number (punctuation c) g = omega arith
good_number (unfit raw) g = omega arith

pub own-number : (d n : ℕ) (p : Expr × ℕ) (ts : List Symbol) → AllGood ts → (primary_of (room_of d) (inner_of d) literal_number n).Spells p ts → Own d n p.1 0 p.0
own-number d n p ts good w =
    let l = spelled_literal is_number (λ s. e.Number (number_in s.token)) n p ts good w in
    let x = number_in l.symbol.token in
    let o : Own d n p.1 0 (e.Number x) = own-literal is_number (λ s. e.Number (number_in s.token)) literal_number d n (e.Number x, p.1) ts (number_text x) l.counts (shown_number x) (number_prints x (good_number l.symbol.token l.good)) (λ f i q us v. v) in
    subst (λ x. Own d n p.1 0 x) l.is o
