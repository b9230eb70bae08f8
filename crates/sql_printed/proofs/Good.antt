-- The symbols of a text are such as stand in a text.
use Rattle.std.proofs.Common.{◌≡◌, ℕ, zero, suc, ◌+◌, ◌-◌, ◌<◌, ◌==◌, ◌&&◌, ◌||◌, nat_lt, nat_le, Bool, true, false, List, [], ◌∷◌, length, take, drop, Option, Some, None, refl, sym, subst, arith, if◌then◌else◌, eqb-true, pos, ◌^◌}
use Rattle.std.specs.List.{prefix_len}
use Rattle.std.specs.Char.{is_ascii_digit}
use Rattle.std.proofs.lemmas.Bool.{ltb-true, leb-true}
use Rattle.std.proofs.lemmas.Bool.Decides.{nat_tests}
use Rattle.sql_decimal.specs.declared.number.Num.TheVariants.{Int, Dec}
use Rattle.sql_decimal.specs.Decimal.{decimal_of, is_decimal, is_64_bit}
use Rattle.sql_decimal.specs.NumberText.{decimal_number, whole_number as whole_value}
use Rattle.sql_decimal.specs.Reading.{number_of, in_whole, in_fraction, fraction_digits, with_digit}
use Rattle.sql_tokens.specs.declared.class.Class.{Class}
use Rattle.sql_tokens.specs.declared.class.Class.TheVariants as k
use Rattle.sql_tokens.specs.TokenForms.{Token, unfit, is_letter, is_word_byte, is_blank, begins, digits, fraction_length, closing, name_by, text_by, single, single_token, punctuation_token, parts_number, number_token, word_by, token_from, is_too_long, exponent_length, length_of}
use Rattle.sql_tokens.specs.Cutting.{cut, cut_behind}
use Rattle.sql_tokens.proofs.QuoteLaws.{closes_there}
use Rattle.sql_grammar.specs.Marks.{is_name, number_or_zero}
use Rattle.sql_printed.proofs.Words.{is_word, all_word, and_left, and_right}
use Rattle.sql_printed.proofs.Names.{GoodToken, NumberFit}
use Rattle.sql_printed.proofs.Again.{AllGood}

-- ---- numbers

-- digits and points
abbrev pub number_bytes : List ℕ → Bool
number_bytes [] = true
number_bytes (b ∷ bs) = (is_ascii_digit b || (b == 46)) && number_bytes bs

fits_zero : NumberFit (Int (pos 0))
fits_zero = omega arith

decimal_fits : (m f : ℕ) → (((f == 0) && is_64_bit (pos m)) ≡ false) → NumberFit (number_or_zero (decimal_number (pos m) f))
decimal_fits m f e =
    let P : Bool → Type 0 = λ t. is_decimal (pos m) f ≡ t → NumberFit (number_or_zero (if t then Some (Dec (decimal_of (pos m) f)) else None)) in
    (elim (is_decimal (pos m) f) as P [
      | true ↦ λ t. record {
        decimal = record { digits = ltb-true m (10 ^ 38) (and_left (nat_lt m (10 ^ 38)) (nat_le f 38) t); scale = leb-true f 38 (and_right (nat_lt m (10 ^ 38)) (nat_le f 38) t) };
        positive = refl;
        reads = rw e refl;
      }
      | false ↦ λ t. fits_zero
    ]) refl

whole_fits : (m : ℕ) → NumberFit (number_or_zero (whole_value false m))
whole_fits m =
    let P : Bool → Type 0 = λ t. is_64_bit (pos m) ≡ t → NumberFit (number_or_zero (if t then Some (Int (pos m)) else decimal_number (pos m) 0)) in
    (elim (is_64_bit (pos m)) as P [
      | true ↦ λ t. let l = ltb-true m (2 ^ 63) t in omega arith
      | false ↦ λ t. decimal_fits m 0 (rw t refl)
    ]) refl

fraction_fits : (m f : ℕ) (cs : List ℕ) → number_bytes cs ≡ true → NumberFit (number_or_zero (in_fraction false m (suc f) cs))
fraction_fits m f [] e = decimal_fits m (suc f) (let z : (suc f == 0) ≡ false = grind (arith, nat_tests) in rw z refl)
fraction_fits m f (c ∷ cs) e =
    let rest : number_bytes cs ≡ true = and_right (is_ascii_digit c || (c == 46)) (number_bytes cs) e in
    let here : (is_ascii_digit c || (c == 46)) ≡ true = and_left (is_ascii_digit c || (c == 46)) (number_bytes cs) e in
    let z : suc f + 1 ≡ suc (suc f) = omega arith in
    by (is_ascii_digit c) refl (fraction_fits (with_digit m c) (suc f) cs rest) here z
  where
    by : (t : Bool) → is_ascii_digit c ≡ t → NumberFit (number_or_zero (in_fraction false (with_digit m c) (suc (suc f)) cs)) → (t || (c == 46)) ≡ true → suc f + 1 ≡ suc (suc f) → NumberFit (number_or_zero (in_fraction false m (suc f) (c ∷ cs)))
    by true t rest here z = rw t (rw z rest)
    by false t rest here z = let i : c ≡ 46 = eqb-true c 46 here in rw i fits_zero

point_fits : (m : ℕ) (cs : List ℕ) → number_bytes cs ≡ true → NumberFit (number_or_zero (fraction_digits false m cs))
point_fits m [] e = fits_zero
point_fits m (c ∷ cs) e =
    let rest : number_bytes cs ≡ true = and_right (is_ascii_digit c || (c == 46)) (number_bytes cs) e in
    by (is_ascii_digit c) refl rest
  where
    by : (t : Bool) → is_ascii_digit c ≡ t → number_bytes cs ≡ true → NumberFit (number_or_zero (fraction_digits false m (c ∷ cs)))
    by true t rest = rw t (fraction_fits (with_digit m c) 0 cs rest)
    by false t rest = rw t fits_zero

whole_bytes_fit : (m : ℕ) (cs : List ℕ) → number_bytes cs ≡ true → NumberFit (number_or_zero (in_whole false m cs))
whole_bytes_fit m [] e = whole_fits m
whole_bytes_fit m (c ∷ cs) e =
    let rest : number_bytes cs ≡ true = and_right (is_ascii_digit c || (c == 46)) (number_bytes cs) e in
    let here : (is_ascii_digit c || (c == 46)) ≡ true = and_left (is_ascii_digit c || (c == 46)) (number_bytes cs) e in
    by (is_ascii_digit c) refl (whole_bytes_fit (with_digit m c) cs rest) (point_fits m cs rest) here
  where
    by : (t : Bool) → is_ascii_digit c ≡ t → NumberFit (number_or_zero (in_whole false (with_digit m c) cs)) → NumberFit (number_or_zero (fraction_digits false m cs)) → (t || (c == 46)) ≡ true → NumberFit (number_or_zero (in_whole false m (c ∷ cs)))
    by true t rest point here = rw t rest
    by false t rest point here = let i : c ≡ 46 = eqb-true c 46 here in rw i point

number_fits : (raw : List ℕ) → number_bytes raw ≡ true → NumberFit (number_or_zero (number_of (48 ∷ raw)))
unfolding number_of
number_fits raw e = whole_bytes_fit 0 raw e

digits_bytes : (bs : List ℕ) → number_bytes (take (digits bs) bs) ≡ true
digits_bytes [] = refl
digits_bytes (b ∷ bs) =
    let P : Bool → Type 0 = λ t. is_ascii_digit b ≡ t → number_bytes (take (if t then 1 + digits bs else 0) (b ∷ bs)) ≡ true in
    let y : 1 + digits bs ≡ suc (digits bs) = omega arith in
    (elim (is_ascii_digit b) as P [ true ↦ λ t. rw (y, t) (digits_bytes bs) | false ↦ λ t. refl ]) refl

point_bytes : (bs : List ℕ) → number_bytes (take (fraction_length bs) bs) ≡ true
point_bytes [] = refl
point_bytes (b ∷ bs) =
    let P : Bool → Type 0 = λ t. (b == 46) ≡ t → number_bytes (take (if t && nat_lt 0 (digits bs) then digits bs + 1 else 0) (b ∷ bs)) ≡ true in
    let Q : Bool → Type 0 = λ t. b ≡ 46 → number_bytes (take (if t then digits bs + 1 else 0) (b ∷ bs)) ≡ true in
    let y : digits bs + 1 ≡ suc (digits bs) = omega arith in
    (elim (b == 46) as P [
      | true ↦ λ t. (elim (nat_lt 0 (digits bs)) as Q [ true ↦ λ i. rw (y, i) (digits_bytes bs) | false ↦ λ i. refl ]) (eqb-true b 46 t)
      | false ↦ λ t. refl
    ]) refl

-- the digits and the point of a number in front
size_bytes : (bs : List ℕ) → number_bytes (take (digits bs + fraction_length (drop (digits bs) bs)) bs) ≡ true
size_bytes [] = refl
size_bytes (b ∷ bs) =
    let P : Bool → Type 0 = λ t. is_ascii_digit b ≡ t → number_bytes (take ((if t then 1 + digits bs else 0) + fraction_length (drop (if t then 1 + digits bs else 0) (b ∷ bs))) (b ∷ bs)) ≡ true in
    let y : 1 + digits bs ≡ suc (digits bs) = omega arith in
    let w : suc (digits bs) + fraction_length (drop (digits bs) bs) ≡ suc (digits bs + fraction_length (drop (digits bs) bs)) = omega arith in
    let z : 0 + fraction_length (b ∷ bs) ≡ fraction_length (b ∷ bs) = omega arith in
    (elim (is_ascii_digit b) as P [
      | true ↦ λ t. rw y (rw w (rw t (size_bytes bs)))
      | false ↦ λ t. subst (λ (n : ℕ). number_bytes (take n (b ∷ bs)) ≡ true) (sym z) (point_bytes (b ∷ bs))
    ]) refl

-- ---- tokens

record IsGood (t : Token) : Type 0 where
  good : GoodToken t

good_by : (t : Bool) (x y : Token) → (t ≡ true → IsGood x) → (t ≡ false → IsGood y) → IsGood (if t then x else y)
good_by true x y f g = f refl
good_by false x y f g = g refl

good_unfit : (bs : List ℕ) → IsGood (unfit bs)
good_unfit bs = record { good = tt }

good_parts : (before rest raw bs : List ℕ) → number_bytes raw ≡ true → IsGood (parts_number before rest raw bs)
good_parts before [] raw bs e = good_by (is_too_long before []) _ _ (λ t. good_unfit bs) (λ t. record { good = number_fits raw e })
good_parts before (p ∷ fraction) raw bs e = good_by (is_too_long before fraction) _ _ (λ t. good_unfit bs) (λ t. record { good = number_fits raw e })

good_number : (bs : List ℕ) → IsGood (number_token bs)
unfolding number_token
good_number bs =
    let size = digits bs + fraction_length (drop (digits bs) bs) in
    good_by (nat_lt 0 (exponent_length (drop size bs))) _ _ (λ t. record { good = tt })
    (λ t. good_by (begins is_letter (drop size bs)) _ _ (λ u. good_unfit bs)
    (λ u. good_parts (take (digits bs) (take size bs)) (drop (digits bs) (take size bs)) (take size bs) bs (size_bytes bs)))

word_taken : (bs : List ℕ) → all_word (take (prefix_len is_word_byte bs) bs) ≡ true
word_taken [] = refl
word_taken (b ∷ bs) =
    let P : Bool → Type 0 = λ t. is_word_byte b ≡ t → all_word (take (if t then 1 + prefix_len is_word_byte bs else 0) (b ∷ bs)) ≡ true in
    let y : 1 + prefix_len is_word_byte bs ≡ suc (prefix_len is_word_byte bs) = omega arith in
    (elim (is_word_byte b) as P [ true ↦ λ t. rw (y, t) (word_taken bs) | false ↦ λ t. refl ]) refl

good_word : (b : ℕ) (bs : List ℕ) → is_letter b ≡ true → IsGood (word_by (prefix_len is_word_byte (b ∷ bs)) (b ∷ bs))
good_word b bs l =
    let P : Bool → Type 0 = λ t. t ≡ true → is_word (take (if t then 1 + prefix_len is_word_byte bs else 0) (b ∷ bs)) ≡ true in
    let y : 1 + prefix_len is_word_byte bs ≡ suc (prefix_len is_word_byte bs) = omega arith in
    let f : is_word_byte b ≡ true = or_true (is_letter b) (is_ascii_digit b) l in
    record { good = (elim (is_word_byte b) as P [ true ↦ λ t. rw y (rw l (word_taken bs)) | false ↦ λ t. cc ]) f }
  where
    or_true : (x y : Bool) → x ≡ true → (x || y) ≡ true
    or_true true y e = refl
    or_true false y e = cc

take_some : (n : ℕ) (bs : List ℕ) → 0 < n → n < length bs → 0 < length (take n bs)
take_some zero bs l m = l
take_some (suc n) [] l m = absurd (omega (arith, m))
take_some (suc n) (b ∷ bs) l m = omega arith

good_name : (o : Option ℕ) (bs : List ℕ) → o ≡ closing 34 bs → IsGood (name_by o bs)
good_name None bs e = good_unfit (34 ∷ bs)
good_name (Some n) bs e =
    let c = closes_there 34 bs (Some n) e in
    good_by (n == 0) _ _ (λ t. good_unfit (34 ∷ bs)) (λ t. let z : 0 < n = grind (arith, nat_tests) in record { good = take_some n bs z c.0 })

record IsNoName (o : Option Class) : Type 0 where
  no : (c : Class) → o ≡ Some c → is_name c ≡ false

no_name_by : (t : Bool) (c : Class) (o : Option Class) → is_name c ≡ false → IsNoName o → IsNoName (if t then Some c else o)
no_name_by true c o e n = record { no = λ x f. let i : c ≡ x = cc in subst (λ y. is_name y ≡ false) i e }
no_name_by false c o e n = n

single_no_name : (b : ℕ) → IsNoName (single b)
single_no_name b =
    no_name_by (b == 40) k.LeftParenthesis _ refl (no_name_by (b == 41) k.RightParenthesis _ refl (no_name_by (b == 44) k.Comma _ refl (no_name_by (b == 46) k.Dot _ refl
    (no_name_by (b == 91) k.LeftBracket _ refl (no_name_by (b == 93) k.RightBracket _ refl (no_name_by (b == 42) k.Star _ refl (no_name_by (b == 43) k.Plus _ refl
    (no_name_by (b == 45) k.Minus _ refl (no_name_by (b == 47) k.Slash _ refl (no_name_by (b == 37) k.Percent _ refl (no_name_by (b == 61) k.Equal _ refl
    (no_name_by (b == 59) k.Semicolon _ refl (record { no = λ c e. absurd (let no : ⊥ = cc in no) })))))))))))))

good_single : (o : Option Class) (b : ℕ) (bs : List ℕ) → IsNoName o → IsGood (single_token o (b ∷ bs))
good_single None b bs n = good_unfit (b ∷ bs)
good_single (Some c) b bs n = record { good = n.no c refl }

good_less : (s t : Bool) → is_name (if s then k.LessOrEqual else (if t then k.NotEqual else k.Less)) ≡ false
good_less true t = refl
good_less false true = refl
good_less false false = refl

good_greater : (s : Bool) → is_name (if s then k.GreaterOrEqual else k.Greater) ≡ false
good_greater true = refl
good_greater false = refl

good_punctuation : (b : ℕ) (bs : List ℕ) → IsGood (punctuation_token b bs)
unfolding punctuation_token
good_punctuation b bs =
    good_by (b == 60) _ _ (λ t. record { good = good_less (begins (λ b. b == 61) bs) (begins (λ b. b == 62) bs) })
    (λ t. good_by (b == 62) _ _ (λ u. record { good = good_greater (begins (λ b. b == 61) bs) })
    (λ u. good_by ((b == 33) && begins (λ c. c == 61) bs) _ _ (λ v. record { good = refl }) (λ v. good_single (single b) b bs (single_no_name b))))

good_text : (o : Option ℕ) (bs : List ℕ) → IsGood (text_by o bs)
good_text None bs = good_unfit (39 ∷ bs)
good_text (Some n) bs = record { good = tt }

good_token : (b : ℕ) (bs : List ℕ) → IsGood (token_from b bs)
unfolding token_from
good_token b bs =
    good_by (is_letter b) _ _ (λ t. good_word b bs t)
    (λ t. good_by (is_ascii_digit b) _ _ (λ u. good_number (b ∷ bs))
    (λ u. good_by ((b == 46) && begins is_ascii_digit bs) _ _ (λ v. good_number (b ∷ bs))
    (λ v. good_by (b == 34) _ _ (λ w. good_name (closing 34 bs) bs refl)
    (λ w. good_by (b == 39) _ _ (λ x. good_text (closing 39 bs) bs) (λ x. good_punctuation b bs)))))

good_behind : (skip at : ℕ) (bs : List ℕ) → AllGood (cut_behind skip at bs)
good_behind skip at [] = tt
good_behind (suc skip) at (b ∷ bs) = good_behind skip (at + 1) bs
good_behind zero at (b ∷ bs) =
    let P : Bool → Type 0 = λ t. AllGood (if t then cut_behind 0 (at + 1) bs else record { at = at; token = token_from b bs } ∷ cut_behind (length_of (token_from b bs) - 1) (at + 1) bs) in
    elim (is_blank b) as P [
      | true ↦ good_behind 0 (at + 1) bs
      | false ↦ ((good_token b bs).good, good_behind (length_of (token_from b bs) - 1) (at + 1) bs)
    ]

-- the symbols of each text
pub good_symbols : (text : List ℕ) → AllGood (cut 0 text)
unfolding cut
good_symbols text = good_behind 0 0 text
