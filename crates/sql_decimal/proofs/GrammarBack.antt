-- Characters to which the function gives a number are a text of the grammar with that number.
use Rattle.std.proofs.Common.{◌≡◌, ℕ, suc, ◌+◌, Bool, true, false, ◌==◌, ◌||◌, if◌then◌else◌, List, [], ◌∷◌, ◌++◌, length, replicate, Option, Some, None, IfSome, MatchOption, refl, ap, sym, ◌∙◌, arith, inl, inr, ◌⊎◌}
use Rattle.std.specs.Char.{is_ascii_digit, digit_value}
use Rattle.std.specs.Str.{all_ascii_digits}
use Rattle.std.specs.Str.Parse.{digits_value, digits_value_after}
use Rattle.std.proofs.lemmas.Map.Views.{exact_unsigned_eq}
use Rattle.sql_decimal.specs.declared.number.Num.{Num}
use Rattle.sql_decimal.specs.Decimal.{signed}
use Rattle.sql_decimal.specs.NumberText.{space, plus_sign, minus_sign, decimal_point, capital_e, small_e, Sign, plus, minus, print_sign, Exponent, print_exponent, print_fraction, IsDigits, is_minus, decimal_number, whole_number, scaled_number, number_from, number_of_text, Spells}
use Rattle.sql_decimal.specs.Reading.{is_mark, with_digit, after_number, in_exponent, exponent_digits, after_mark, in_fraction, fraction_digits, in_whole, whole_digits, number_of}
use Rattle.sql_decimal.proofs.Grammar.{digits_value-first, fixed_from, value_on, value_on-all, number_of-print_number}

-- which side of a choice was taken
taken : {A : Type 0} (t : Bool) (x y z : A) → (if t then x else y) ≡ z → ((t ≡ true) × (x ≡ z)) ⊎ ((t ≡ false) × (y ≡ z))
taken true x y z e = inl (refl, e)
taken false x y z e = inr (refl, e)

-- the list c ∷ cs where both parts are known
cons : (c d : ℕ) (cs ds : List ℕ) → c ≡ d → cs ≡ ds → c ∷ cs ≡ d ∷ ds
cons c d cs ds p q = cc

-- several digits: a first one, and others
digits-first : (d : ℕ) (ds : List ℕ) → is_ascii_digit d ≡ true → all_ascii_digits ds ≡ true → IsDigits (d ∷ ds)
digits-first d ds t all = record { some = omega arith; all = rw t all }

-- ---- spaces

record Blanks (r : Option Num) (cs : List ℕ) (n : Num) : Type 0 where
  count : ℕ
  characters : cs ≡ replicate count space
  number : r ≡ Some n

blanks : (r : Option Num) (cs : List ℕ) (n : Num) → after_number r cs ≡ Some n → Blanks r cs n
blanks r [] n e = record { count = 0; characters = refl; number = e }
blanks r (c ∷ cs) n e =
    elim (taken (c == space) (after_number r cs) None (Some n) e) [
      | inl h ↦ let b = blanks r cs n h.1 in record { count = suc b.count; characters = cons c space cs (replicate b.count space) (exact_unsigned_eq c space h.0) b.characters; number = b.number }
      | inr h ↦ let no : None ≡ Some n = h.1 in cc
    ]

-- ---- the exponent

record ExponentTail (b : Bool) (m f : ℕ) (below : Bool) (e : ℕ) (cs : List ℕ) (n : Num) : Type 0 where
  digits : List ℕ
  all : all_ascii_digits digits ≡ true
  count : ℕ
  characters : cs ≡ digits ++ replicate count space
  number : scaled_number b m f (signed below (digits_value_after 10 e digits)) ≡ Some n

exponent_tail : (b : Bool) (m f : ℕ) (below : Bool) (e : ℕ) (cs : List ℕ) (n : Num) → in_exponent b m f below e cs ≡ Some n → ExponentTail b m f below e cs n
exponent_tail b m f below e [] n h = record { digits = []; all = refl; count = 0; characters = refl; number = h }
exponent_tail b m f below e (c ∷ cs) n h =
    elim (taken (is_ascii_digit c) (in_exponent b m f below (with_digit e c) cs) (after_number (scaled_number b m f (signed below e)) (c ∷ cs)) (Some n) h) [
      | inl p ↦ let t = exponent_tail b m f below (with_digit e c) cs n p.1 in
          record { digits = c ∷ t.digits; all = rw p.0 t.all; count = t.count; characters = ap (λ s. c ∷ s) t.characters; number = t.number }
      | inr p ↦ let t = blanks (scaled_number b m f (signed below e)) (c ∷ cs) n p.1 in
          record { digits = []; all = refl; count = t.count; characters = t.characters; number = t.number }
    ]

record ExponentDigits (b : Bool) (m f : ℕ) (below : Bool) (cs : List ℕ) (n : Num) : Type 0 where
  digits : List ℕ
  valid : IsDigits digits
  count : ℕ
  characters : cs ≡ digits ++ replicate count space
  number : scaled_number b m f (signed below (digits_value 10 digits)) ≡ Some n

exponent_part : (b : Bool) (m f : ℕ) (below : Bool) (cs : List ℕ) (n : Num) → exponent_digits b m f below cs ≡ Some n → ExponentDigits b m f below cs n
exponent_part b m f below [] n h = let no : None ≡ Some n = h in cc
exponent_part b m f below (c ∷ cs) n h =
    elim (taken (is_ascii_digit c) (in_exponent b m f below (digit_value c) cs) None (Some n) h) [
      | inl p ↦ let t = exponent_tail b m f below (digit_value c) cs n p.1 in
          record {
            digits = c ∷ t.digits;
            valid = digits-first c t.digits p.0 t.all;
            count = t.count;
            characters = ap (λ s. c ∷ s) t.characters;
            number = ap (λ v. scaled_number b m f (signed below v)) (sym (digits_value-first c t.digits)) ∙ t.number;
          }
      | inr p ↦ let no : None ≡ Some n = p.1 in cc
    ]

record MarkTail (b : Bool) (m f : ℕ) (cs : List ℕ) (n : Num) : Type 0 where
  sign : Option Sign
  digits : List ℕ
  valid : IsDigits digits
  count : ℕ
  characters : cs ≡ (print_sign sign ++ digits) ++ replicate count space
  number : scaled_number b m f (signed (is_minus sign) (digits_value 10 digits)) ≡ Some n

mark_tail : (b : Bool) (m f : ℕ) (cs : List ℕ) (n : Num) → after_mark b m f cs ≡ Some n → MarkTail b m f cs n
mark_tail b m f [] n h = let no : None ≡ Some n = h in cc
mark_tail b m f (c ∷ cs) n h =
    elim (taken (c == minus_sign) (exponent_digits b m f true cs) (if c == plus_sign then exponent_digits b m f false cs else exponent_digits b m f false (c ∷ cs)) (Some n) h) [
      | inl p ↦ let t = exponent_part b m f true cs n p.1 in
          record { sign = Some minus; digits = t.digits; valid = t.valid; count = t.count; characters = cons c minus_sign cs _ (exact_unsigned_eq c minus_sign p.0) t.characters; number = t.number }
      | inr q ↦
          elim (taken (c == plus_sign) (exponent_digits b m f false cs) (exponent_digits b m f false (c ∷ cs)) (Some n) q.1) [
            | inl p ↦ let t = exponent_part b m f false cs n p.1 in
                record { sign = Some plus; digits = t.digits; valid = t.valid; count = t.count; characters = cons c plus_sign cs _ (exact_unsigned_eq c plus_sign p.0) t.characters; number = t.number }
            | inr p ↦ let t = exponent_part b m f false (c ∷ cs) n p.1 in
                record { sign = None; digits = t.digits; valid = t.valid; count = t.count; characters = t.characters; number = t.number }
          ]
    ]

-- the character of a mark
mark_char : (c : ℕ) → is_mark c ≡ true → (capital : Bool) × (c ≡ (if capital then capital_e else small_e))
mark_char c t = by (c == small_e) (c == capital_e) refl refl t
  where
    by : (x y : Bool) → (c == small_e) ≡ x → (c == capital_e) ≡ y → (x || y) ≡ true → (capital : Bool) × (c ≡ (if capital then capital_e else small_e))
    by true y e f h = (false, exact_unsigned_eq c small_e e)
    by false true e f h = (true, exact_unsigned_eq c capital_e f)
    by false false e f h = grind arith

-- ---- the digits after the point

record FractionTail (b : Bool) (m f : ℕ) (cs : List ℕ) (n : Num) : Type 0 where
  digits : List ℕ
  all : all_ascii_digits digits ≡ true
  exponent : Option Exponent
  valid : IfSome exponent (λ x. IsDigits x.digits)
  count : ℕ
  characters : cs ≡ digits ++ (print_exponent exponent ++ replicate count space)
  number : fixed_from b (digits_value_after 10 m digits) (f + length digits) exponent ≡ Some n

fraction_tail : (b : Bool) (m f : ℕ) (cs : List ℕ) (n : Num) → in_fraction b m f cs ≡ Some n → FractionTail b m f cs n
fraction_tail b m f [] n h = record {
  digits = [];
  all = refl;
  exponent = None;
  valid = tt;
  count = 0;
  characters = refl;
  number = ap (decimal_number (signed b m)) (omega arith) ∙ h;
}
fraction_tail b m f (c ∷ cs) n h =
    elim (taken (is_ascii_digit c) (in_fraction b (with_digit m c) (f + 1) cs) (if is_mark c then after_mark b m f cs else after_number (decimal_number (signed b m) f) (c ∷ cs)) (Some n) h) [
      | inl p ↦ let t = fraction_tail b (with_digit m c) (f + 1) cs n p.1 in
          record {
            digits = c ∷ t.digits;
            all = rw p.0 t.all;
            exponent = t.exponent;
            valid = t.valid;
            count = t.count;
            characters = ap (λ s. c ∷ s) t.characters;
            number = ap (λ k. fixed_from b (digits_value_after 10 (with_digit m c) t.digits) k t.exponent) (omega arith) ∙ t.number;
          }
      | inr q ↦
          elim (taken (is_mark c) (after_mark b m f cs) (after_number (decimal_number (signed b m) f) (c ∷ cs)) (Some n) q.1) [
            | inl p ↦ let t = mark_tail b m f cs n p.1 in let k = mark_char c p.0 in
                record {
                  digits = [];
                  all = refl;
                  exponent = Some (record { capital = k.0; sign = t.sign; digits = t.digits });
                  valid = t.valid;
                  count = t.count;
                  characters = cons c _ cs _ k.1 t.characters;
                  number = ap (λ v. scaled_number b m v (signed (is_minus t.sign) (digits_value 10 t.digits))) (omega arith) ∙ t.number;
                }
            | inr p ↦ let t = blanks (decimal_number (signed b m) f) (c ∷ cs) n p.1 in
                record {
                  digits = [];
                  all = refl;
                  exponent = None;
                  valid = tt;
                  count = t.count;
                  characters = t.characters;
                  number = ap (decimal_number (signed b m)) (omega arith) ∙ t.number;
                }
          ]
    ]

record FractionDigits (b : Bool) (m : ℕ) (cs : List ℕ) (n : Num) : Type 0 where
  digits : List ℕ
  digits_valid : IsDigits digits
  exponent : Option Exponent
  valid : IfSome exponent (λ x. IsDigits x.digits)
  count : ℕ
  characters : cs ≡ digits ++ (print_exponent exponent ++ replicate count space)
  number : fixed_from b (digits_value_after 10 m digits) (length digits) exponent ≡ Some n

fraction_part : (b : Bool) (m : ℕ) (cs : List ℕ) (n : Num) → fraction_digits b m cs ≡ Some n → FractionDigits b m cs n
fraction_part b m [] n h = let no : None ≡ Some n = h in cc
fraction_part b m (c ∷ cs) n h =
    elim (taken (is_ascii_digit c) (in_fraction b (with_digit m c) 1 cs) None (Some n) h) [
      | inl p ↦ let t = fraction_tail b (with_digit m c) 1 cs n p.1 in
          record {
            digits = c ∷ t.digits;
            digits_valid = digits-first c t.digits p.0 t.all;
            exponent = t.exponent;
            valid = t.valid;
            count = t.count;
            characters = ap (λ s. c ∷ s) t.characters;
            number = ap (λ k. fixed_from b (digits_value_after 10 (with_digit m c) t.digits) k t.exponent) (omega arith) ∙ t.number;
          }
      | inr p ↦ let no : None ≡ Some n = p.1 in cc
    ]

-- ---- the digits before the point

record WholeTail (b : Bool) (m : ℕ) (cs : List ℕ) (n : Num) : Type 0 where
  digits : List ℕ
  all : all_ascii_digits digits ≡ true
  fraction : Option (List ℕ)
  fraction_valid : IfSome fraction IsDigits
  exponent : Option Exponent
  valid : IfSome exponent (λ x. IsDigits x.digits)
  count : ℕ
  characters : cs ≡ digits ++ (print_fraction fraction ++ (print_exponent exponent ++ replicate count space))
  number : number_from b (value_on (digits_value_after 10 m digits) fraction) fraction exponent ≡ Some n

-- a fraction and an exponent mean what they mean in the whole
number_from-fixed : (b : Bool) (m : ℕ) (ds : List ℕ) (x : Option Exponent) → number_from b m (Some ds) x ≡ fixed_from b m (length ds) x
number_from-fixed b m ds None = refl
number_from-fixed b m ds (Some x) = refl

-- what may follow the digits before a point: no point, or a point
abbrev after_marked : Bool → ℕ → ℕ → List ℕ → Option Num
after_marked b m d ds = if is_mark d then after_mark b m 0 ds else after_number (whole_number b m) (d ∷ ds)

abbrev after_digits : Bool → ℕ → ℕ → List ℕ → Option Num
after_digits b m d ds = if d == decimal_point then fraction_digits b m ds else after_marked b m d ds

whole_tail : (b : Bool) (m : ℕ) (cs : List ℕ) (n : Num) → in_whole b m cs ≡ Some n → WholeTail b m cs n
whole_tail b m [] n h = record {
  digits = [];
  all = refl;
  fraction = None;
  fraction_valid = tt;
  exponent = None;
  valid = tt;
  count = 0;
  characters = refl;
  number = h;
}
whole_tail b m (c ∷ cs) n h =
    elim (taken (is_ascii_digit c) (in_whole b (with_digit m c) cs) (after_digits b m c cs) (Some n) h) [
      | inl p ↦ let t = whole_tail b (with_digit m c) cs n p.1 in
          record {
            digits = c ∷ t.digits;
            all = rw p.0 t.all;
            fraction = t.fraction;
            fraction_valid = t.fraction_valid;
            exponent = t.exponent;
            valid = t.valid;
            count = t.count;
            characters = ap (λ s. c ∷ s) t.characters;
            number = t.number;
          }
      | inr p ↦ ended c cs p.1
    ]
  where
    marked : (d : ℕ) (ds : List ℕ) → after_marked b m d ds ≡ Some n → WholeTail b m (d ∷ ds) n
    marked d ds e =
        elim (taken (is_mark d) (after_mark b m 0 ds) (after_number (whole_number b m) (d ∷ ds)) (Some n) e) [
          | inl p ↦ let t = mark_tail b m 0 ds n p.1 in let k = mark_char d p.0 in
              record {
                digits = [];
                all = refl;
                fraction = None;
                fraction_valid = tt;
                exponent = Some (record { capital = k.0; sign = t.sign; digits = t.digits });
                valid = t.valid;
                count = t.count;
                characters = cons d _ ds _ k.1 t.characters;
                number = t.number;
              }
          | inr p ↦ let t = blanks (whole_number b m) (d ∷ ds) n p.1 in
              record {
                digits = [];
                all = refl;
                fraction = None;
                fraction_valid = tt;
                exponent = None;
                valid = tt;
                count = t.count;
                characters = t.characters;
                number = t.number;
              }
        ]

    ended : (d : ℕ) (ds : List ℕ) → after_digits b m d ds ≡ Some n → WholeTail b m (d ∷ ds) n
    ended d ds e =
        elim (taken (d == decimal_point) (fraction_digits b m ds) (after_marked b m d ds) (Some n) e) [
          | inl p ↦ let t = fraction_part b m ds n p.1 in
              record {
                digits = [];
                all = refl;
                fraction = Some t.digits;
                fraction_valid = t.digits_valid;
                exponent = t.exponent;
                valid = t.valid;
                count = t.count;
                characters = cons d decimal_point ds _ (exact_unsigned_eq d decimal_point p.0) t.characters;
                number = number_from-fixed b (digits_value_after 10 m t.digits) t.digits t.exponent ∙ t.number;
              }
          | inr p ↦ marked d ds p.1
        ]

record WholeDigits (b : Bool) (cs : List ℕ) (n : Num) : Type 0 where
  digits : List ℕ
  digits_valid : IsDigits digits
  fraction : Option (List ℕ)
  fraction_valid : IfSome fraction IsDigits
  exponent : Option Exponent
  valid : IfSome exponent (λ x. IsDigits x.digits)
  count : ℕ
  characters : cs ≡ digits ++ (print_fraction fraction ++ (print_exponent exponent ++ replicate count space))
  number : number_from b (value_on (digits_value 10 digits) fraction) fraction exponent ≡ Some n

whole_part : (b : Bool) (cs : List ℕ) (n : Num) → whole_digits b cs ≡ Some n → WholeDigits b cs n
whole_part b [] n h = let no : None ≡ Some n = h in cc
whole_part b (c ∷ cs) n h =
    elim (taken (is_ascii_digit c) (in_whole b (digit_value c) cs) None (Some n) h) [
      | inl p ↦ let t = whole_tail b (digit_value c) cs n p.1 in
          record {
            digits = c ∷ t.digits;
            digits_valid = digits-first c t.digits p.0 t.all;
            fraction = t.fraction;
            fraction_valid = t.fraction_valid;
            exponent = t.exponent;
            valid = t.valid;
            count = t.count;
            characters = ap (λ s. c ∷ s) t.characters;
            number = ap (λ v. number_from b (value_on v t.fraction) t.fraction t.exponent) (sym (digits_value-first c t.digits)) ∙ t.number;
          }
      | inr p ↦ let no : None ≡ Some n = p.1 in cc
    ]

-- ---- the whole text

-- a text after no spaces, from its sign and its digits on
text : (sign : Option Sign) (cs : List ℕ) (n : Num) → WholeDigits (is_minus sign) cs n → Spells (print_sign sign ++ cs) n
unfolding number_of_text
text sign cs n t = record {
  text = record { before = 0; sign = sign; whole = t.digits; fraction = t.fraction; exponent = t.exponent; after = t.count };
  valid = record { whole = t.digits_valid; fraction = t.fraction_valid; exponent = t.valid };
  characters = ap (λ s. print_sign sign ++ s) (sym t.characters);
  number = ap (λ v. number_from (is_minus sign) v t.fraction t.exponent) (sym (value_on-all t.digits t.fraction)) ∙ t.number;
}

-- one space more in front
more_space : (cs : List ℕ) (n : Num) → Spells cs n → Spells (space ∷ cs) n
unfolding number_of_text
more_space cs n s = record {
  text = record {
    before = suc s.text.before;
    sign = s.text.sign;
    whole = s.text.whole;
    fraction = s.text.fraction;
    exponent = s.text.exponent;
    after = s.text.after;
  };
  valid = record { whole = s.valid.whole; fraction = s.valid.fraction; exponent = s.valid.exponent };
  characters = ap (λ r. space ∷ r) s.characters;
  number = s.number;
}

-- a text of an equal list
spells-same : (cs ds : List ℕ) (n : Num) → cs ≡ ds → Spells cs n → Spells ds n
spells-same cs ds n e s = record { text = s.text; valid = s.valid; characters = s.characters ∙ e; number = s.number }

-- what may follow the spaces: no minus, or a minus
abbrev after_minus : ℕ → List ℕ → Option Num
after_minus d ds = if d == plus_sign then whole_digits false ds else whole_digits false (d ∷ ds)

abbrev after_space : ℕ → List ℕ → Option Num
after_space d ds = if d == minus_sign then whole_digits true ds else after_minus d ds

pub spells_from_number_of : (cs : List ℕ) (n : Num) → number_of cs ≡ Some n → Spells cs n
unfolding number_of
spells_from_number_of [] n h = let no : None ≡ Some n = h in cc
spells_from_number_of (c ∷ cs) n h =
    elim (taken (c == space) (number_of cs) (after_space c cs) (Some n) h) [
      | inl p ↦ spells-same (space ∷ cs) (c ∷ cs) n (ap (λ x. x ∷ cs) (sym (exact_unsigned_eq c space p.0))) (more_space cs n (spells_from_number_of cs n p.1))
      | inr p ↦ signs c cs p.1
    ]
  where
    pluses : (d : ℕ) (ds : List ℕ) → after_minus d ds ≡ Some n → Spells (d ∷ ds) n
    pluses d ds e =
        elim (taken (d == plus_sign) (whole_digits false ds) (whole_digits false (d ∷ ds)) (Some n) e) [
          | inl p ↦ spells-same (plus_sign ∷ ds) (d ∷ ds) n (ap (λ x. x ∷ ds) (sym (exact_unsigned_eq d plus_sign p.0))) (text (Some plus) ds n (whole_part false ds n p.1))
          | inr p ↦ text None (d ∷ ds) n (whole_part false (d ∷ ds) n p.1)
        ]

    signs : (d : ℕ) (ds : List ℕ) → after_space d ds ≡ Some n → Spells (d ∷ ds) n
    signs d ds e =
        elim (taken (d == minus_sign) (whole_digits true ds) (after_minus d ds) (Some n) e) [
          | inl p ↦ spells-same (minus_sign ∷ ds) (d ∷ ds) n (ap (λ x. x ∷ ds) (sym (exact_unsigned_eq d minus_sign p.0))) (text (Some minus) ds n (whole_part true ds n p.1))
          | inr p ↦ pluses d ds p.1
        ]

-- what the function answers is what the grammar says
pub spells_as_answered : (r : Option Num) (cs : List ℕ) → r ≡ number_of cs → MatchOption r ((n : Num) → ¬ (Spells cs n)) (Spells cs)
spells_as_answered None cs e = λ n s.
    let no : None ≡ Some n = e ∙ ap number_of (sym s.characters) ∙ number_of-print_number s.text s.valid ∙ s.number in
    cc
spells_as_answered (Some n) cs e = spells_from_number_of cs n (sym e)
