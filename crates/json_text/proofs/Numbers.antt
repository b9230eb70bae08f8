-- What may follow in a number, from each place of it.
use Rattle.std.proofs.Common.{◌≡◌, ℕ, ◌⊎◌, inl, inr, true, List, [], ◌∷◌, ◌++◌, refl, sym, ◌∙◌, ap, subst}
use Rattle.json_text.specs.Grammar.{is_nonzero_digit, is_digit, is_e, is_sign, AreDigits, Int, zero_int, nonzero_int, print_int, IsInt, Frac, no_frac, frac, print_frac, IsFrac, Exp, no_exp, unsigned_exp, signed_exp, print_exp, IsExp, Number, unsigned, negative, print_number, IsNumber}
use Rattle.json_text.specs.declared.machine.Digits.{Digits}
use Rattle.json_text.specs.declared.machine.Digits.TheVariants.{AfterMinus, AfterZero, InInt, AfterPoint, InFrac, AfterE, AfterSign, InExp}

-- *DIGIT
pub record DigitsThen (P : List ℕ → Type 0) (ts : List ℕ) : Type 0 where
  pub digits : List ℕ
  pub middle : List ℕ
  pub valid : AreDigits digits
  pub spelled : ts ≡ digits ++ middle
  pub behind : P middle

-- 1*DIGIT
pub record DigitThen (P : List ℕ → Type 0) (ts : List ℕ) : Type 0 where
  pub digit : ℕ
  pub middle : List ℕ
  pub valid : is_digit digit ≡ true
  pub spelled : ts ≡ digit ∷ middle
  pub behind : DigitsThen P middle

pub record ExpThen (rest ts : List ℕ) : Type 0 where
  pub exp : Exp
  pub valid : IsExp exp
  pub spelled : ts ≡ print_exp exp rest

pub record FracThen (rest ts : List ℕ) : Type 0 where
  pub part : Frac
  pub middle : List ℕ
  pub valid : IsFrac part
  pub spelled : ts ≡ print_frac part middle
  pub behind : ExpThen rest middle

pub record IntThen (rest ts : List ℕ) : Type 0 where
  pub int : Int
  pub middle : List ℕ
  pub valid : IsInt int
  pub spelled : ts ≡ print_int int middle
  pub behind : FracThen rest middle

pub record SignThen (rest ts : List ℕ) : Type 0 where
  pub sign : ℕ
  pub middle : List ℕ
  pub valid : is_sign sign ≡ true
  pub spelled : ts ≡ sign ∷ middle
  pub behind : DigitThen (λ m. m ≡ rest) middle

abbrev pub Ends : List ℕ → List ℕ → Type 0
Ends rest ts = ts ≡ rest

abbrev pub BehindE : List ℕ → List ℕ → Type 0
BehindE rest ts = SignThen rest ts ⊎ DigitThen (Ends rest) ts

-- the bytes end the number behind these digits, and `rest` follows it
abbrev pub NumberTail : Digits → List ℕ → List ℕ → Type 0
NumberTail AfterMinus rest ts = IntThen rest ts
NumberTail AfterZero rest ts = FracThen rest ts
NumberTail InInt rest ts = DigitsThen (FracThen rest) ts
NumberTail AfterPoint rest ts = DigitThen (ExpThen rest) ts
NumberTail InFrac rest ts = DigitsThen (ExpThen rest) ts
NumberTail AfterE rest ts = BehindE rest ts
NumberTail AfterSign rest ts = DigitThen (Ends rest) ts
NumberTail InExp rest ts = DigitsThen (Ends rest) ts

pub cons_is : {c d : ℕ} {ts us : List ℕ} → c ≡ d → ts ≡ us → c ∷ ts ≡ d ∷ us
cons_is {c} {d} {ts} {us} p q = ap (λ x. x ∷ ts) p ∙ ap (λ l. d ∷ l) q

-- ---- a byte in front

pub digits_none : {P : List ℕ → Type 0} {ts : List ℕ} → P ts → DigitsThen P ts
digits_none {P} {ts} x = record { digits = []; middle = ts; valid = tt; spelled = refl; behind = x }

module _ {P : List ℕ → Type 0} {c : ℕ} {ts : List ℕ} where
  pub digits_more : is_digit c ≡ true → DigitsThen P ts → DigitsThen P (c ∷ ts)
  digits_more h x = record { digits = c ∷ x.digits; middle = x.middle; valid = (h, x.valid); spelled = ap (λ l. c ∷ l) x.spelled; behind = x.behind }

  pub digit_first : is_digit c ≡ true → DigitsThen P ts → DigitThen P (c ∷ ts)
  digit_first h x = record { digit = c; middle = ts; valid = h; spelled = refl; behind = x }

module _ {rest : List ℕ} {c : ℕ} {ts : List ℕ} where
  pub exp_first : is_e c ≡ true → BehindE rest ts → ExpThen rest (c ∷ ts)
  exp_first h (inl x) = record {
    exp = signed_exp c x.sign x.behind.digit x.behind.behind.digits;
    valid = (h, x.valid, x.behind.valid, x.behind.behind.valid);
    spelled = ap (λ l. c ∷ l) (x.spelled ∙ ap (λ l. x.sign ∷ l) (x.behind.spelled ∙ ap (λ l. x.behind.digit ∷ l) (x.behind.behind.spelled ∙ ap (λ l. x.behind.behind.digits ++ l) x.behind.behind.behind)));
  }
  exp_first h (inr x) = record {
    exp = unsigned_exp c x.digit x.behind.digits;
    valid = (h, x.valid, x.behind.valid);
    spelled = ap (λ l. c ∷ l) (x.spelled ∙ ap (λ l. x.digit ∷ l) (x.behind.spelled ∙ ap (λ l. x.behind.digits ++ l) x.behind.behind));
  }

  pub frac_first : c ≡ 46 → DigitThen (ExpThen rest) ts → FracThen rest (c ∷ ts)
  frac_first h x = record {
    part = frac x.digit x.behind.digits;
    middle = x.behind.middle;
    valid = (x.valid, x.behind.valid);
    spelled = cons_is h (x.spelled ∙ ap (λ l. x.digit ∷ l) x.behind.spelled);
    behind = x.behind.behind;
  }

  pub int_zero : c ≡ 48 → FracThen rest ts → IntThen rest (c ∷ ts)
  int_zero h x = record { int = zero_int; middle = ts; valid = tt; spelled = cons_is h refl; behind = x }

  pub int_nonzero : is_nonzero_digit c ≡ true → DigitsThen (FracThen rest) ts → IntThen rest (c ∷ ts)
  int_nonzero h x = record { int = nonzero_int c x.digits; middle = x.middle; valid = (h, x.valid); spelled = ap (λ l. c ∷ l) x.spelled; behind = x.behind }

  pub sign_first : is_sign c ≡ true → DigitThen (Ends rest) ts → SignThen rest (c ∷ ts)
  sign_first h x = record { sign = c; middle = ts; valid = h; spelled = refl; behind = x }

pub exp_none : (rest : List ℕ) → ExpThen rest rest
exp_none rest = record { exp = no_exp; valid = tt; spelled = refl }

pub frac_none : {rest ts : List ℕ} → ExpThen rest ts → FracThen rest ts
frac_none {rest} {ts} x = record { part = no_frac; middle = ts; valid = tt; spelled = refl; behind = x }

-- ---- the byte in front

module _ {P : List ℕ → Type 0} {c : ℕ} {ts : List ℕ} where
  digits_split : (digits middle : List ℕ) → AreDigits digits → c ∷ ts ≡ digits ++ middle → P middle → ((is_digit c ≡ true) × DigitsThen P ts) ⊎ P (c ∷ ts)
  digits_split [] middle v e x = inr (subst P (sym e) x)
  digits_split (d ∷ ds) middle v e x =
      let is : d ≡ c = cc in
      let same : ts ≡ ds ++ middle = cc in
      inl (subst (λ y. is_digit y ≡ true) is v.0, record { digits = ds; middle = middle; valid = v.1; spelled = same; behind = x })

  pub digits_back : DigitsThen P (c ∷ ts) → ((is_digit c ≡ true) × DigitsThen P ts) ⊎ P (c ∷ ts)
  digits_back x = digits_split x.digits x.middle x.valid x.spelled x.behind

  pub digit_back : DigitThen P (c ∷ ts) → (is_digit c ≡ true) × DigitsThen P ts
  digit_back x =
      let is : x.digit ≡ c = cc (x.spelled) in
      let same : x.middle ≡ ts = cc (x.spelled) in
      (subst (λ y. is_digit y ≡ true) is x.valid, subst (DigitsThen P) same x.behind)

module _ {rest : List ℕ} {c : ℕ} {ts : List ℕ} where
  exp_split : (e : Exp) → IsExp e → c ∷ ts ≡ print_exp e rest → ((is_e c ≡ true) × BehindE rest ts) ⊎ (c ∷ ts ≡ rest)
  exp_split no_exp v h = inr h
  exp_split (unsigned_exp e d ds) v h =
      let is : e ≡ c = cc in
      let same : ts ≡ d ∷ (ds ++ rest) = cc in
      inl (subst (λ y. is_e y ≡ true) is v.0, inr (record { digit = d; middle = ds ++ rest; valid = v.1; spelled = same; behind = record { digits = ds; middle = rest; valid = v.2; spelled = refl; behind = refl } }))
  exp_split (signed_exp e s d ds) v h =
      let is : e ≡ c = cc in
      let same : ts ≡ s ∷ d ∷ (ds ++ rest) = cc in
      inl (
        subst (λ y. is_e y ≡ true) is v.0,
        inl (record {
          sign = s;
          middle = d ∷ (ds ++ rest);
          valid = v.1;
          spelled = same;
          behind =
              record { digit = d; middle = ds ++ rest; valid = v.2; spelled = refl; behind = record { digits = ds; middle = rest; valid = v.3; spelled = refl; behind = refl } };
        }),
      )

  pub exp_back : ExpThen rest (c ∷ ts) → ((is_e c ≡ true) × BehindE rest ts) ⊎ (c ∷ ts ≡ rest)
  exp_back x = exp_split x.exp x.valid x.spelled

  frac_split : (f : Frac) (middle : List ℕ) → IsFrac f → c ∷ ts ≡ print_frac f middle → ExpThen rest middle → ((c ≡ 46) × DigitThen (ExpThen rest) ts) ⊎ ExpThen rest (c ∷ ts)
  frac_split no_frac middle v h x = inr (subst (ExpThen rest) (sym h) x)
  frac_split (frac d ds) middle v h x =
      let is : c ≡ 46 = cc in
      let same : ts ≡ d ∷ (ds ++ middle) = cc in
      inl (is, record { digit = d; middle = ds ++ middle; valid = v.0; spelled = same; behind = record { digits = ds; middle = middle; valid = v.1; spelled = refl; behind = x } })

  pub frac_back : FracThen rest (c ∷ ts) → ((c ≡ 46) × DigitThen (ExpThen rest) ts) ⊎ ExpThen rest (c ∷ ts)
  frac_back x = frac_split x.part x.middle x.valid x.spelled x.behind

  int_split : (i : Int) (middle : List ℕ) → IsInt i → c ∷ ts ≡ print_int i middle → FracThen rest middle → ((c ≡ 48) × FracThen rest ts) ⊎ ((is_nonzero_digit c ≡ true) × DigitsThen (FracThen rest) ts)
  int_split zero_int middle v h x =
      let is : c ≡ 48 = cc in
      let same : middle ≡ ts = cc in
      inl (is, subst (FracThen rest) same x)
  int_split (nonzero_int d ds) middle v h x =
      let is : d ≡ c = cc in
      let same : ts ≡ ds ++ middle = cc in
      inr (subst (λ y. is_nonzero_digit y ≡ true) is v.0, record { digits = ds; middle = middle; valid = v.1; spelled = same; behind = x })

  pub int_back : IntThen rest (c ∷ ts) → ((c ≡ 48) × FracThen rest ts) ⊎ ((is_nonzero_digit c ≡ true) × DigitsThen (FracThen rest) ts)
  int_back x = int_split x.int x.middle x.valid x.spelled x.behind

  pub sign_back : SignThen rest (c ∷ ts) → (is_sign c ≡ true) × DigitThen (Ends rest) ts
  sign_back x =
      let is : x.sign ≡ c = cc (x.spelled) in
      let same : x.middle ≡ ts = cc (x.spelled) in
      (subst (λ y. is_sign y ≡ true) is x.valid, subst (DigitThen (Ends rest)) same x.behind)

-- ---- numbers of the grammar

pub unsigned_number : {rest ts : List ℕ} (x : IntThen rest ts) → (n : Number) × IsNumber n × (ts ≡ print_number n rest)
unsigned_number {rest} {ts} x = (
  unsigned x.int x.behind.part x.behind.behind.exp,
  (x.valid, x.behind.valid, x.behind.behind.valid),
  x.spelled ∙ ap (print_int x.int) (x.behind.spelled ∙ ap (print_frac x.behind.part) x.behind.behind.spelled),
)

pub negative_number : {rest ts : List ℕ} (c : ℕ) → c ≡ 45 → (x : IntThen rest ts) → (n : Number) × IsNumber n × (c ∷ ts ≡ print_number n rest)
negative_number {rest} {ts} c h x = (
  negative x.int x.behind.part x.behind.behind.exp,
  (x.valid, x.behind.valid, x.behind.behind.valid),
  cons_is h (x.spelled ∙ ap (print_int x.int) (x.behind.spelled ∙ ap (print_frac x.behind.part) x.behind.behind.spelled)),
)

pub int_parts : (i : Int) (f : Frac) (e : Exp) (rest : List ℕ) → IsInt i → IsFrac f → IsExp e → IntThen rest (print_int i (print_frac f (print_exp e rest)))
int_parts i f e rest vi vf ve = record {
  int = i;
  middle = print_frac f (print_exp e rest);
  valid = vi;
  spelled = refl;
  behind = record { part = f; middle = print_exp e rest; valid = vf; spelled = refl; behind = record { exp = e; valid = ve; spelled = refl } };
}
