-- A byte more: what follows it is what the reader's step says.
use Rattle.std.proofs.Common.{◌≡◌, ℕ, suc, ◌<◌, ◌⊎◌, inl, inr, Bool, true, false, cond, ◌==◌, List, [], ◌∷◌, ◌++◌, length, Option, None, Some, refl, sym, ◌∙◌, ap, subst}
use Rattle.json_text.specs.Grammar.{Json, null, truth, number, string, empty_array, array, empty_object, object, element, Elements, no_elements, more_elements, member, Members, no_members, more_members, Number, unsigned, negative, print_number, IsNumber, print, print_elements, print_members, IsValue, AreElements, AreMembers, AreBlanks, IsInside, is_blank, is_sign, is_digit}
use Rattle.json_text.specs.Machine.{class, step, around_of, behind_close, after_move, value_move, first_element_move, name_move, first_name_move, colon_move, number_move, word_move, letter_move, text_move, in_name_move, to_text, to_name, part_next, closes}
use Rattle.json_text.specs.declared.bytes.Class.{Class}
use Rattle.json_text.specs.declared.bytes.Class.TheVariants.{Blank, Quote, ArrayBegin, ArrayEnd, ObjectBegin, ObjectEnd, Comma, Colon, Minus, Plus, Point, Zero, Nonzero, LetterE, LetterN, LetterT, LetterF}
use Rattle.json_text.specs.declared.machine.Mode.{Mode}
use Rattle.json_text.specs.declared.machine.Mode.TheVariants.{ValueDue, ElementDue, NameDue, FirstNameDue, ColonDue, Ended, InWord, InNumber, InText, InName}
use Rattle.json_text.specs.declared.machine.Letters.{Letters}
use Rattle.json_text.specs.declared.machine.Letters.TheVariants.{Ull, Ll, L, Rue, Ue, E, Alse, Lse, Se}
use Rattle.json_text.specs.declared.machine.Digits.{Digits}
use Rattle.json_text.specs.declared.machine.Digits.TheVariants.{AfterMinus, AfterZero, InInt, AfterPoint, InFrac, AfterE, AfterSign, InExp}
use Rattle.json_text.specs.declared.machine.Part.{Part}
use Rattle.json_text.specs.declared.machine.Part.TheVariants.{Inside, Escape, CodeDue, AfterD, Three, Two, One, HighTwo, HighOne, LowEscape, LowMark, LowD, LowDigit}
use Rattle.json_text.specs.declared.machine.Move.{Move}
use Rattle.json_text.specs.declared.machine.Move.TheVariants.{To}
use Rattle.json_text.proofs.Classes.{Means, class_means, class_blank, class_nonzero, class_digit, class_e, class_sign, digit_zero, digit_nonzero, eq_is, eq_of}
use Rattle.json_text.proofs.Strings.{Tail, TailOf, part_forth, part_back, part_end, closes_not, nothing}
use Rattle.json_text.proofs.Numbers.{cons_is, NumberTail, IntThen, digits_none, digits_more, digit_first, exp_first, frac_first, int_zero, int_nonzero, sign_first, exp_none, frac_none, digits_back, digit_back, exp_back, frac_back, int_back, sign_back, unsigned_number, negative_number, int_parts}
use Rattle.json_text.proofs.Follows.{ElementsThen, MembersThen, ValueThen, ByteThen, NameThen, StringThen, WordThen, NumberThen, letters, After, ValueNext, ColonNext, NameNext, Follows, FollowsMove}

-- ---- a blank in front

module _ {P : List ℕ → Type 0} {c : ℕ} {ts : List ℕ} (b : is_blank c ≡ true) where
  elements_blank : {n d : ℕ} → ElementsThen n d P ts → ElementsThen n d P (c ∷ ts)
  elements_blank x = record { blanks = c ∷ x.blanks; elements = x.elements; rest = x.rest; valid = x.valid; blank = (b, x.blank); spelled = ap (λ l. c ∷ l) x.spelled; behind = x.behind }

  members_blank : {n d : ℕ} → MembersThen n d P ts → MembersThen n d P (c ∷ ts)
  members_blank x = record { blanks = c ∷ x.blanks; members = x.members; rest = x.rest; valid = x.valid; blank = (b, x.blank); spelled = ap (λ l. c ∷ l) x.spelled; behind = x.behind }

  value_blank : {n d : ℕ} → ValueThen n d P ts → ValueThen n d P (c ∷ ts)
  value_blank x = record { blanks = c ∷ x.blanks; value = x.value; rest = x.rest; valid = x.valid; blank = (b, x.blank); spelled = ap (λ l. c ∷ l) x.spelled; behind = x.behind }

  byte_blank : {d : ℕ} → ByteThen d P ts → ByteThen d P (c ∷ ts)
  byte_blank x = record { blanks = c ∷ x.blanks; rest = x.rest; blank = (b, x.blank); spelled = ap (λ l. c ∷ l) x.spelled; behind = x.behind }

  name_blank : NameThen P ts → NameThen P (c ∷ ts)
  name_blank x = record { blanks = c ∷ x.blanks; raw = x.raw; rest = x.rest; valid = x.valid; blank = (b, x.blank); spelled = ap (λ l. c ∷ l) x.spelled; behind = x.behind }

byte_here : {P : List ℕ → Type 0} {c : ℕ} {ts : List ℕ} (d : ℕ) → c ≡ d → P ts → ByteThen d P (c ∷ ts)
byte_here {P} {c} {ts} d h x = record { blanks = []; rest = ts; blank = tt; spelled = cons_is h refl; behind = x }

-- ---- behind a byte

module _ (limit : ℕ) (c : ℕ) (ts : List ℕ) where
  after_forth : (nest : List Bool) (k : Class) → Means k c → FollowsMove limit nest ts (after_move (around_of nest) k) → After limit nest (c ∷ ts)
  unfolding print IsValue
  after_forth [] Blank m x = (m, x)
  after_forth [] k m x = elim x [ ]
  after_forth (true ∷ nest) Blank m x = elements_blank m x
  after_forth (true ∷ nest) Comma m x = record {
    blanks = [];
    elements = more_elements (element x.blanks x.value x.behind.blanks) x.behind.elements;
    rest = x.behind.rest;
    blank = tt;
    valid = ((x.blank, x.valid, x.behind.blank), x.behind.valid);
    spelled = cons_is m (x.spelled ∙ ap (λ l. x.blanks ++ print x.value l) x.behind.spelled);
    behind = x.behind.behind;
  }
  after_forth (true ∷ nest) ArrayEnd m x = record { blanks = []; elements = no_elements; rest = ts; blank = tt; valid = tt; spelled = cons_is m refl; behind = x }
  after_forth (true ∷ nest) k m x = elim x [ ]
  after_forth (false ∷ nest) Blank m x = members_blank m x
  after_forth (false ∷ nest) Comma m x = record {
    blanks = [];
    members = more_members (member x.blanks x.raw x.behind.blanks (element x.behind.behind.blanks x.behind.behind.value x.behind.behind.behind.blanks)) x.behind.behind.behind.members;
    rest = x.behind.behind.behind.rest;
    blank = tt;
    valid = ((x.blank, x.valid, x.behind.blank, (x.behind.behind.blank, x.behind.behind.valid, x.behind.behind.behind.blank)), x.behind.behind.behind.valid);
    spelled = cons_is m (x.spelled ∙ ap (λ l. x.blanks ++ 34 ∷ (x.raw ++ 34 ∷ l)) (x.behind.spelled ∙ ap (λ l. x.behind.blanks ++ 58 ∷ l)
        (x.behind.behind.spelled ∙ ap (λ l. x.behind.behind.blanks ++ print x.behind.behind.value l) x.behind.behind.behind.spelled)));
    behind = x.behind.behind.behind.behind;
  }
  after_forth (false ∷ nest) ObjectEnd m x = record { blanks = []; members = no_members; rest = ts; blank = tt; valid = tt; spelled = cons_is m refl; behind = x }
  after_forth (false ∷ nest) k m x = elim x [ ]

  array_forth : (nest : List Bool) → c ≡ 91 → length nest < limit → ByteThen 93 (After limit nest) ts ⊎ ValueNext limit (true ∷ nest) ts → ValueNext limit nest (c ∷ ts)
  unfolding print IsValue
  array_forth nest m h (inl x) = record { blanks = []; value = empty_array x.blanks; rest = x.rest; blank = tt; valid = (h, x.blank); spelled = cons_is m x.spelled; behind = x.behind }
  array_forth nest m h (inr x) = record {
    blanks = [];
    value = array (element x.blanks x.value x.behind.blanks) x.behind.elements;
    rest = x.behind.rest;
    blank = tt;
    valid = (h, (x.blank, x.valid, x.behind.blank), x.behind.valid);
    spelled = cons_is m (x.spelled ∙ ap (λ l. x.blanks ++ print x.value l) x.behind.spelled);
    behind = x.behind.behind;
  }

  object_forth : (nest : List Bool) → c ≡ 123 → length nest < limit → ByteThen 125 (After limit nest) ts ⊎ NameNext limit (false ∷ nest) ts → ValueNext limit nest (c ∷ ts)
  unfolding print IsValue
  object_forth nest m h (inl x) = record { blanks = []; value = empty_object x.blanks; rest = x.rest; blank = tt; valid = (h, x.blank); spelled = cons_is m x.spelled; behind = x.behind }
  object_forth nest m h (inr x) = record {
    blanks = [];
    value = object (member x.blanks x.raw x.behind.blanks (element x.behind.behind.blanks x.behind.behind.value x.behind.behind.behind.blanks)) x.behind.behind.behind.members;
    rest = x.behind.behind.behind.rest;
    blank = tt;
    valid = (h, (x.blank, x.valid, x.behind.blank, (x.behind.behind.blank, x.behind.behind.valid, x.behind.behind.behind.blank)), x.behind.behind.behind.valid);
    spelled = cons_is m (x.spelled ∙ ap (λ l. x.blanks ++ 34 ∷ (x.raw ++ 34 ∷ l)) (x.behind.spelled ∙ ap (λ l. x.behind.blanks ++ 58 ∷ l)
        (x.behind.behind.spelled ∙ ap (λ l. x.behind.behind.blanks ++ print x.behind.behind.value l) x.behind.behind.behind.spelled)));
    behind = x.behind.behind.behind.behind;
  }

  number_value : (nest : List Bool) (rest : List ℕ) → (n : Number) × IsNumber n × (c ∷ ts ≡ print_number n rest) → After limit nest rest → ValueNext limit nest (c ∷ ts)
  unfolding print IsValue
  number_value nest rest n x = record { blanks = []; value = number n.0; rest = rest; blank = tt; valid = n.1; spelled = n.2; behind = x }

  value_forth : (nest : List Bool) (k : Class) → Means k c → FollowsMove limit nest ts (value_move k) → ValueNext limit nest (c ∷ ts)
  unfolding print IsValue
  value_forth nest Blank m x = value_blank m x
  value_forth nest Quote m x = record { blanks = []; value = string x.raw; rest = x.rest; blank = tt; valid = x.valid; spelled = cons_is m x.spelled; behind = x.behind }
  value_forth nest ArrayBegin m x = array_forth nest m x.0 x.1
  value_forth nest ObjectBegin m x = object_forth nest m x.0 x.1
  value_forth nest Minus m x = number_value nest x.rest (negative_number c m x.valid) x.behind
  value_forth nest Zero m x = number_value nest x.rest (unsigned_number (int_zero m x.valid)) x.behind
  value_forth nest Nonzero m x = number_value nest x.rest (unsigned_number (int_nonzero m x.valid)) x.behind
  value_forth nest LetterN m x = record { blanks = []; value = null; rest = x.rest; blank = tt; valid = tt; spelled = cons_is m x.spelled; behind = x.behind }
  value_forth nest LetterT m x = record { blanks = []; value = truth true; rest = x.rest; blank = tt; valid = tt; spelled = cons_is m x.spelled; behind = x.behind }
  value_forth nest LetterF m x = record { blanks = []; value = truth false; rest = x.rest; blank = tt; valid = tt; spelled = cons_is m x.spelled; behind = x.behind }
  value_forth nest k m x = elim x [ ]

  element_forth : (nest : List Bool) (k : Class) → Means k c → FollowsMove limit nest ts (first_element_move k) → Follows limit ElementDue nest (c ∷ ts)
  element_forth nest Blank m (inl x) = inl (byte_blank m x)
  element_forth nest Blank m (inr x) = inr (value_blank m x)
  element_forth nest ArrayEnd m x = inl (byte_here 93 m x)
  element_forth nest k m x = inr (value_forth nest k m x)

  name_forth : (nest : List Bool) (k : Class) → Means k c → FollowsMove limit nest ts (name_move k) → NameNext limit nest (c ∷ ts)
  name_forth nest Blank m x = name_blank m x
  name_forth nest Quote m x = record { blanks = []; raw = x.raw; rest = x.rest; blank = tt; valid = x.valid; spelled = cons_is m x.spelled; behind = x.behind }
  name_forth nest k m x = elim x [ ]

  first_name_forth : (nest : List Bool) (k : Class) → Means k c → FollowsMove limit nest ts (first_name_move k) → Follows limit FirstNameDue nest (c ∷ ts)
  first_name_forth nest Blank m (inl x) = inl (byte_blank m x)
  first_name_forth nest Blank m (inr x) = inr (name_blank m x)
  first_name_forth nest ObjectEnd m x = inl (byte_here 125 m x)
  first_name_forth nest k m x = inr (name_forth nest k m x)

  colon_forth : (nest : List Bool) (k : Class) → Means k c → FollowsMove limit nest ts (colon_move k) → ColonNext limit nest (c ∷ ts)
  colon_forth nest Blank m x = byte_blank m x
  colon_forth nest Colon m x = byte_here 58 m x
  colon_forth nest k m x = elim x [ ]

  ended : (s : Digits) (nest : List Bool) → NumberTail s (c ∷ ts) (c ∷ ts) → After limit nest (c ∷ ts) → NumberThen s (After limit nest) (c ∷ ts)
  ended s nest t x = record { rest = c ∷ ts; valid = t; behind = x }

  number_forth : (s : Digits) (nest : List Bool) (k : Class) → Means k c → FollowsMove limit nest ts (number_move s (around_of nest) k) → NumberThen s (After limit nest) (c ∷ ts)
  number_forth AfterMinus nest Zero m x = record { rest = x.rest; valid = int_zero m x.valid; behind = x.behind }
  number_forth AfterMinus nest Nonzero m x = record { rest = x.rest; valid = int_nonzero m x.valid; behind = x.behind }
  number_forth AfterMinus nest k m x = elim x [ ]
  number_forth AfterZero nest Point m x = record { rest = x.rest; valid = frac_first m x.valid; behind = x.behind }
  number_forth AfterZero nest LetterE m x = record { rest = x.rest; valid = frac_none (exp_first m x.valid); behind = x.behind }
  number_forth AfterZero nest k m x = ended AfterZero nest (frac_none (exp_none (c ∷ ts))) (after_forth nest k m x)
  number_forth InInt nest Zero m x = record { rest = x.rest; valid = digits_more (digit_zero c m) x.valid; behind = x.behind }
  number_forth InInt nest Nonzero m x = record { rest = x.rest; valid = digits_more (digit_nonzero c m) x.valid; behind = x.behind }
  number_forth InInt nest Point m x = record { rest = x.rest; valid = digits_none (frac_first m x.valid); behind = x.behind }
  number_forth InInt nest LetterE m x = record { rest = x.rest; valid = digits_none (frac_none (exp_first m x.valid)); behind = x.behind }
  number_forth InInt nest k m x = ended InInt nest (digits_none (frac_none (exp_none (c ∷ ts)))) (after_forth nest k m x)
  number_forth AfterPoint nest Zero m x = record { rest = x.rest; valid = digit_first (digit_zero c m) x.valid; behind = x.behind }
  number_forth AfterPoint nest Nonzero m x = record { rest = x.rest; valid = digit_first (digit_nonzero c m) x.valid; behind = x.behind }
  number_forth AfterPoint nest k m x = elim x [ ]
  number_forth InFrac nest Zero m x = record { rest = x.rest; valid = digits_more (digit_zero c m) x.valid; behind = x.behind }
  number_forth InFrac nest Nonzero m x = record { rest = x.rest; valid = digits_more (digit_nonzero c m) x.valid; behind = x.behind }
  number_forth InFrac nest LetterE m x = record { rest = x.rest; valid = digits_none (exp_first m x.valid); behind = x.behind }
  number_forth InFrac nest k m x = ended InFrac nest (digits_none (exp_none (c ∷ ts))) (after_forth nest k m x)
  number_forth AfterE nest Zero m x = record { rest = x.rest; valid = inr (digit_first (digit_zero c m) x.valid); behind = x.behind }
  number_forth AfterE nest Nonzero m x = record { rest = x.rest; valid = inr (digit_first (digit_nonzero c m) x.valid); behind = x.behind }
  number_forth AfterE nest Minus m x = record { rest = x.rest; valid = inl (sign_first (ap is_sign m) x.valid); behind = x.behind }
  number_forth AfterE nest Plus m x = record { rest = x.rest; valid = inl (sign_first (ap is_sign m) x.valid); behind = x.behind }
  number_forth AfterE nest k m x = elim x [ ]
  number_forth AfterSign nest Zero m x = record { rest = x.rest; valid = digit_first (digit_zero c m) x.valid; behind = x.behind }
  number_forth AfterSign nest Nonzero m x = record { rest = x.rest; valid = digit_first (digit_nonzero c m) x.valid; behind = x.behind }
  number_forth AfterSign nest k m x = elim x [ ]
  number_forth InExp nest Zero m x = record { rest = x.rest; valid = digits_more (digit_zero c m) x.valid; behind = x.behind }
  number_forth InExp nest Nonzero m x = record { rest = x.rest; valid = digits_more (digit_nonzero c m) x.valid; behind = x.behind }
  number_forth InExp nest k m x = ended InExp nest (digits_none refl) (after_forth nest k m x)

  letter_forth : (b : Bool) (m : Mode) (nest : List Bool) → FollowsMove limit nest ts (letter_move b m) → (b ≡ true) × Follows limit m nest ts
  letter_forth true m nest x = (refl, x)
  letter_forth false m nest x = elim x [ ]

  letter_more : (d : ℕ) (w : Letters) (nest : List Bool) → FollowsMove limit nest ts (letter_move (c == d) (InWord w)) → WordThen (d ∷ letters w) (After limit nest) (c ∷ ts)
  letter_more d w nest x =
      let y = letter_forth (c == d) (InWord w) nest x in
      record { rest = y.1.rest; spelled = cons_is (eq_is c d y.0) y.1.spelled; behind = y.1.behind }

  letter_last : (d : ℕ) (nest : List Bool) → FollowsMove limit nest ts (letter_move (c == d) Ended) → WordThen (d ∷ []) (After limit nest) (c ∷ ts)
  letter_last d nest x =
      let y = letter_forth (c == d) Ended nest x in
      record { rest = ts; spelled = cons_is (eq_is c d y.0) refl; behind = y.1 }

  word_forth : (w : Letters) (nest : List Bool) → FollowsMove limit nest ts (word_move w c) → WordThen (letters w) (After limit nest) (c ∷ ts)
  word_forth Ull nest x = letter_more 117 Ll nest x
  word_forth Ll nest x = letter_more 108 L nest x
  word_forth L nest x = letter_last 108 nest x
  word_forth Rue nest x = letter_more 114 Ue nest x
  word_forth Ue nest x = letter_more 117 E nest x
  word_forth E nest x = letter_last 101 nest x
  word_forth Alse nest x = letter_more 97 Lse nest x
  word_forth Lse nest x = letter_more 108 Se nest x
  word_forth Se nest x = letter_more 115 E nest x

  -- ---- strings

  closes_here : (p : Part) → closes p c ≡ true → Tail p [] × (c ≡ 34)
  closes_here Inside h = (nothing, eq_is c 34 h)
  closes_here Escape h = absurd (cc)
  closes_here CodeDue h = absurd (cc)
  closes_here AfterD h = absurd (cc)
  closes_here Three h = absurd (cc)
  closes_here Two h = absurd (cc)
  closes_here One h = absurd (cc)
  closes_here HighTwo h = absurd (cc)
  closes_here HighOne h = absurd (cc)
  closes_here LowEscape h = absurd (cc)
  closes_here LowMark h = absurd (cc)
  closes_here LowD h = absurd (cc)
  closes_here LowDigit h = absurd (cc)

  string_close : {P : List ℕ → Type 0} (p : Part) → closes p c ≡ true → P ts → StringThen p P (c ∷ ts)
  string_close p h x =
      let here = closes_here p h in
      record { raw = []; rest = ts; valid = here.0; spelled = cons_is here.1 refl; behind = x }

  string_more : {P : List ℕ → Type 0} (p q : Part) → part_next p c ≡ Some q → StringThen q P ts → StringThen p P (c ∷ ts)
  string_more p q h x = record {
    raw = c ∷ x.raw;
    rest = x.rest;
    valid = part_forth p c x.raw (subst (λ o. TailOf o x.raw) (sym h) x.valid);
    spelled = ap (λ l. c ∷ l) x.spelled;
    behind = x.behind;
  }

  text_next : (p : Part) (nest : List Bool) (o : Option Part) → part_next p c ≡ o → FollowsMove limit nest ts (to_text o) → StringThen p (After limit nest) (c ∷ ts)
  text_next p nest None h x = elim x [ ]
  text_next p nest (Some q) h x = string_more p q h x

  text_test : (p : Part) (nest : List Bool) (b : Bool) → closes p c ≡ b → FollowsMove limit nest ts (cond b (To Ended) (to_text (part_next p c))) → StringThen p (After limit nest) (c ∷ ts)
  text_test p nest true h x = string_close p h x
  text_test p nest false h x = text_next p nest (part_next p c) refl x

  in_name_next : (p : Part) (nest : List Bool) (o : Option Part) → part_next p c ≡ o → FollowsMove limit nest ts (to_name o) → StringThen p (ColonNext limit nest) (c ∷ ts)
  in_name_next p nest None h x = elim x [ ]
  in_name_next p nest (Some q) h x = string_more p q h x

  in_name_test : (p : Part) (nest : List Bool) (b : Bool) → closes p c ≡ b → FollowsMove limit nest ts (cond b (To ColonDue) (to_name (part_next p c))) → StringThen p (ColonNext limit nest) (c ∷ ts)
  in_name_test p nest true h x = string_close p h x
  in_name_test p nest false h x = in_name_next p nest (part_next p c) refl x

  -- what follows a byte, with the byte
  pub step_forth : (m : Mode) (nest : List Bool) → FollowsMove limit nest ts (step m (around_of nest) c) → Follows limit m nest (c ∷ ts)
  unfolding step
  step_forth ValueDue nest x = value_forth nest (class c) (class_means c) x
  step_forth ElementDue nest x = element_forth nest (class c) (class_means c) x
  step_forth NameDue nest x = name_forth nest (class c) (class_means c) x
  step_forth FirstNameDue nest x = first_name_forth nest (class c) (class_means c) x
  step_forth ColonDue nest x = colon_forth nest (class c) (class_means c) x
  step_forth Ended nest x = after_forth nest (class c) (class_means c) x
  step_forth (InWord w) nest x = word_forth w nest x
  step_forth (InNumber s) nest x = number_forth s nest (class c) (class_means c) x
  step_forth (InText p) nest x = text_test p nest (closes p c) refl x
  step_forth (InName p) nest x = in_name_test p nest (closes p c) refl x

  -- ---- the byte in front

  blank_head : (d : ℕ) (us : List ℕ) → c ∷ ts ≡ d ∷ us → is_blank d ≡ true → class c ≡ Blank
  blank_head d us e h =
      let is : d ≡ c = cc in
      class_blank c (subst (λ y. is_blank y ≡ true) is h)

  head_is : (d : ℕ) (us : List ℕ) → c ∷ ts ≡ d ∷ us → class c ≡ class d
  head_is d us e =
      let is : c ≡ d = cc in
      ap class is

  tail_is : (d : ℕ) (us : List ℕ) → c ∷ ts ≡ d ∷ us → ts ≡ us
  tail_is d us e = cc

  after_at : (nest : List Bool) (k : Class) → class c ≡ k → FollowsMove limit nest ts (after_move (around_of nest) k) → FollowsMove limit nest ts (after_move (around_of nest) (class c))
  after_at nest k e x = subst (λ y. FollowsMove limit nest ts (after_move (around_of nest) y)) (sym e) x

  after_array : (nest : List Bool) (blanks : List ℕ) (es : Elements) (rest : List ℕ) → AreBlanks blanks → AreElements limit (suc (length nest)) es
      → c ∷ ts ≡ blanks ++ print_elements es rest → After limit nest rest → FollowsMove limit (true ∷ nest) ts (after_move (around_of (true ∷ nest)) (class c))
  unfolding print IsValue
  after_array nest (d ∷ ds) es rest b v e x =
      after_at (true ∷ nest) Blank (blank_head d _ e b.0) (record { blanks = ds; elements = es; rest = rest; blank = b.1; valid = v; spelled = tail_is d _ e; behind = x })
  after_array nest [] no_elements rest b v e x =
      after_at (true ∷ nest) ArrayEnd (head_is 93 rest e) (subst (After limit nest) (sym (tail_is 93 rest e)) x)
  after_array nest [] (more_elements (element before w behind) es) rest b v e x =
      after_at (true ∷ nest) Comma (head_is 44 _ e)
      (record {
        blanks = before;
        value = w;
        rest = behind ++ print_elements es rest;
        blank = v.0.0;
        valid = v.0.1;
        spelled = tail_is 44 _ e;
        behind = record { blanks = behind; elements = es; rest = rest; blank = v.0.2; valid = v.1; spelled = refl; behind = x };
      })

  after_object : (nest : List Bool) (blanks : List ℕ) (ms : Members) (rest : List ℕ) → AreBlanks blanks → AreMembers limit (suc (length nest)) ms
      → c ∷ ts ≡ blanks ++ print_members ms rest → After limit nest rest → FollowsMove limit (false ∷ nest) ts (after_move (around_of (false ∷ nest)) (class c))
  unfolding print IsValue
  after_object nest (d ∷ ds) ms rest b v e x =
      after_at (false ∷ nest) Blank (blank_head d _ e b.0) (record { blanks = ds; members = ms; rest = rest; blank = b.1; valid = v; spelled = tail_is d _ e; behind = x })
  after_object nest [] no_members rest b v e x =
      after_at (false ∷ nest) ObjectEnd (head_is 125 rest e) (subst (After limit nest) (sym (tail_is 125 rest e)) x)
  after_object nest [] (more_members (member before name gap (element front w behind)) ms) rest b v e x =
      after_at (false ∷ nest) Comma (head_is 44 _ e)
      (record {
        blanks = before;
        raw = name;
        rest = gap ++ 58 ∷ (front ++ print w (behind ++ print_members ms rest));
        blank = v.0.0;
        valid = v.0.1;
        spelled = tail_is 44 _ e;
        behind = record {
          blanks = gap;
          rest = front ++ print w (behind ++ print_members ms rest);
          blank = v.0.2;
          spelled = refl;
          behind = record {
            blanks = front;
            value = w;
            rest = behind ++ print_members ms rest;
            blank = v.0.3.0;
            valid = v.0.3.1;
            spelled = refl;
            behind = record { blanks = behind; members = ms; rest = rest; blank = v.0.3.2; valid = v.1; spelled = refl; behind = x };
          };
        };
      })

  after_back : (nest : List Bool) → After limit nest (c ∷ ts) → FollowsMove limit nest ts (after_move (around_of nest) (class c))
  after_back [] x = after_at [] Blank (class_blank c x.0) x.1
  after_back (true ∷ nest) x = after_array nest x.blanks x.elements x.rest x.blank x.valid x.spelled x.behind
  after_back (false ∷ nest) x = after_object nest x.blanks x.members x.rest x.blank x.valid x.spelled x.behind

  value_at : (nest : List Bool) (k : Class) → class c ≡ k → FollowsMove limit nest ts (value_move k) → FollowsMove limit nest ts (value_move (class c))
  value_at nest k e x = subst (λ y. FollowsMove limit nest ts (value_move y)) (sym e) x

  -- a number in front of what may follow it
  int_here : (nest : List Bool) (rest : List ℕ) → IntThen rest (c ∷ ts) → After limit nest rest → FollowsMove limit nest ts (value_move (class c))
  int_here nest rest x y =
      elim (int_back x) [
        | inl z ↦ value_at nest Zero (ap class z.0) (record { rest = rest; valid = z.1; behind = y })
        | inr z ↦ value_at nest Nonzero (class_nonzero c z.0) (record { rest = rest; valid = z.1; behind = y })
      ]

  number_here : (nest : List Bool) (n : Number) (rest : List ℕ) → IsNumber n → c ∷ ts ≡ print_number n rest → After limit nest rest → FollowsMove limit nest ts (value_move (class c))
  number_here nest (unsigned i f e) rest v h x = int_here nest rest (subst (IntThen rest) (sym h) (int_parts i f e rest v.0 v.1 v.2)) x
  number_here nest (negative i f e) rest v h x =
      value_at nest Minus (head_is 45 _ h) (record { rest = rest; valid = subst (IntThen rest) (sym (tail_is 45 _ h)) (int_parts i f e rest v.0 v.1 v.2); behind = x })

  value_split : (nest : List Bool) (blanks : List ℕ) (v : Json) (rest : List ℕ) → AreBlanks blanks → IsValue limit (length nest) v
      → c ∷ ts ≡ blanks ++ print v rest → After limit nest rest → FollowsMove limit nest ts (value_move (class c))
  unfolding print IsValue
  value_split nest (d ∷ ds) v rest b h e x =
      value_at nest Blank (blank_head d _ e b.0) (record { blanks = ds; value = v; rest = rest; blank = b.1; valid = h; spelled = tail_is d _ e; behind = x })
  value_split nest [] null rest b h e x = value_at nest LetterN (head_is 110 _ e) (record { rest = rest; spelled = tail_is 110 _ e; behind = x })
  value_split nest [] (truth true) rest b h e x = value_at nest LetterT (head_is 116 _ e) (record { rest = rest; spelled = tail_is 116 _ e; behind = x })
  value_split nest [] (truth false) rest b h e x = value_at nest LetterF (head_is 102 _ e) (record { rest = rest; spelled = tail_is 102 _ e; behind = x })
  value_split nest [] (number n) rest b h e x = number_here nest n rest h e x
  value_split nest [] (string raw) rest b h e x = value_at nest Quote (head_is 34 _ e) (record { raw = raw; rest = rest; valid = h; spelled = tail_is 34 _ e; behind = x })
  value_split nest [] (empty_array blanks) rest b h e x =
      value_at nest ArrayBegin (head_is 91 _ e) (h.0, inl (record { blanks = blanks; rest = rest; blank = h.1; spelled = tail_is 91 _ e; behind = x }))
  value_split nest [] (array (element before w behind) es) rest b h e x =
      value_at nest ArrayBegin (head_is 91 _ e) (
        h.0,
        inr (record {
          blanks = before;
          value = w;
          rest = behind ++ print_elements es rest;
          blank = h.1.0;
          valid = h.1.1;
          spelled = tail_is 91 _ e;
          behind = record { blanks = behind; elements = es; rest = rest; blank = h.1.2; valid = h.2; spelled = refl; behind = x };
        }),
      )
  value_split nest [] (empty_object blanks) rest b h e x =
      value_at nest ObjectBegin (head_is 123 _ e) (h.0, inl (record { blanks = blanks; rest = rest; blank = h.1; spelled = tail_is 123 _ e; behind = x }))
  value_split nest [] (object (member before name gap (element front w behind)) ms) rest b h e x =
      value_at nest ObjectBegin (head_is 123 _ e) (
        h.0,
        inr (record {
          blanks = before;
          raw = name;
          rest = gap ++ 58 ∷ (front ++ print w (behind ++ print_members ms rest));
          blank = h.1.0;
          valid = h.1.1;
          spelled = tail_is 123 _ e;
          behind = record {
            blanks = gap;
            rest = front ++ print w (behind ++ print_members ms rest);
            blank = h.1.2;
            spelled = refl;
            behind = record {
              blanks = front;
              value = w;
              rest = behind ++ print_members ms rest;
              blank = h.1.3.0;
              valid = h.1.3.1;
              spelled = refl;
              behind = record { blanks = behind; members = ms; rest = rest; blank = h.1.3.2; valid = h.2; spelled = refl; behind = x };
            };
          };
        }),
      )

  value_back : (nest : List Bool) → ValueNext limit nest (c ∷ ts) → FollowsMove limit nest ts (value_move (class c))
  value_back nest x = value_split nest x.blanks x.value x.rest x.blank x.valid x.spelled x.behind

  element_of_value : (nest : List Bool) (k : Class) → FollowsMove limit nest ts (value_move k) → FollowsMove limit nest ts (first_element_move k)
  element_of_value nest Blank x = inr x
  element_of_value nest ArrayEnd x = elim x [ ]
  element_of_value nest k x = x

  element_at : (nest : List Bool) (k : Class) → class c ≡ k → FollowsMove limit nest ts (first_element_move k) → FollowsMove limit nest ts (first_element_move (class c))
  element_at nest k e x = subst (λ y. FollowsMove limit nest ts (first_element_move y)) (sym e) x

  end_split : (nest : List Bool) (blanks rest : List ℕ) → AreBlanks blanks → c ∷ ts ≡ blanks ++ 93 ∷ rest → After limit (behind_close nest) rest → FollowsMove limit nest ts (first_element_move (class c))
  end_split nest [] rest b e x = element_at nest ArrayEnd (head_is 93 rest e) (subst (After limit (behind_close nest)) (sym (tail_is 93 rest e)) x)
  end_split nest (d ∷ ds) rest b e x = element_at nest Blank (blank_head d _ e b.0) (inl (record { blanks = ds; rest = rest; blank = b.1; spelled = tail_is d _ e; behind = x }))

  element_back : (nest : List Bool) → Follows limit ElementDue nest (c ∷ ts) → FollowsMove limit nest ts (first_element_move (class c))
  element_back nest (inl x) = end_split nest x.blanks x.rest x.blank x.spelled x.behind
  element_back nest (inr x) = element_of_value nest (class c) (value_back nest x)

  name_at : (nest : List Bool) (k : Class) → class c ≡ k → FollowsMove limit nest ts (name_move k) → FollowsMove limit nest ts (name_move (class c))
  name_at nest k e x = subst (λ y. FollowsMove limit nest ts (name_move y)) (sym e) x

  name_split : (nest : List Bool) (blanks raw rest : List ℕ) → AreBlanks blanks → IsInside raw → c ∷ ts ≡ blanks ++ 34 ∷ (raw ++ 34 ∷ rest) → ColonNext limit nest rest → FollowsMove limit nest ts (name_move (class c))
  name_split nest [] raw rest b v e x = name_at nest Quote (head_is 34 _ e) (record { raw = raw; rest = rest; valid = v; spelled = tail_is 34 _ e; behind = x })
  name_split nest (d ∷ ds) raw rest b v e x =
      name_at nest Blank (blank_head d _ e b.0) (record { blanks = ds; raw = raw; rest = rest; blank = b.1; valid = v; spelled = tail_is d _ e; behind = x })

  name_back : (nest : List Bool) → NameNext limit nest (c ∷ ts) → FollowsMove limit nest ts (name_move (class c))
  name_back nest x = name_split nest x.blanks x.raw x.rest x.blank x.valid x.spelled x.behind

  first_of_name : (nest : List Bool) (k : Class) → FollowsMove limit nest ts (name_move k) → FollowsMove limit nest ts (first_name_move k)
  first_of_name nest Blank x = inr x
  first_of_name nest ObjectEnd x = elim x [ ]
  first_of_name nest k x = x

  first_name_at : (nest : List Bool) (k : Class) → class c ≡ k → FollowsMove limit nest ts (first_name_move k) → FollowsMove limit nest ts (first_name_move (class c))
  first_name_at nest k e x = subst (λ y. FollowsMove limit nest ts (first_name_move y)) (sym e) x

  object_end_split : (nest : List Bool) (blanks rest : List ℕ) → AreBlanks blanks → c ∷ ts ≡ blanks ++ 125 ∷ rest → After limit (behind_close nest) rest → FollowsMove limit nest ts (first_name_move (class c))
  object_end_split nest [] rest b e x = first_name_at nest ObjectEnd (head_is 125 rest e) (subst (After limit (behind_close nest)) (sym (tail_is 125 rest e)) x)
  object_end_split nest (d ∷ ds) rest b e x = first_name_at nest Blank (blank_head d _ e b.0) (inl (record { blanks = ds; rest = rest; blank = b.1; spelled = tail_is d _ e; behind = x }))

  first_name_back : (nest : List Bool) → Follows limit FirstNameDue nest (c ∷ ts) → FollowsMove limit nest ts (first_name_move (class c))
  first_name_back nest (inl x) = object_end_split nest x.blanks x.rest x.blank x.spelled x.behind
  first_name_back nest (inr x) = first_of_name nest (class c) (name_back nest x)

  colon_at : (nest : List Bool) (k : Class) → class c ≡ k → FollowsMove limit nest ts (colon_move k) → FollowsMove limit nest ts (colon_move (class c))
  colon_at nest k e x = subst (λ y. FollowsMove limit nest ts (colon_move y)) (sym e) x

  colon_split : (nest : List Bool) (blanks rest : List ℕ) → AreBlanks blanks → c ∷ ts ≡ blanks ++ 58 ∷ rest → ValueNext limit nest rest → FollowsMove limit nest ts (colon_move (class c))
  colon_split nest [] rest b e x = colon_at nest Colon (head_is 58 rest e) (subst (ValueNext limit nest) (sym (tail_is 58 rest e)) x)
  colon_split nest (d ∷ ds) rest b e x = colon_at nest Blank (blank_head d _ e b.0) (record { blanks = ds; rest = rest; blank = b.1; spelled = tail_is d _ e; behind = x })

  colon_back : (nest : List Bool) → ColonNext limit nest (c ∷ ts) → FollowsMove limit nest ts (colon_move (class c))
  colon_back nest x = colon_split nest x.blanks x.rest x.blank x.spelled x.behind

  -- ---- the byte in front, in a number

  number_at : (s : Digits) (nest : List Bool) (k : Class) → class c ≡ k → FollowsMove limit nest ts (number_move s (around_of nest) k) → FollowsMove limit nest ts (number_move s (around_of nest) (class c))
  number_at s nest k e x = subst (λ y. FollowsMove limit nest ts (number_move s (around_of nest) y)) (sym e) x

  zero_falls : (nest : List Bool) (k : Class) → FollowsMove limit nest ts (after_move (around_of nest) k) → FollowsMove limit nest ts (number_move AfterZero (around_of nest) k)
  zero_falls nest Point x = elim x [ ]
  zero_falls nest LetterE x = elim x [ ]
  zero_falls nest k x = x

  int_falls : (nest : List Bool) (k : Class) → FollowsMove limit nest ts (after_move (around_of nest) k) → FollowsMove limit nest ts (number_move InInt (around_of nest) k)
  int_falls nest Zero x = elim x [ ]
  int_falls nest Nonzero x = elim x [ ]
  int_falls nest Point x = elim x [ ]
  int_falls nest LetterE x = elim x [ ]
  int_falls nest k x = x

  frac_falls : (nest : List Bool) (k : Class) → FollowsMove limit nest ts (after_move (around_of nest) k) → FollowsMove limit nest ts (number_move InFrac (around_of nest) k)
  frac_falls nest Zero x = elim x [ ]
  frac_falls nest Nonzero x = elim x [ ]
  frac_falls nest LetterE x = elim x [ ]
  frac_falls nest k x = x

  exp_falls : (nest : List Bool) (k : Class) → FollowsMove limit nest ts (after_move (around_of nest) k) → FollowsMove limit nest ts (number_move InExp (around_of nest) k)
  exp_falls nest Zero x = elim x [ ]
  exp_falls nest Nonzero x = elim x [ ]
  exp_falls nest k x = x

  -- what follows the number begins here
  behind_number : (nest : List Bool) (rest : List ℕ) → c ∷ ts ≡ rest → After limit nest rest → FollowsMove limit nest ts (after_move (around_of nest) (class c))
  behind_number nest rest e x = after_back nest (subst (After limit nest) (sym e) x)

  digit_at : (s : Digits) (nest : List Bool) → is_digit c ≡ true
      → FollowsMove limit nest ts (number_move s (around_of nest) Zero) → FollowsMove limit nest ts (number_move s (around_of nest) Nonzero)
      → FollowsMove limit nest ts (number_move s (around_of nest) (class c))
  digit_at s nest h x y = elim (class_digit c h) [ inl e ↦ number_at s nest Zero e x | inr e ↦ number_at s nest Nonzero e y ]

  number_back : (s : Digits) (nest : List Bool) (rest : List ℕ) → NumberTail s rest (c ∷ ts) → After limit nest rest → FollowsMove limit nest ts (number_move s (around_of nest) (class c))
  number_back AfterMinus nest rest t x =
      elim (int_back t) [
        | inl z ↦ number_at AfterMinus nest Zero (ap class z.0) (record { rest = rest; valid = z.1; behind = x })
        | inr z ↦ number_at AfterMinus nest Nonzero (class_nonzero c z.0) (record { rest = rest; valid = z.1; behind = x })
      ]
  number_back AfterZero nest rest t x =
      elim (frac_back t) [
        | inl z ↦ number_at AfterZero nest Point (ap class z.0) (record { rest = rest; valid = z.1; behind = x })
        | inr z ↦ elim (exp_back z) [
          | inl y ↦ number_at AfterZero nest LetterE (class_e c y.0) (record { rest = rest; valid = y.1; behind = x })
          | inr e ↦ zero_falls nest (class c) (behind_number nest rest e x)
        ]
      ]
  number_back InInt nest rest t x =
      elim (digits_back t) [
        | inl d ↦ digit_at InInt nest d.0 (record { rest = rest; valid = d.1; behind = x }) (record { rest = rest; valid = d.1; behind = x })
        | inr w ↦ elim (frac_back w) [
          | inl z ↦ number_at InInt nest Point (ap class z.0) (record { rest = rest; valid = z.1; behind = x })
          | inr z ↦ elim (exp_back z) [
            | inl y ↦ number_at InInt nest LetterE (class_e c y.0) (record { rest = rest; valid = y.1; behind = x })
            | inr e ↦ int_falls nest (class c) (behind_number nest rest e x)
          ]
        ]
      ]
  number_back AfterPoint nest rest t x =
      let d = digit_back t in
      digit_at AfterPoint nest d.0 (record { rest = rest; valid = d.1; behind = x }) (record { rest = rest; valid = d.1; behind = x })
  number_back InFrac nest rest t x =
      elim (digits_back t) [
        | inl d ↦ digit_at InFrac nest d.0 (record { rest = rest; valid = d.1; behind = x }) (record { rest = rest; valid = d.1; behind = x })
        | inr z ↦ elim (exp_back z) [
          | inl y ↦ number_at InFrac nest LetterE (class_e c y.0) (record { rest = rest; valid = y.1; behind = x })
          | inr e ↦ frac_falls nest (class c) (behind_number nest rest e x)
        ]
      ]
  number_back AfterE nest rest (inl t) x =
      let s = sign_back t in
      elim (class_sign c s.0) [
        | inl e ↦ number_at AfterE nest Minus e (record { rest = rest; valid = s.1; behind = x })
        | inr e ↦ number_at AfterE nest Plus e (record { rest = rest; valid = s.1; behind = x })
      ]
  number_back AfterE nest rest (inr t) x =
      let d = digit_back t in
      digit_at AfterE nest d.0 (record { rest = rest; valid = d.1; behind = x }) (record { rest = rest; valid = d.1; behind = x })
  number_back AfterSign nest rest t x =
      let d = digit_back t in
      digit_at AfterSign nest d.0 (record { rest = rest; valid = d.1; behind = x }) (record { rest = rest; valid = d.1; behind = x })
  number_back InExp nest rest t x =
      elim (digits_back t) [
        | inl d ↦ digit_at InExp nest d.0 (record { rest = rest; valid = d.1; behind = x }) (record { rest = rest; valid = d.1; behind = x })
        | inr e ↦ exp_falls nest (class c) (behind_number nest rest e x)
      ]

  -- ---- the byte in front, in a word or a string

  letter_back : (b : Bool) (m : Mode) (nest : List Bool) → b ≡ true → Follows limit m nest ts → FollowsMove limit nest ts (letter_move b m)
  letter_back true m nest h x = x
  letter_back false m nest h x = absurd (cc)

  letter_is : (d : ℕ) (us : List ℕ) → c ∷ ts ≡ d ∷ us → (c == d) ≡ true
  letter_is d us e =
      let is : c ≡ d = cc in
      eq_of c d is

  more_letters : (d : ℕ) (w : Letters) (nest : List Bool) → WordThen (d ∷ letters w) (After limit nest) (c ∷ ts) → FollowsMove limit nest ts (letter_move (c == d) (InWord w))
  more_letters d w nest x =
      letter_back (c == d) (InWord w) nest (letter_is d _ x.spelled) (record { rest = x.rest; spelled = tail_is d _ x.spelled; behind = x.behind })

  last_letter : (d : ℕ) (nest : List Bool) → WordThen (d ∷ []) (After limit nest) (c ∷ ts) → FollowsMove limit nest ts (letter_move (c == d) Ended)
  last_letter d nest x = letter_back (c == d) Ended nest (letter_is d _ x.spelled) (subst (After limit nest) (sym (tail_is d _ x.spelled)) x.behind)

  word_back : (w : Letters) (nest : List Bool) → WordThen (letters w) (After limit nest) (c ∷ ts) → FollowsMove limit nest ts (word_move w c)
  word_back Ull nest x = more_letters 117 Ll nest x
  word_back Ll nest x = more_letters 108 L nest x
  word_back L nest x = last_letter 108 nest x
  word_back Rue nest x = more_letters 114 Ue nest x
  word_back Ue nest x = more_letters 117 E nest x
  word_back E nest x = last_letter 101 nest x
  word_back Alse nest x = more_letters 97 Lse nest x
  word_back Lse nest x = more_letters 108 Se nest x
  word_back Se nest x = more_letters 115 E nest x

  closes_quote : (p : Part) → p ≡ Inside → c ≡ 34 → closes p c ≡ true
  closes_quote p h e = subst (λ q. closes q c ≡ true) (sym h) (eq_of c 34 e)

  -- the string ends with the byte, or has it inside
  string_split : (P : List ℕ → Type 0) (p : Part) (raw rest : List ℕ) → Tail p raw → c ∷ ts ≡ raw ++ 34 ∷ rest → P rest
      → ((closes p c ≡ true) × P ts) ⊎ ((closes p c ≡ false) × ((inside : List ℕ) × TailOf (part_next p c) inside × (ts ≡ inside ++ 34 ∷ rest) × P rest))
  string_split P p [] rest v e x =
      let is : c ≡ 34 = cc in
      inl (closes_quote p (part_end p v) is, subst P (sym (tail_is 34 rest e)) x)
  string_split P p (d ∷ ds) rest v e x =
      let is : d ≡ c = cc in
      let here : Tail p (c ∷ ds) = subst (λ y. Tail p (y ∷ ds)) is v in
      inr (closes_not p c ds here, (ds, part_back p c ds here, tail_is d _ e, x))

  text_open : (p : Part) (nest : List Bool) (rest raw : List ℕ) (o : Option Part) → TailOf o raw → ts ≡ raw ++ 34 ∷ rest → After limit nest rest → FollowsMove limit nest ts (to_text o)
  text_open p nest rest raw None v e x = elim v [ ]
  text_open p nest rest raw (Some q) v e x = record { raw = raw; rest = rest; valid = v; spelled = e; behind = x }

  in_name_open : (p : Part) (nest : List Bool) (rest raw : List ℕ) (o : Option Part) → TailOf o raw → ts ≡ raw ++ 34 ∷ rest → ColonNext limit nest rest → FollowsMove limit nest ts (to_name o)
  in_name_open p nest rest raw None v e x = elim v [ ]
  in_name_open p nest rest raw (Some q) v e x = record { raw = raw; rest = rest; valid = v; spelled = e; behind = x }

  move_true : (nest : List Bool) (b : Bool) (m n : Move) → b ≡ true → FollowsMove limit nest ts m → FollowsMove limit nest ts (cond b m n)
  move_true nest true m n h x = x
  move_true nest false m n h x = absurd (cc)

  move_false : (nest : List Bool) (b : Bool) (m n : Move) → b ≡ false → FollowsMove limit nest ts n → FollowsMove limit nest ts (cond b m n)
  move_false nest true m n h x = absurd (cc)
  move_false nest false m n h x = x

  text_back : (p : Part) (nest : List Bool) → StringThen p (After limit nest) (c ∷ ts) → FollowsMove limit nest ts (text_move p c)
  text_back p nest x =
      elim (string_split (After limit nest) p x.raw x.rest x.valid x.spelled x.behind) [
        | inl y ↦ move_true nest (closes p c) (To Ended) _ y.0 y.1
        | inr y ↦ move_false nest (closes p c) (To Ended) _ y.0 (text_open p nest x.rest y.1.0 (part_next p c) y.1.1 y.1.2 y.1.3)
      ]

  in_name_back : (p : Part) (nest : List Bool) → StringThen p (ColonNext limit nest) (c ∷ ts) → FollowsMove limit nest ts (in_name_move p c)
  in_name_back p nest x =
      elim (string_split (ColonNext limit nest) p x.raw x.rest x.valid x.spelled x.behind) [
        | inl y ↦ move_true nest (closes p c) (To ColonDue) _ y.0 y.1
        | inr y ↦ move_false nest (closes p c) (To ColonDue) _ y.0 (in_name_open p nest x.rest y.1.0 (part_next p c) y.1.1 y.1.2 y.1.3)
      ]

  -- what follows a byte, without the byte
  pub step_back : (m : Mode) (nest : List Bool) → Follows limit m nest (c ∷ ts) → FollowsMove limit nest ts (step m (around_of nest) c)
  unfolding step
  step_back ValueDue nest x = value_back nest x
  step_back ElementDue nest x = element_back nest x
  step_back NameDue nest x = name_back nest x
  step_back FirstNameDue nest x = first_name_back nest x
  step_back ColonDue nest x = colon_back nest x
  step_back Ended nest x = after_back nest x
  step_back (InWord w) nest x = word_back w nest x
  step_back (InNumber s) nest x = number_back s nest x.rest x.valid x.behind
  step_back (InText p) nest x = text_back p nest x
  step_back (InName p) nest x = in_name_back p nest x
