-- Names that stand in a text are printed as names.
use Rattle.std.proofs.Common.{◌≡◌, ℕ, ◌+◌, ◌<◌, ◌==◌, ◌&&◌, ◌||◌, not, Bool, true, false, List, [], ◌∷◌, ◌++◌, length, refl, ap, arith, if◌then◌else◌}
use Rattle.std.specs.Str.{str_eq_ignore_ascii_case}
use Rattle.std.proofs.lemmas.Bool.Decides.{nat_tests}
use Rattle.sql_tokens.specs.declared.class.Class.{Class}
use Rattle.sql_tokens.specs.declared.class.Class.TheVariants as k
use Rattle.sql_tokens.specs.Keywords.{Keyword, keywords, class_in, class_of_word}
use Rattle.sql_tokens.specs.TokenForms.{Token, word, quoted_name, text_literal, whole_number, point_number, exponent_number, punctuation, unfit, class_of, is_word_byte, begins, is_called}
use Rattle.sql_tokens.specs.Cutting.{Symbol, cut, is_unfit}
use Rattle.sql_tokens.specs.Payloads.{undoubled}
use Rattle.std.specs.Prelude.{pos, negsuc}
use Rattle.sql_decimal.specs.declared.number.Num.{Num}
use Rattle.sql_decimal.specs.declared.number.Num.TheVariants.{Int, Dec}
use Rattle.sql_decimal.specs.Decimal.{Decimal, IsDecimal, is_negative}
use Rattle.sql_decimal.specs.Printing.{read_back}
use Rattle.sql_grammar.specs.declared.tree.Name.{Name}
use Rattle.sql_grammar.specs.Marks.{class, is_name, name_of, number_in}
use Rattle.sql_printed.specs.Shown.{name_text, doubled}
use Rattle.sql_printed.proofs.Telling.{is_clear, ends_words}
use Rattle.sql_printed.proofs.Words.{is_word, and_left, and_right, cut_word}
use Rattle.sql_printed.proofs.Quotes.{undoubled_doubled, cut_quoted}

-- ---- what may stand behind a name

abbrev pub after_name : List ℕ → Bool
after_name rest = not (begins is_word_byte rest) && (not (begins (λ c. c == 34) rest) && not (is_called rest))

not_true : (t : Bool) → not t ≡ true → t ≡ false
not_true true e = cc
not_true false e = refl

clear_first : (rest : List ℕ) → ends_words rest ≡ true → (begins is_word_byte rest ≡ false) × (begins (λ c. c == 34) rest ≡ false)
clear_first [] e = (refl, refl)
clear_first (b ∷ rest) e = (grind (arith, nat_tests), grind (arith, nat_tests))

pub clear_words : (rest : List ℕ) → is_clear rest ≡ true → begins is_word_byte rest ≡ false
unfolding is_clear
clear_words rest e = (clear_first rest (and_left (ends_words rest) (not (is_called rest)) e)).0

pub clear_name : (rest : List ℕ) → is_clear rest ≡ true → after_name rest ≡ true
unfolding is_clear
clear_name rest e =
    let f = clear_first rest (and_left (ends_words rest) (not (is_called rest)) e) in
    let g : not (is_called rest) ≡ true = and_right (ends_words rest) (not (is_called rest)) e in
    rw (f.0, f.1) g

-- ---- keywords that are names before `(` are names elsewhere

abbrev pub keeps : (Class → Bool) → List Keyword → Bool
keeps test [] = not (test k.NameCalled) || test k.Name
keeps test (w ∷ ws) = (not (test w.called) || test w.plain) && keeps test ws

implied : (a b : Bool) → (not a || b) ≡ true → a ≡ true → b ≡ true
implied true b e f = e
implied false b e f = cc

kept : (test : Class → Bool) (ws : List Keyword) (called : Bool) (text : List ℕ) → keeps test ws ≡ true → test (class_in ws called text) ≡ true → test (class_in ws false text) ≡ true
kept test [] true text h e = implied (test k.NameCalled) (test k.Name) h e
kept test [] false text h e = e
kept test (w ∷ ws) called text h e =
    let P : Bool → Type 0 = λ t. test (if t then (if called then w.called else w.plain) else class_in ws called text) ≡ true → test (if t then w.plain else class_in ws false text) ≡ true in
    let Q : Bool → Type 0 = λ c. test (if c then w.called else w.plain) ≡ true → test w.plain ≡ true in
    (elim (str_eq_ignore_ascii_case w.word text) as P [
      | true ↦ (elim called as Q [ true ↦ λ f. implied (test w.called) (test w.plain) (and_left (not (test w.called) || test w.plain) (keeps test ws) h) f | false ↦ λ f. f ])
      | false ↦ λ f. kept test ws called text (and_right (not (test w.called) || test w.plain) (keeps test ws) h) f
    ]) e

uncalled : (test : Class → Bool) (called : Bool) (text : List ℕ) → keeps test keywords ≡ true → test (class_of_word called text) ≡ true → test (class_of_word false text) ≡ true
unfolding class_of_word
uncalled test called text h e = kept test keywords called text h e

-- ---- names

-- a name's text is the token of that name, of a class that passes the test
pub record NameCut (test : Class → Bool) (n : Name) (rest : List ℕ) (at : ℕ) : Type 0 where
  pub symbol : Symbol
  pub next : ℕ
  pub is : cut at (name_text n ++ rest) ≡ symbol ∷ cut next rest
  pub passes : test (class symbol) ≡ true
  pub names : name_of symbol.token ≡ n
  pub fit : is_unfit symbol.token ≡ false

abbrev pub NamePrints : (Class → Bool) → Name → Type 0
NamePrints test n = (at : ℕ) (rest : List ℕ) → after_name rest ≡ true → NameCut test n rest at

word_prints : (test : Class → Bool) (called : Bool) (w : List ℕ) → keeps test keywords ≡ true → is_word w ≡ true → test (class_of_word called w) ≡ true → NamePrints test (record { text = w; quoted = false })
word_prints test called w h i e at rest a =
    let f = not_true (begins is_word_byte rest) (and_left (not (begins is_word_byte rest)) (not (begins (λ c. c == 34) rest) && not (is_called rest)) a) in
    let g = and_right (not (begins is_word_byte rest)) (not (begins (λ c. c == 34) rest) && not (is_called rest)) a in
    let c = not_true (is_called rest) (and_right (not (begins (λ c. c == 34) rest)) (not (is_called rest)) g) in
    record {
      symbol = record { at = at; token = word (is_called rest) w };
      next = at + length w;
      is = cut_word at w rest i f;
      passes = rw c (uncalled test called w h e);
      names = refl;
      fit = refl;
    }

quoted_prints : (test : Class → Bool) (t : List ℕ) → 0 < length t → test k.QuotedName ≡ true → NamePrints test (record { text = t; quoted = true })
quoted_prints test t some e at rest a =
    let g = and_right (not (begins is_word_byte rest)) (not (begins (λ c. c == 34) rest) && not (is_called rest)) a in
    let f = not_true (begins (λ c. c == 34) rest) (and_left (not (begins (λ c. c == 34) rest)) (not (is_called rest)) g) in
    let c = not_true (is_called rest) (and_right (not (begins (λ c. c == 34) rest)) (not (is_called rest)) g) in
    record {
      symbol = record { at = at; token = quoted_name (is_called rest) (doubled 34 t) };
      next = at + (length (doubled 34 t) + 2);
      is = cut_quoted at t rest some f;
      passes = rw c e;
      names = ap (λ l. record { text = l; quoted = true }) (undoubled_doubled 34 t);
      fit = refl;
    }

-- ---- tokens that stand in a text

-- a decimal that a number text has: not below zero, and no Int
pub record DecimalFit (d : Decimal) : Type 0 where
  pub decimal : IsDecimal d
  pub positive : is_negative d.coefficient ≡ false
  pub reads : read_back d ≡ Dec d

abbrev pub NumberFit : Num → Type 0
NumberFit (Int (pos n)) = n < 9223372036854775808
NumberFit (Int (negsuc n)) = ⊥
NumberFit (Dec d) = DecimalFit d

abbrev pub GoodToken : Token → Type 0
GoodToken (word called w) = is_word w ≡ true
GoodToken (quoted_name called raw) = 0 < length raw
GoodToken (text_literal raw) = Unit {0}
GoodToken (whole_number raw) = NumberFit (number_in (whole_number raw))
GoodToken (point_number raw) = NumberFit (number_in (point_number raw))
GoodToken (exponent_number raw) = Unit {0}
GoodToken (punctuation c) = is_name c ≡ false
GoodToken (unfit raw) = Unit {0}

some_once : (q : ℕ) (raw : List ℕ) → 0 < length raw → 0 < length (undoubled q raw)
unfolding undoubled
some_once q [] l = l
some_once q (b ∷ raw) l = omega arith

no_name : {A : Type 0} (test : Class → Bool) (c : Class) → ((c : Class) → test c ≡ true → is_name c ≡ true) → is_name c ≡ false → test c ≡ true → A
no_name test c n f e = let t = n c e in absurd (let no : ⊥ = cc in no)

pub name_prints : (test : Class → Bool) (t : Token) → keeps test keywords ≡ true → ((c : Class) → test c ≡ true → is_name c ≡ true) → (test k.QuotedNameCalled ≡ true → test k.QuotedName ≡ true) → GoodToken t → test (class_of t) ≡ true → NamePrints test (name_of t)
name_prints test (word called w) h n q g e = word_prints test called w h g e
name_prints test (quoted_name true raw) h n q g e = quoted_prints test (undoubled 34 raw) (some_once 34 raw g) (q e)
name_prints test (quoted_name false raw) h n q g e = quoted_prints test (undoubled 34 raw) (some_once 34 raw g) e
name_prints test (text_literal raw) h n q g e = no_name test k.Text n refl e
name_prints test (whole_number raw) h n q g e = no_name test k.WholeNumber n refl e
name_prints test (point_number raw) h n q g e = no_name test k.PointNumber n refl e
name_prints test (exponent_number raw) h n q g e = no_name test k.ExponentNumber n refl e
name_prints test (punctuation c) h n q g e = no_name test c n g e
name_prints test (unfit raw) h n q g e = no_name test k.Unfit n refl e
