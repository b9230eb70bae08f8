-- The tokens of printed words and symbols.
use Rattle.std.proofs.Common.{◌≡◌, ℕ, ◌+◌, ◌&&◌, ◌||◌, Bool, true, false, List, [], ◌∷◌, ◌++◌, length, refl, ◌∙◌, append_assoc, arith, codes, if◌then◌else◌}
use Rattle.std.specs.List.{prefix_len}
use Rattle.std.specs.Char.{is_ascii_digit}
use Rattle.std.proofs.lemmas.Bool.Decides.{nat_tests}
use Rattle.std.proofs.Math.Seq.{take-append_seam, drop-append_seam}
use Rattle.sql_tokens.specs.declared.class.Class.{Class}
use Rattle.sql_tokens.specs.declared.class.Class.TheVariants as k
use Rattle.sql_tokens.specs.Classes.{same_class}
use Rattle.sql_tokens.specs.Keywords.{class_of_word}
use Rattle.sql_tokens.specs.TokenForms.{word, punctuation, is_blank, is_letter, is_word_byte, begins, is_called, word_by, token_from, punctuation_token}
use Rattle.sql_tokens.specs.Cutting.{Symbol, cut}
use Rattle.sql_tokens.proofs.CutSteps.{cut_token}
use Rattle.sql_grammar.specs.Marks.{of}
use Rattle.sql_printed.proofs.Telling.{IsWord, Word}

-- ---- words

abbrev pub all_word : List ℕ → Bool
all_word [] = true
all_word (b ∷ bs) = is_word_byte b && all_word bs

-- a letter or `_`, then letters, digits and `_`
abbrev pub is_word : List ℕ → Bool
is_word [] = false
is_word (b ∷ bs) = is_letter b && all_word bs

pub and_left : (a b : Bool) → (a && b) ≡ true → a ≡ true
and_left true b e = refl
and_left false b e = cc

pub and_right : (a b : Bool) → (a && b) ≡ true → b ≡ true
and_right true b e = e
and_right false b e = cc

or_left : (a b : Bool) → a ≡ true → (a || b) ≡ true
or_left true b e = refl
or_left false b e = cc

pub if_true : {A : Type 0} (t : Bool) (x y : A) → t ≡ true → (if t then x else y) ≡ x
if_true true x y e = refl
if_true false x y e = cc

pub if_false : {A : Type 0} (t : Bool) (x y : A) → t ≡ false → (if t then x else y) ≡ y
if_false true x y e = cc
if_false false x y e = refl

word_run : (w rest : List ℕ) → all_word w ≡ true → begins is_word_byte rest ≡ false → prefix_len is_word_byte (w ++ rest) ≡ length w
word_run [] [] a e = refl
word_run [] (r ∷ rest) a e = rw e refl
word_run (b ∷ w) rest a e =
    let f : is_word_byte b ≡ true = and_left (is_word_byte b) (all_word w) a in
    let more = word_run w rest (and_right (is_word_byte b) (all_word w) a) e in
    rw (f, more) (omega arith)

letter_no_blank : (b : ℕ) → is_letter b ≡ true → is_blank b ≡ false
letter_no_blank b e = grind (arith, nat_tests)

word_from : (b : ℕ) (w rest : List ℕ) → is_word (b ∷ w) ≡ true → begins is_word_byte rest ≡ false → token_from b (w ++ rest) ≡ word (is_called rest) (b ∷ w)
unfolding token_from
word_from b w rest i e =
    let l : is_letter b ≡ true = and_left (is_letter b) (all_word w) i in
    let o : is_word_byte b ≡ true = or_left (is_letter b) (is_ascii_digit b) l in
    let all : all_word (b ∷ w) ≡ true = rw o (and_right (is_letter b) (all_word w) i) in
    let run : prefix_len is_word_byte ((b ∷ w) ++ rest) ≡ length (b ∷ w) = word_run (b ∷ w) rest all e in
    let s : word_by (prefix_len is_word_byte ((b ∷ w) ++ rest)) ((b ∷ w) ++ rest) ≡ word (is_called rest) (b ∷ w) =
    rw run (rw (take-append_seam (b ∷ w) rest, drop-append_seam (b ∷ w) rest) refl) in
    if_true (is_letter b) (word_by (prefix_len is_word_byte ((b ∷ w) ++ rest)) ((b ∷ w) ++ rest)) _ l ∙ s

-- a word, where no word byte follows
pub cut_word : (at : ℕ) (w rest : List ℕ) → is_word w ≡ true → begins is_word_byte rest ≡ false
    → cut at (w ++ rest) ≡ record { at = at; token = word (is_called rest) w } ∷ cut (at + length w) rest
cut_word at [] rest i e = cc
cut_word at (b ∷ w) rest i e =
    let n : is_blank b ≡ false = letter_no_blank b (and_left (is_letter b) (all_word w) i) in
    let t = word_from b w rest i e in
    let c = cut_token at b (w ++ rest) n in
    rw t at c ∙ rw (drop-append_seam (b ∷ w) rest) refl

-- a keyword, whatever follows
abbrev pub always_is : Class → List ℕ → Bool
always_is c w = is_word w && (same_class c (class_of_word true w) && same_class c (class_of_word false w))

keyword_passes : (c : Class) (w : List ℕ) (called : Bool) → (same_class c (class_of_word true w) && same_class c (class_of_word false w)) ≡ true → same_class c (class_of_word called w) ≡ true
keyword_passes c w true e = and_left (same_class c (class_of_word true w)) (same_class c (class_of_word false w)) e
keyword_passes c w false e = and_right (same_class c (class_of_word true w)) (same_class c (class_of_word false w)) e

pub keyword : (c : Class) (w rest : List ℕ) (at : ℕ) → always_is c w ≡ true → begins is_word_byte rest ≡ false → IsWord (of c) w rest at
keyword c w rest at e b = record {
  symbol = record { at = at; token = word (is_called rest) w };
  next = at + length w;
  is = cut_word at w rest (and_left (is_word w) (same_class c (class_of_word true w) && same_class c (class_of_word false w)) e) b;
  passes = keyword_passes c w (is_called rest) (and_right (is_word w) (same_class c (class_of_word true w) && same_class c (class_of_word false w)) e);
  fit = refl;
}

-- a function's name, before `(`
pub called_name : (c : Class) (w rest : List ℕ) (at : ℕ) → is_word w ≡ true → same_class c (class_of_word true w) ≡ true → IsWord (of c) w (40 ∷ rest) at
called_name c w rest at i e = record {
  symbol = record { at = at; token = word true w };
  next = at + length w;
  is = cut_word at w (40 ∷ rest) i refl;
  passes = e;
  fit = refl;
}

-- ---- blanks

-- a blank in front
pub blank_before : (test : Symbol → Bool) (text rest : List ℕ) (at : ℕ) → IsWord test text rest (at + 1) → IsWord test (32 ∷ text) rest at
unfolding cut
blank_before test text rest at w = record { symbol = w.symbol; next = w.next; is = w.is; passes = w.passes; fit = w.fit }

-- a blank behind
pub blank_behind : (test : Symbol → Bool) (text rest : List ℕ) (at : ℕ) → IsWord test text (32 ∷ rest) at → IsWord test (text ++ 32 ∷ []) rest at
unfolding cut
blank_behind test text rest at w = record {
  symbol = w.symbol;
  next = w.next + 1;
  is = let e : (text ++ 32 ∷ []) ++ rest ≡ text ++ (32 ∷ rest) = append_assoc text (32 ∷ []) rest in rw e w.is;
  passes = w.passes;
  fit = w.fit;
}

-- a keyword and a blank
pub keyword_blank : (c : Class) (w : List ℕ) → always_is c w ≡ true → Word (of c) (w ++ 32 ∷ [])
keyword_blank c w e at rest = blank_behind (of c) w rest at (keyword c w (32 ∷ rest) at e refl)

-- a keyword between blanks
pub keyword_blanks : (c : Class) (w : List ℕ) → always_is c w ≡ true → Word (of c) (32 ∷ (w ++ 32 ∷ []))
keyword_blanks c w e at rest = blank_before (of c) (w ++ 32 ∷ []) rest at (keyword_blank c w e (at + 1) rest)

-- a keyword behind a blank
pub keyword_behind : (c : Class) (w rest : List ℕ) (at : ℕ) → always_is c w ≡ true → begins is_word_byte rest ≡ false → IsWord (of c) (32 ∷ w) rest at
keyword_behind c w rest at e b = blank_before (of c) w rest at (keyword c w rest (at + 1) e b)

-- ---- symbols

pub left : Word (of k.LeftParenthesis) (codes "(")
unfolding cut token_from punctuation_token same_class
left at rest = record { symbol = record { at = at; token = punctuation k.LeftParenthesis }; next = at + 1; is = refl; passes = refl; fit = refl }

pub right : Word (of k.RightParenthesis) (codes ")")
unfolding cut token_from punctuation_token same_class
right at rest = record { symbol = record { at = at; token = punctuation k.RightParenthesis }; next = at + 1; is = refl; passes = refl; fit = refl }

pub left_bracket : Word (of k.LeftBracket) (codes "[")
unfolding cut token_from punctuation_token same_class
left_bracket at rest = record { symbol = record { at = at; token = punctuation k.LeftBracket }; next = at + 1; is = refl; passes = refl; fit = refl }

pub right_bracket : Word (of k.RightBracket) (codes "]")
unfolding cut token_from punctuation_token same_class
right_bracket at rest = record { symbol = record { at = at; token = punctuation k.RightBracket }; next = at + 1; is = refl; passes = refl; fit = refl }

pub star : Word (of k.Star) (codes "*")
unfolding cut token_from punctuation_token same_class
star at rest = record { symbol = record { at = at; token = punctuation k.Star }; next = at + 1; is = refl; passes = refl; fit = refl }

pub minus : Word (of k.Minus) (codes "-")
unfolding cut token_from punctuation_token same_class
minus at rest = record { symbol = record { at = at; token = punctuation k.Minus }; next = at + 1; is = refl; passes = refl; fit = refl }

pub comma : Word (of k.Comma) (codes ",")
unfolding cut token_from punctuation_token same_class
comma at rest = record { symbol = record { at = at; token = punctuation k.Comma }; next = at + 1; is = refl; passes = refl; fit = refl }

pub comma_blank : Word (of k.Comma) (codes ", ")
comma_blank at rest = blank_behind (of k.Comma) (codes ",") rest at (comma at (32 ∷ rest))

-- a point, where no digit follows
pub dot : (rest : List ℕ) (at : ℕ) → begins is_ascii_digit rest ≡ false → IsWord (of k.Dot) (codes ".") rest at
unfolding cut token_from punctuation_token same_class
dot rest at e = record { symbol = record { at = at; token = punctuation k.Dot }; next = at + 1; is = rw e refl; passes = refl; fit = refl }
