-- Functions are told again: the name, and what stands between its parentheses.
use Rattle.std.proofs.Common.{◌≡◌, ℕ, suc, ◌+◌, true, List, ◌++◌, Option, Some, None, refl, sym, ap, ◌∙◌, subst, arith, append_assoc, codes}
use Rattle.sql_tokens.specs.declared.class.Class.{Class}
use Rattle.sql_tokens.specs.declared.class.Class.TheVariants as k
use Rattle.sql_tokens.specs.Classes.{same_class}
use Rattle.sql_tokens.specs.Keywords.{class_of_word}
use Rattle.sql_tokens.specs.Cutting.{Symbol}
use Rattle.grammar_rules.specs.Rules.{takes}
use Rattle.grammar_rules.specs.Counted.{one_more, given, both, after, past}
use Rattle.grammar_rules.proofs.Printing.{spelled-one_more}
use Rattle.sql_grammar.specs.declared.tree.Expr.{Expr}
use Rattle.sql_grammar.specs.declared.tree.Expr.TheVariants as e
use Rattle.sql_grammar.specs.Marks.{too_many, of, Form, nullif_form, char_length_form, lower_form, upper_form, to_timestamp_form}
use Rattle.sql_grammar.specs.Expressions.{Counting, room_of, word, opening, enclosed, call, primary_of, primary}
use Rattle.sql_printed.specs.Shown.{shown, form, enclosed_text, behind, char_length_front, to_timestamp_front}
use Rattle.sql_printed.proofs.Telling.{is_clear, Starts, Cuts, Told, told-given, told-into}
use Rattle.sql_printed.proofs.Words.{is_word, called_name, comma_blank}
use Rattle.sql_printed.proofs.Again.{AllGood, good_left, good_right, counted_one, taken_one, Again, again-both, again-past}
use Rattle.sql_printed.proofs.Enclosed.{told-enclosed, open_room, more_room}
use Rattle.sql_printed.proofs.Levels.{inner_of, rule_at, Own, cuts-behind}
use Rattle.sql_printed.proofs.Folds.{shown_option, shown_nullif, shown_char_length, shown_lower, shown_upper, shown_to_timestamp}
use Rattle.sql_printed.proofs.Operators.{own-shown}

word_taken : (c : Class) (s : Symbol) → of c s ≡ true → word c s ≡ takes s
word_taken c s e = rw e refl

-- a function's name, which counts, and its parentheses
told-call : {A : Type 0} (c : Class) (w : List ℕ) (I : ℕ → Counting A) (d n m : ℕ) (a : A) (text : List ℕ) → is_word w ≡ true → same_class c (class_of_word true w) ≡ true
    → Told I d n m a (enclosed_text text) → Told (λ f. after (one_more too_many (word c)) (λ s. I f)) d (suc n) m a (w ++ enclosed_text text)
told-call c w I d n m a text i s t = record {
  used = suc t.used;
  within = let p = t.within in omega arith;
  prints = λ f below j place rest clear.
      let z : suc (t.used + j) ≡ suc t.used + j = omega arith in
      let first = called_name c w ((text ++ codes ")") ++ rest) place i s in
      let body = t.prints f below j first.next rest clear in
      let one = spelled-one_more too_many (word c) first.symbol first.symbol (suc (t.used + j)) (t.used + j) refl (word_taken c first.symbol first.passes) in
      subst (λ x. Cuts (after (one_more too_many (word c)) (λ s. I f) x) (a, j) (w ++ enclosed_text text) rest place) z
      (cuts-behind (one_more too_many (word c) (suc (t.used + j))) (λ p. I f p.1) (first.symbol, t.used + j) (a, j) w (enclosed_text text) rest place first.next first.symbol first.is first.fit one body);
}

-- what stands between a function's parentheses, and the text of the whole
pub record Shows (w : List ℕ) (I : ℕ → Counting Expr) (d n m : ℕ) (x : Expr) : Type 0 where
  pub text : List ℕ
  pub is : shown x ≡ form 0 (w ++ enclosed_text text)
  pub told : Told I d n m x text

abbrev pub Forms : List ℕ → Counting Expr → (ℕ → Counting Expr) → ℕ → Type 0
Forms w G I d = (n : ℕ) (p : Expr × ℕ) (ts : List Symbol) → AllGood ts → (G n).Spells p ts → Shows w I d n p.1 p.0

pub forms-given : {B : Type 0} (w : List ℕ) (node : B → Expr) (G : Counting B) (I : ℕ → Counting B) (d : ℕ) (print : B → List ℕ) → ((b : B) → shown (node b) ≡ form 0 (w ++ enclosed_text (print b))) → Again G I d print
    → Forms w (given node G) (λ f. given node (I f)) d
forms-given w node G I d print is g n p ts good x =
    subst (λ v. Shows w (λ f. given node (I f)) d n v.1 v.0) x.1
    (record { text = print x.0.0; is = is x.0.0; told = told-given I d node n x.0.1 x.0.0 (print x.0.0) (g n x.0 ts good x.2) })

record Inside (w : List ℕ) (I : ℕ → Counting Expr) (d n m : ℕ) (x : Expr) : Type 0 where
  text : List ℕ
  is : shown x ≡ form 0 (w ++ enclosed_text text)
  told : Told I d n m x (enclosed_text text)

enclosed_one : (d : ℕ) (G : Counting Expr) (I : ℕ → Counting Expr) (w : List ℕ) (n : ℕ) (p : Expr × ℕ) (ts : List Symbol) → Forms w G I d → AllGood ts → (enclosed (room_of d).here G n).Spells p ts
    → Inside w (λ f. enclosed (room_of f).here (I f)) d n p.1 p.0
enclosed_one d G I w n p ts h good j =
    let s = taken_one (opening (room_of d).here k.LeftParenthesis) j.value j.left j.whole in
    let r = open_room (room_of d).here k.LeftParenthesis s.symbol j.value s.taken in
    let b = j.after in
    let x = h n b.value b.left (good_left j.right b.left b.right b.joined (good_right ts j.left j.right j.joined good)) b.whole in
    subst (λ v. Inside w (λ f. enclosed (room_of f).here (I f)) d n v.1 v.0) b.after.1
    (record { text = x.text; is = x.is; told = told-enclosed (λ f. (room_of f).here) I d n b.value.1 b.value.0 x.text (λ f below. more_room d f below r) x.told })

pub own-call : (d : ℕ) (c : Class) (w : List ℕ) (known : Form) (G : Counting Expr) (I : ℕ → Counting Expr) → is_word w ≡ true → same_class c (class_of_word true w) ≡ true
    → ((f n : ℕ) (p : Expr × ℕ) (ts : List Symbol) → (call (room_of f) (inner_of f) c (I f) n).Spells p ts → (primary_of (room_of f) (inner_of f) known n).Spells p ts)
    → Forms w G I d → (n : ℕ) (p : Expr × ℕ) (ts : List Symbol) → AllGood ts → (call (room_of d) (inner_of d) c G n).Spells p ts → Own d n p.1 0 p.0
unfolding primary
own-call d c w known G I i s into h n p ts good j =
    let one = counted_one too_many (word c) n j.value j.left j.whole in
    let y = enclosed_one d G I w j.value.1 p j.right h (good_right ts j.left j.right j.joined good) j.after in
    let t = told-call c w (λ f. enclosed (room_of f).here (I f)) d j.value.1 p.1 p.0 y.text i s y.told in
    let u = subst (λ x. Told (λ f. call (room_of f) (inner_of f) c (I f)) d x p.1 p.0 (w ++ enclosed_text y.text)) (sym one.counts) t in
    own-shown d n p.1 0 p.0 (w ++ enclosed_text y.text) y.is refl refl
    (told-into (λ f. call (room_of f) (inner_of f) c (I f)) d n p.1 p.0 (w ++ enclosed_text y.text) u (rule_at 0) p.0 (λ f m l us v. (known, into f l (p.0, m) us v)))

-- ---- the functions whose arguments are expressions

-- an expression behind a comma
starts_comma : (x : Expr) → Starts (codes ", " ++ (shown x).text)
unfolding is_clear
starts_comma x rest c = refl

abbrev count_text : Option Expr → List ℕ
count_text count = behind (codes ", ") (shown_option count)

starts_count : (o : Option Expr) → Starts (count_text o)
unfolding is_clear
starts_count None rest c = c
starts_count (Some x) rest c = refl

module _ (d : ℕ) (inside : Again (inner_of d) inner_of d (λ x. (shown x).text)) where
  second : Again (past (of k.Comma) (inner_of d)) (λ f. past (of k.Comma) (inner_of f)) d (λ x. codes ", " ++ (shown x).text)
  second = again-past (of k.Comma) (inner_of d) inner_of d (codes ", ") (λ x. (shown x).text) comma_blank inside

  pub own-lower : (n : ℕ) (p : Expr × ℕ) (ts : List Symbol) → AllGood ts → (primary_of (room_of d) (inner_of d) lower_form n).Spells p ts → Own d n p.1 0 p.0
  unfolding class_of_word same_class
  own-lower = own-call d k.LowerCalled (codes "LOWER") lower_form (given e.Lower (inner_of d)) (λ f. given e.Lower (inner_of f)) refl refl (λ f n p ts w. w)
      (forms-given (codes "LOWER") e.Lower (inner_of d) inner_of d (λ x. (shown x).text) shown_lower inside)

  pub own-upper : (n : ℕ) (p : Expr × ℕ) (ts : List Symbol) → AllGood ts → (primary_of (room_of d) (inner_of d) upper_form n).Spells p ts → Own d n p.1 0 p.0
  unfolding class_of_word same_class
  own-upper = own-call d k.UpperCalled (codes "UPPER") upper_form (given e.Upper (inner_of d)) (λ f. given e.Upper (inner_of f)) refl refl (λ f n p ts w. w)
      (forms-given (codes "UPPER") e.Upper (inner_of d) inner_of d (λ x. (shown x).text) shown_upper inside)

  pub own-char_length : (n : ℕ) (p : Expr × ℕ) (ts : List Symbol) → AllGood ts → (primary_of (room_of d) (inner_of d) char_length_form n).Spells p ts → Own d n p.1 0 p.0
  unfolding class_of_word same_class char_length_front
  own-char_length = own-call d k.CharLengthCalled (codes "CHAR_LENGTH") char_length_form (given e.CharLength (inner_of d)) (λ f. given e.CharLength (inner_of f)) refl refl (λ f n p ts w. w)
      (forms-given (codes "CHAR_LENGTH") e.CharLength (inner_of d) inner_of d (λ x. (shown x).text) shown_char_length inside)

  pub own-to_timestamp : (n : ℕ) (p : Expr × ℕ) (ts : List Symbol) → AllGood ts → (primary_of (room_of d) (inner_of d) to_timestamp_form n).Spells p ts → Own d n p.1 0 p.0
  unfolding class_of_word same_class to_timestamp_front
  own-to_timestamp = own-call d k.ToTimestampCalled (codes "TO_TIMESTAMP") to_timestamp_form (given e.ToTimestamp (inner_of d)) (λ f. given e.ToTimestamp (inner_of f)) refl refl (λ f n p ts w. w)
      (forms-given (codes "TO_TIMESTAMP") e.ToTimestamp (inner_of d) inner_of d (λ x. (shown x).text) shown_to_timestamp inside)

  nullif_is : (p : Expr × Expr) → shown (e.NullIf p.0 p.1) ≡ form 0 (codes "NULLIF" ++ enclosed_text ((shown p.0).text ++ (codes ", " ++ (shown p.1).text)))
  nullif_is p = shown_nullif p.0 p.1 ∙ ap (λ l. form 0 (codes "NULLIF(" ++ l)) (ap (λ l. (shown p.0).text ++ l) (sym (append_assoc (codes ", ") (shown p.1).text (codes ")"))) ∙ sym (append_assoc (shown p.0).text (codes ", " ++ (shown p.1).text) (codes ")")))

  pub own-nullif : (n : ℕ) (p : Expr × ℕ) (ts : List Symbol) → AllGood ts → (primary_of (room_of d) (inner_of d) nullif_form n).Spells p ts → Own d n p.1 0 p.0
  unfolding class_of_word same_class
  own-nullif = own-call d k.NullifCalled (codes "NULLIF") nullif_form (given (λ p. e.NullIf p.0 p.1) (both (inner_of d) (past (of k.Comma) (inner_of d)))) (λ f. given (λ p. e.NullIf p.0 p.1) (both (inner_of f) (past (of k.Comma) (inner_of f)))) refl refl (λ f n p ts w. w)
      (forms-given (codes "NULLIF") (λ p. e.NullIf p.0 p.1) (both (inner_of d) (past (of k.Comma) (inner_of d))) (λ f. both (inner_of f) (past (of k.Comma) (inner_of f))) d (λ p. (shown p.0).text ++ (codes ", " ++ (shown p.1).text)) nullif_is
      (again-both (inner_of d) (past (of k.Comma) (inner_of d)) inner_of (λ f. past (of k.Comma) (inner_of f)) d (λ x. (shown x).text) (λ x. codes ", " ++ (shown x).text) starts_comma inside second))
