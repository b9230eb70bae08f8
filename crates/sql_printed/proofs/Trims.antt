-- TRIM is told again.
use Rattle.std.proofs.Common.{◌≡◌, ℕ, ◌+◌, true, false, List, ◌++◌, Option, Some, None, refl, sym, ap, ◌∙◌, subst, arith, append_assoc, codes}
use Rattle.sql_tokens.specs.declared.class.Class.TheVariants as k
use Rattle.sql_tokens.specs.Classes.{same_class}
use Rattle.sql_tokens.specs.Keywords.{class_of_word}
use Rattle.sql_tokens.specs.TokenForms.{begins, is_word_byte}
use Rattle.sql_tokens.specs.Cutting.{Symbol}
use Rattle.text_view.specs.declared.view.Side.{Side}
use Rattle.text_view.specs.declared.view.Side.TheVariants as side
use Rattle.grammar_rules.specs.Rules.{takes, terminal, either}
use Rattle.grammar_rules.specs.Counted.{plain, given, after, past}
use Rattle.sql_grammar.specs.declared.tree.Expr.{Expr}
use Rattle.sql_grammar.specs.declared.tree.Expr.TheVariants as e
use Rattle.sql_grammar.specs.Marks.{of, one_told, told_by, trim_form}
use Rattle.sql_grammar.specs.Expressions.{Counting, room_of, perhaps, trim_side, side_or_both, trim_set, primary_of}
use Rattle.sql_printed.specs.Shown.{shown, form, enclosed_text, side_text}
use Rattle.sql_printed.proofs.Telling.{Starts, Told, told-given, told-into, told-past, cuts-sequence}
use Rattle.sql_printed.proofs.Again.{AllGood, good_left, good_right, IsOne, Again}
use Rattle.sql_printed.proofs.Folds.{shown_trim}
use Rattle.sql_printed.proofs.Levels.{inner_of, Own, cuts-behind}
use Rattle.sql_printed.proofs.Sentences.{word_taken}
use Rattle.sql_printed.proofs.Calls.{own-call, Shows}
use Rattle.sql_printed.proofs.Primaries.{from_word, starts_from}
use Rattle.sql_printed.proofs.Cases.{told-blank}

-- ---- one after the other, where the first one's value tells what follows

told-after : {A B : Type 0} (G : ℕ → Counting A) (H : ℕ → A → Counting B) (d n m l : ℕ) (a : A) (b : B) (text more : List ℕ) → Starts more → Told G d n m a text → Told (λ f. H f a) d m l b more
    → Told (λ f. after (G f) (H f)) d n l b (text ++ more)
told-after G H d n m l a b text more s g h = record {
  used = g.used + h.used;
  within = let p = g.within in let q = h.within in omega arith;
  prints = λ f below j place rest c.
      let sum : g.used + h.used + j ≡ g.used + (h.used + j) = omega arith in
      let first = g.prints f below (h.used + j) place (more ++ rest) (s rest c) in
      let second = h.prints f below j first.next rest c in
      rw sum (cuts-sequence (G f (g.used + (h.used + j))) (λ p. H f p.0 p.1) (a, h.used + j) (b, j) text more rest place first second);
}

-- ---- sides

side_looks : (s : Side) (rest : List ℕ) (place : ℕ) → begins is_word_byte rest ≡ false → IsOne (one_told trim_side) s (side_text s) rest place
unfolding class_of_word
side_looks side.Leading rest place b = word_taken (one_told trim_side) side.Leading (codes "LEADING") rest place refl (λ c at. elim c as (λ c. told_by (trim_side (class_of_word c (codes "LEADING"))) ≡ takes side.Leading) [ true ↦ refl | false ↦ refl ]) b
side_looks side.Trailing rest place b = word_taken (one_told trim_side) side.Trailing (codes "TRAILING") rest place refl (λ c at. elim c as (λ c. told_by (trim_side (class_of_word c (codes "TRAILING"))) ≡ takes side.Trailing) [ true ↦ refl | false ↦ refl ]) b
side_looks side.Both rest place b = word_taken (one_told trim_side) side.Both (codes "BOTH") rest place refl (λ c at. elim c as (λ c. told_by (trim_side (class_of_word c (codes "BOTH"))) ≡ takes side.Both) [ true ↦ refl | false ↦ refl ]) b

abbrev sides : Counting Side
sides = plain (terminal (one_told trim_side))

told-side : {B : Type 0} (H : ℕ → Side → Counting B) (d n l : ℕ) (s : Side) (b : B) (more : List ℕ) → ((r : List ℕ) → begins is_word_byte (more ++ r) ≡ false) → Told (λ f. H f s) d n l b more
    → Told (λ f. after sides (H f)) d n l b (side_text s ++ more)
told-side H d n l s b more blank t = record {
  used = t.used;
  within = t.within;
  prints = λ f below j place rest c.
      let first = side_looks s (more ++ rest) place (blank rest) in
      let body = t.prints f below j first.next rest c in
      cuts-behind (sides (t.used + j)) (λ p. H f p.0 p.1) (s, t.used + j) (b, j) (side_text s) more rest place first.next first.symbol first.is first.fit (s, refl, first.taken) body;
}

-- ---- TRIM

abbrev from_rule : Side → Option Expr → ℕ → Counting Expr
from_rule s set f = past (of k.From) (given (λ a. e.Trim s set a) (inner_of f))

abbrev set_rule : Option Side → ℕ → Counting Expr
set_rule s f = perhaps (inner_of f) (λ set. from_rule (side_or_both s) set f)

abbrev trim_at : ℕ → Counting Expr
trim_at f n = either (trim_set (room_of f) (inner_of f) n) (given (λ a. e.Trim side.Both None a) (inner_of f) n)

abbrev some_text : Side → Expr → Expr → List ℕ
some_text s set a = side_text s ++ (codes " " ++ ((shown set).text ++ (codes " FROM " ++ (shown a).text)))

some_same : (s : Side) (set a : Expr) → (side_text s ++ (codes " " ++ ((shown set).text ++ codes " FROM "))) ++ ((shown a).text ++ codes ")") ≡ some_text s set a ++ codes ")"
some_same side.Leading set a = ap (λ l. codes "LEADING " ++ l) (append_assoc (shown set).text (codes " FROM ") ((shown a).text ++ codes ")") ∙ sym (append_assoc (shown set).text (codes " FROM " ++ (shown a).text) (codes ")")))
some_same side.Trailing set a = ap (λ l. codes "TRAILING " ++ l) (append_assoc (shown set).text (codes " FROM ") ((shown a).text ++ codes ")") ∙ sym (append_assoc (shown set).text (codes " FROM " ++ (shown a).text) (codes ")")))
some_same side.Both set a = ap (λ l. codes "BOTH " ++ l) (append_assoc (shown set).text (codes " FROM ") ((shown a).text ++ codes ")") ∙ sym (append_assoc (shown set).text (codes " FROM " ++ (shown a).text) (codes ")")))

some_is : (s : Side) (set a : Expr) → shown (e.Trim s (Some set) a) ≡ form 0 (codes "TRIM" ++ enclosed_text (some_text s set a))
some_is s set a = shown_trim s (Some set) a ∙ ap (λ l. form 0 (codes "TRIM(" ++ l)) (some_same s set a)

some_shows : (d n m l : ℕ) (s : Side) (set a : Expr) → Told inner_of d n m set (shown set).text → Told inner_of d m l a (shown a).text → Shows (codes "TRIM") trim_at d n l (e.Trim s (Some set) a)
some_shows d n m l s set a t u =
    let x = e.Trim s (Some set) a in
    let from_text = codes " FROM " ++ (shown a).text in
    let behind_set = told-past (λ f. given (λ a. e.Trim s (Some set) a) (inner_of f)) d m l x (shown a).text (told-given inner_of d (λ a. e.Trim s (Some set) a) m l a (shown a).text u) (of k.From) (codes " FROM ") from_word in
    let from_set = told-after inner_of (λ f y. from_rule s (Some y) f) d n m l set x (shown set).text from_text (starts_from a) t behind_set in
    let chosen = told-into (λ f. after (inner_of f) (λ y. from_rule s (Some y) f)) d n l x ((shown set).text ++ from_text) from_set (set_rule (Some s)) x (λ f i j ts w. (true, w)) in
    let spaced = told-blank (set_rule (Some s)) d n l x ((shown set).text ++ from_text) chosen in
    let sided = told-side (λ f y. set_rule (Some y) f) d n l s x (codes " " ++ ((shown set).text ++ from_text)) (λ r. refl) spaced in
    record {
      text = some_text s set a;
      is = some_is s set a;
      told = told-into (λ f. after sides (λ y. set_rule (Some y) f)) d n l x (some_text s set a) sided trim_at x (λ f i j ts w. (true, (true, w)));
    }

side_shows : (d n l : ℕ) (s : Side) (a : Expr) → shown (e.Trim s None a) ≡ form 0 (codes "TRIM" ++ enclosed_text (side_text s ++ (codes " FROM " ++ (shown a).text))) → Told inner_of d n l a (shown a).text → Shows (codes "TRIM") trim_at d n l (e.Trim s None a)
side_shows d n l s a is u =
    let x = e.Trim s None a in
    let from_text = codes " FROM " ++ (shown a).text in
    let behind_side = told-past (λ f. given (λ a. e.Trim s None a) (inner_of f)) d n l x (shown a).text (told-given inner_of d (λ a. e.Trim s None a) n l a (shown a).text u) (of k.From) (codes " FROM ") from_word in
    let chosen = told-into (from_rule s None) d n l x from_text behind_side (set_rule (Some s)) x (λ f i j ts w. (false, w)) in
    let sided = told-side (λ f y. set_rule (Some y) f) d n l s x from_text (λ r. refl) chosen in
    record {
      text = side_text s ++ from_text;
      is = is;
      told = told-into (λ f. after sides (λ y. set_rule (Some y) f)) d n l x (side_text s ++ from_text) sided trim_at x (λ f i j ts w. (true, (true, w)));
    }

none_shows : (d n l : ℕ) (s : Side) (a : Expr) → Told inner_of d n l a (shown a).text → Shows (codes "TRIM") trim_at d n l (e.Trim s None a)
none_shows d n l side.Leading a u = side_shows d n l side.Leading a (shown_trim side.Leading None a) u
none_shows d n l side.Trailing a u = side_shows d n l side.Trailing a (shown_trim side.Trailing None a) u
none_shows d n l side.Both a u =
    let x = e.Trim side.Both None a in
    record {
      text = (shown a).text;
      is = shown_trim side.Both None a;
      told = told-into (λ f. given (λ a. e.Trim side.Both None a) (inner_of f)) d n l x (shown a).text (told-given inner_of d (λ a. e.Trim side.Both None a) n l a (shown a).text u) trim_at x (λ f i j ts w. (false, w));
    }

module _ (d : ℕ) (inside : Again (inner_of d) inner_of d (λ x. (shown x).text)) where
  -- FROM and what is trimmed
  from_again : (s : Side) (set : Option Expr) (n : ℕ) (p : Expr × ℕ) (ts : List Symbol) → AllGood ts → (from_rule s set d n).Spells p ts → (a : Expr × ℕ) × ((e.Trim s set a.0, a.1) ≡ p) × Told inner_of d n a.1 a.0 (shown a.0).text
  from_again s set n p ts good w =
      let x = w.after in
      (x.0, x.1, inside n x.0 w.right (good_right ts w.left w.right w.joined good) x.2)

  set_again : (s : Option Side) (n : ℕ) (p : Expr × ℕ) (ts : List Symbol) → AllGood ts → (set_rule s d n).Spells p ts → Shows (codes "TRIM") trim_at d n p.1 p.0
  set_again s n p ts good (true, j) =
      let set = inside n j.value j.left (good_left ts j.left j.right j.joined good) j.whole in
      let x = from_again (side_or_both s) (Some j.value.0) j.value.1 p j.right (good_right ts j.left j.right j.joined good) j.after in
      subst (λ v. Shows (codes "TRIM") trim_at d n v.1 v.0) x.1 (some_shows d n j.value.1 x.0.1 (side_or_both s) j.value.0 x.0.0 set x.2)
  set_again s n p ts good (false, w) =
      let x = from_again (side_or_both s) None n p ts good w in
      subst (λ v. Shows (codes "TRIM") trim_at d n v.1 v.0) x.1 (none_shows d n x.0.1 (side_or_both s) x.0.0 x.2)

  trim_again : (n : ℕ) (p : Expr × ℕ) (ts : List Symbol) → AllGood ts → (trim_at d n).Spells p ts → Shows (codes "TRIM") trim_at d n p.1 p.0
  trim_again n p ts good (true, (true, j)) =
      let same : n ≡ j.value.1 = ap (λ v. v.1) j.whole.1 in
      subst (λ y. Shows (codes "TRIM") trim_at d y p.1 p.0) (sym same) (set_again (Some j.value.0) j.value.1 p j.right (good_right ts j.left j.right j.joined good) j.after)
  trim_again n p ts good (true, (false, w)) = set_again None n p ts good w
  trim_again n p ts good (false, w) =
      subst (λ v. Shows (codes "TRIM") trim_at d n v.1 v.0) w.1 (none_shows d n w.0.1 side.Both w.0.0 (inside n w.0 ts good w.2))

  pub own-trim : (n : ℕ) (p : Expr × ℕ) (ts : List Symbol) → AllGood ts → (primary_of (room_of d) (inner_of d) trim_form n).Spells p ts → Own d n p.1 0 p.0
  unfolding class_of_word same_class
  own-trim = own-call d k.TrimCalled (codes "TRIM") trim_form (trim_at d) trim_at refl refl (λ f n p ts w. w) trim_again
