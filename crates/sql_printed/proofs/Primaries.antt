-- Texts, truth values, NULL, MISSING, parentheses, and functions with parts are told again.
use Rattle.std.proofs.Common.{◌≡◌, ℕ, suc, ◌+◌, Bool, true, false, List, ◌∷◌, ◌++◌, length, Option, Some, None, refl, sym, ap, ◌∙◌, subst, append_assoc, if◌then◌else◌, codes}
use Rattle.sql_tokens.specs.declared.class.Class.{Class}
use Rattle.sql_tokens.specs.declared.class.Class.TheVariants as k
use Rattle.sql_tokens.specs.Classes.{same_class}
use Rattle.sql_tokens.specs.TokenForms.{text_literal, begins, is_word_byte}
use Rattle.sql_tokens.specs.Keywords.{class_of_word}
use Rattle.sql_tokens.specs.Cutting.{Symbol}
use Rattle.grammar_rules.specs.Rules.{Verdict, takes, refuses, terminal}
use Rattle.grammar_rules.specs.Counted.{plain, given, both, past, maybe, many_from}
use Rattle.grammar_rules.specs.Spelled.{print_all}
use Rattle.sql_grammar.specs.declared.tree.Expr.{Expr}
use Rattle.sql_grammar.specs.declared.tree.Expr.TheVariants as e
use Rattle.sql_grammar.specs.declared.tree.DatePart.{DatePart}
use Rattle.sql_grammar.specs.declared.tree.DatePart.TheVariants as part
use Rattle.sql_grammar.specs.Marks.{Fault, too_many, class, of, one_told, told_by, text_in, stamp_part, date_part, is_for, Form, literal_text as text_form, truth, untruth, null_form, missing_form, coalesce_form, extract_form, date_add_form, substring_form, group_form}
use Rattle.sql_grammar.specs.Expressions.{Counting, room_of, literal, opening, listed, primary_of, primary, expression}
use Rattle.sql_printed.specs.Shown.{shown, at, form, enclosed_text, literal_text, part_text, doubled, behind, substring_front}
use Rattle.sql_printed.proofs.Telling.{is_clear, Starts, starts-all, Word, told-into, told-past}
use Rattle.sql_printed.proofs.Words.{is_word, comma_blank, keyword_blanks, if_true}
use Rattle.sql_printed.proofs.Quotes.{cut_literal, undoubled_doubled}
use Rattle.sql_printed.proofs.Names.{GoodToken, clear_words}
use Rattle.sql_printed.proofs.Again.{AllGood, good_left, good_right, good_one, IsOne, OnePrints, counted_one, told-one, Again, again-terminal, again-both, again-given, again-past, again-many_from, again-maybe}
use Rattle.sql_printed.proofs.Listed.{list_text}
use Rattle.sql_printed.proofs.Levels.{inner_of, rule_at, Own, own-group}
use Rattle.sql_printed.proofs.Folds.{shown_text, shown_bool, shown_null, shown_missing, shown_option, shown_coalesce, shown_substring, shown_extract, shown_date_add}
use Rattle.sql_printed.proofs.Operators.{own-shown}
use Rattle.sql_printed.proofs.Predicates.{text_prints, clear_quote, list_is}
use Rattle.sql_printed.proofs.Sentences.{word_taken}
use Rattle.sql_printed.proofs.Calls.{own-call, forms-given}

-- ---- one token that is an expression

-- what a literal that was spelled tells
pub record IsLiteral (spelled : Symbol → Expr) (n : ℕ) (p : Expr × ℕ) : Type 0 where
  pub symbol : Symbol
  pub good : GoodToken symbol.token
  pub is : spelled symbol ≡ p.0
  pub counts : n ≡ suc p.1

abbrev pub fault_verdict : Verdict Fault Expr → Verdict Fault Expr
fault_verdict v = v

look_taken : (t : Bool) (a b : Expr) → fault_verdict (if t then takes a else refuses) ≡ takes b → a ≡ b
look_taken true a b e = cc
look_taken false a b e = absurd (let no : ⊥ = cc in no)

pub spelled_literal : (test : Class → Bool) (spelled : Symbol → Expr) (n : ℕ) (p : Expr × ℕ) (ts : List Symbol) → AllGood ts → (literal test spelled n).Spells p ts → IsLiteral spelled n p
spelled_literal test spelled n p ts good w =
    let c = counted_one too_many (λ s. if test (class s) then takes (spelled s) else refuses) n p ts w in
    record { symbol = c.one.symbol; good = good_one ts c.one.symbol c.one.is good; is = look_taken (test (class c.one.symbol)) (spelled c.one.symbol) p.0 c.one.taken; counts = c.counts }

-- an expression that is one token
pub own-literal : (test : Class → Bool) (spelled : Symbol → Expr) (known : Form) (d n : ℕ) (p : Expr × ℕ) (ts : List Symbol) (text : List ℕ) → n ≡ suc p.1 → shown p.0 ≡ form 0 text
    → OnePrints (λ s. if test (class s) then takes (spelled s) else refuses) p.0 text
    → ((f i : ℕ) (q : Expr × ℕ) (us : List Symbol) → (literal test spelled i).Spells q us → (primary_of (room_of f) (inner_of f) known i).Spells q us) → Own d n p.1 0 p.0
unfolding primary
own-literal test spelled known d n p ts text c is o into =
    own-shown d n p.1 0 p.0 text is refl refl
    (told-into (λ f. literal test spelled) d n p.1 p.0 text (told-one (λ s. if test (class s) then takes (spelled s) else refuses) too_many d n p.1 p.0 text c o) (rule_at 0) p.0 (λ f m l us v. (known, into f l (p.0, m) us v)))

-- a text
text_expr_prints : (bytes : List ℕ) → OnePrints (λ s. fault_verdict (if same_class k.Text (class s) then takes (e.Text (text_in s.token)) else refuses)) (e.Text bytes) (literal_text bytes)
unfolding same_class
text_expr_prints bytes place rest c =
    let o = text_prints bytes place rest c in
    record {
      symbol = record { at = place; token = text_literal (doubled 39 bytes) };
      next = place + (length (doubled 39 bytes) + 2);
      is = cut_literal place bytes rest (clear_quote rest c);
      taken = ap (λ l. takes (e.Text l)) (undoubled_doubled 39 bytes);
      fit = refl;
    }

pub own-text : (d n : ℕ) (p : Expr × ℕ) (ts : List Symbol) → AllGood ts → (primary_of (room_of d) (inner_of d) text_form n).Spells p ts → Own d n p.1 0 p.0
own-text d n p ts good w =
    let l = spelled_literal (same_class k.Text) (λ s. e.Text (text_in s.token)) n p ts good w in
    let bytes = text_in l.symbol.token in
    let o : Own d n p.1 0 (e.Text bytes) = own-literal (same_class k.Text) (λ s. e.Text (text_in s.token)) text_form d n (e.Text bytes, p.1) ts (literal_text bytes) l.counts (shown_text bytes) (text_expr_prints bytes) (λ f i q us v. v) in
    subst (λ x. Own d n p.1 0 x) l.is o

-- a word
own-word : (c : Class) (x : Expr) (w : List ℕ) (known : Form) → is_word w ≡ true → ((called : Bool) → same_class c (class_of_word called w) ≡ true) → shown x ≡ form 0 w
    → ((f i : ℕ) (q : Expr × ℕ) (us : List Symbol) → (literal (same_class c) (λ s. x) i).Spells q us → (primary_of (room_of f) (inner_of f) known i).Spells q us)
    → (d n : ℕ) (p : Expr × ℕ) (ts : List Symbol) → AllGood ts → (literal (same_class c) (λ s. x) n).Spells p ts → Own d n p.1 0 p.0
own-word c x w known i k is into d n p ts good y =
    let l = spelled_literal (same_class c) (λ s. x) n p ts good y in
    let o : OnePrints (λ s. fault_verdict (if same_class c (class s) then takes x else refuses)) x w =
    λ place rest clear. word_taken (λ s. if same_class c (class s) then takes x else refuses) x w rest place i (λ called at. if_true (same_class c (class_of_word called w)) (takes x) refuses (k called)) (clear_words rest clear) in
    subst (λ z. Own d n p.1 0 z) l.is (own-literal (same_class c) (λ s. x) known d n (x, p.1) ts w l.counts is o into)

pub own-truth : (d n : ℕ) (p : Expr × ℕ) (ts : List Symbol) → AllGood ts → (primary_of (room_of d) (inner_of d) truth n).Spells p ts → Own d n p.1 0 p.0
unfolding class_of_word same_class
own-truth = own-word k.True (e.Bool true) (codes "TRUE") truth refl (λ c. elim c as (λ c. same_class k.True (class_of_word c (codes "TRUE")) ≡ true) [ true ↦ refl | false ↦ refl ]) (shown_bool true) (λ f i q us v. v)

pub own-untruth : (d n : ℕ) (p : Expr × ℕ) (ts : List Symbol) → AllGood ts → (primary_of (room_of d) (inner_of d) untruth n).Spells p ts → Own d n p.1 0 p.0
unfolding class_of_word same_class
own-untruth = own-word k.False (e.Bool false) (codes "FALSE") untruth refl (λ c. elim c as (λ c. same_class k.False (class_of_word c (codes "FALSE")) ≡ true) [ true ↦ refl | false ↦ refl ]) (shown_bool false) (λ f i q us v. v)

pub own-null : (d n : ℕ) (p : Expr × ℕ) (ts : List Symbol) → AllGood ts → (primary_of (room_of d) (inner_of d) null_form n).Spells p ts → Own d n p.1 0 p.0
unfolding class_of_word same_class
own-null = own-word k.Null e.Null (codes "NULL") null_form refl (λ c. elim c as (λ c. same_class k.Null (class_of_word c (codes "NULL")) ≡ true) [ true ↦ refl | false ↦ refl ]) shown_null (λ f i q us v. v)

pub own-missing : (d n : ℕ) (p : Expr × ℕ) (ts : List Symbol) → AllGood ts → (primary_of (room_of d) (inner_of d) missing_form n).Spells p ts → Own d n p.1 0 p.0
unfolding class_of_word same_class
own-missing = own-word k.Missing e.Missing (codes "MISSING") missing_form refl (λ c. elim c as (λ c. same_class k.Missing (class_of_word c (codes "MISSING")) ≡ true) [ true ↦ refl | false ↦ refl ]) shown_missing (λ f i q us v. v)

-- ---- parentheses

pub own-parentheses : (d : ℕ) → ((n : ℕ) (p : Expr × ℕ) (ts : List Symbol) → AllGood ts → (expression d n).Spells p ts → Own d n p.1 7 p.0)
    → (n : ℕ) (p : Expr × ℕ) (ts : List Symbol) → AllGood ts → (primary_of (room_of (suc d)) (inner_of (suc d)) group_form n).Spells p ts → Own (suc d) n p.1 0 p.0
own-parentheses d below n p ts good j =
    let c = counted_one too_many (opening (room_of (suc d)).here k.LeftParenthesis) n j.value j.left j.whole in
    let b = j.after in
    let good_rest = good_right ts j.left j.right j.joined good in
    let o = below j.value.1 b.value b.left (good_left j.right b.left b.right b.joined good_rest) b.whole in
    let g = own-group d j.value.1 b.value.1 b.value.0 o in
    let h = subst (λ x. Own (suc d) x b.value.1 0 b.value.0) (sym c.counts) g in
    subst (λ v. Own (suc d) n v.1 0 v.0) b.after.1 h

-- ---- COALESCE, and functions of a part of a timestamp

-- a part's word, in front of what isn't more of it
part_looks : (tell : Class → Option DatePart) (p : DatePart) (w rest : List ℕ) (place : ℕ) → is_word w ≡ true → ((called : Bool) → told_by {A = DatePart} (tell (class_of_word called w)) ≡ takes p) → begins is_word_byte rest ≡ false → IsOne (one_told tell) p w rest place
part_looks tell p w rest place i l b = word_taken (one_told tell) p w rest place i (λ called at. l called) b

stamp_prints : (p : DatePart) → OnePrints (one_told stamp_part) p (part_text p)
unfolding class_of_word
stamp_prints part.Year place rest c = part_looks stamp_part part.Year (codes "YEAR") rest place refl (λ b. elim b as (λ b. told_by (stamp_part (class_of_word b (codes "YEAR"))) ≡ takes part.Year) [ true ↦ refl | false ↦ refl ]) (clear_words rest c)
stamp_prints part.Month place rest c = part_looks stamp_part part.Month (codes "MONTH") rest place refl (λ b. elim b as (λ b. told_by (stamp_part (class_of_word b (codes "MONTH"))) ≡ takes part.Month) [ true ↦ refl | false ↦ refl ]) (clear_words rest c)
stamp_prints part.Day place rest c = part_looks stamp_part part.Day (codes "DAY") rest place refl (λ b. elim b as (λ b. told_by (stamp_part (class_of_word b (codes "DAY"))) ≡ takes part.Day) [ true ↦ refl | false ↦ refl ]) (clear_words rest c)
stamp_prints part.Hour place rest c = part_looks stamp_part part.Hour (codes "HOUR") rest place refl (λ b. elim b as (λ b. told_by (stamp_part (class_of_word b (codes "HOUR"))) ≡ takes part.Hour) [ true ↦ refl | false ↦ refl ]) (clear_words rest c)
stamp_prints part.Minute place rest c = part_looks stamp_part part.Minute (codes "MINUTE") rest place refl (λ b. elim b as (λ b. told_by (stamp_part (class_of_word b (codes "MINUTE"))) ≡ takes part.Minute) [ true ↦ refl | false ↦ refl ]) (clear_words rest c)
stamp_prints part.Second place rest c = part_looks stamp_part part.Second (codes "SECOND") rest place refl (λ b. elim b as (λ b. told_by (stamp_part (class_of_word b (codes "SECOND"))) ≡ takes part.Second) [ true ↦ refl | false ↦ refl ]) (clear_words rest c)
stamp_prints part.TimezoneHour place rest c = part_looks stamp_part part.TimezoneHour (codes "TIMEZONE_HOUR") rest place refl (λ b. elim b as (λ b. told_by (stamp_part (class_of_word b (codes "TIMEZONE_HOUR"))) ≡ takes part.TimezoneHour) [ true ↦ refl | false ↦ refl ]) (clear_words rest c)
stamp_prints part.TimezoneMinute place rest c = part_looks stamp_part part.TimezoneMinute (codes "TIMEZONE_MINUTE") rest place refl (λ b. elim b as (λ b. told_by (stamp_part (class_of_word b (codes "TIMEZONE_MINUTE"))) ≡ takes part.TimezoneMinute) [ true ↦ refl | false ↦ refl ]) (clear_words rest c)

pub from_word : Word (of k.From) (codes " FROM ")
unfolding class_of_word same_class
from_word = keyword_blanks k.From (codes "FROM") refl

pub starts_from : (x : Expr) → Starts (codes " FROM " ++ (shown x).text)
unfolding is_clear
starts_from x rest c = refl

starts_next : (x : Expr) → Starts (codes ", " ++ (shown x).text)
unfolding is_clear
starts_next x rest c = refl

module _ (d : ℕ) (inside : Again (inner_of d) inner_of d (λ x. (shown x).text)) where
  extract_is : (p : DatePart × Expr) → shown (e.Extract p.0 p.1) ≡ form 0 (codes "EXTRACT" ++ enclosed_text (part_text p.0 ++ (codes " FROM " ++ (shown p.1).text)))
  extract_is p = shown_extract p.0 p.1 ∙ ap (λ l. form 0 (codes "EXTRACT(" ++ l)) (ap (λ l. part_text p.0 ++ l) (sym (append_assoc (codes " FROM ") (shown p.1).text (codes ")"))) ∙ sym (append_assoc (part_text p.0) (codes " FROM " ++ (shown p.1).text) (codes ")")))

  pub own-extract : (n : ℕ) (p : Expr × ℕ) (ts : List Symbol) → AllGood ts → (primary_of (room_of d) (inner_of d) extract_form n).Spells p ts → Own d n p.1 0 p.0
  unfolding class_of_word same_class
  own-extract = own-call d k.ExtractCalled (codes "EXTRACT") extract_form (given (λ p. e.Extract p.0 p.1) (both (plain (terminal (one_told stamp_part))) (past (of k.From) (inner_of d)))) (λ f. given (λ p. e.Extract p.0 p.1) (both (plain (terminal (one_told stamp_part))) (past (of k.From) (inner_of f)))) refl refl (λ f n p ts w. w)
      (forms-given (codes "EXTRACT") (λ p. e.Extract p.0 p.1) (both (plain (terminal (one_told stamp_part))) (past (of k.From) (inner_of d))) (λ f. both (plain (terminal (one_told stamp_part))) (past (of k.From) (inner_of f))) d (λ p. part_text p.0 ++ (codes " FROM " ++ (shown p.1).text)) extract_is
      (again-both (plain (terminal (one_told stamp_part))) (past (of k.From) (inner_of d)) (λ f. plain (terminal (one_told stamp_part))) (λ f. past (of k.From) (inner_of f)) d part_text (λ x. codes " FROM " ++ (shown x).text) starts_from
      (again-terminal (one_told stamp_part) (λ f. one_told stamp_part) d part_text (λ s a g t f below. stamp_prints a))
      (again-past (of k.From) (inner_of d) inner_of d (codes " FROM ") (λ x. (shown x).text) from_word inside)))

starts_member : (x : Expr) → Starts (codes ", " ++ at 7 (shown x))
unfolding is_clear
starts_member x rest c = refl

module _ (d : ℕ) (inside : Again (inner_of d) inner_of d (λ x. at 7 (shown x))) where
  listed_again : Again (listed (inner_of d)) (λ f. listed (inner_of f)) d (list_text (λ x. at 7 (shown x)))
  listed_again =
      again-given (λ p. p.0 ∷ p.1) (both (inner_of d) (many_from (past (of k.Comma) (inner_of d)))) (λ f. both (inner_of f) (many_from (past (of k.Comma) (inner_of f)))) d (list_text (λ x. at 7 (shown x)))
      (again-both (inner_of d) (many_from (past (of k.Comma) (inner_of d))) inner_of (λ f. many_from (past (of k.Comma) (inner_of f))) d (λ x. at 7 (shown x)) (print_all (λ x. codes ", " ++ at 7 (shown x)))
      (starts-all (λ x. codes ", " ++ at 7 (shown x)) starts_member) inside
      (again-many_from (past (of k.Comma) (inner_of d)) (λ f. past (of k.Comma) (inner_of f)) d (λ x. codes ", " ++ at 7 (shown x)) starts_member
      (again-past (of k.Comma) (inner_of d) inner_of d (codes ", ") (λ x. at 7 (shown x)) comma_blank inside)))

  coalesce_is : (xs : List Expr) → shown (e.Coalesce xs) ≡ form 0 (codes "COALESCE" ++ enclosed_text (list_text (λ x. at 7 (shown x)) xs))
  coalesce_is xs = shown_coalesce xs ∙ ap (λ l. form 0 (codes "COALESCE(" ++ (l ++ codes ")"))) (sym (list_is xs))

  pub own-coalesce : (n : ℕ) (p : Expr × ℕ) (ts : List Symbol) → AllGood ts → (primary_of (room_of d) (inner_of d) coalesce_form n).Spells p ts → Own d n p.1 0 p.0
  unfolding class_of_word same_class
  own-coalesce = own-call d k.CoalesceCalled (codes "COALESCE") coalesce_form (given e.Coalesce (listed (inner_of d))) (λ f. given e.Coalesce (listed (inner_of f))) refl refl (λ f n p ts w. w)
      (forms-given (codes "COALESCE") e.Coalesce (listed (inner_of d)) (λ f. listed (inner_of f)) d (list_text (λ x. at 7 (shown x))) coalesce_is listed_again)

-- ---- SUBSTRING

again-past_as : {A : Type 0} (from test : Symbol → Bool) (G : Counting A) (I : ℕ → Counting A) (d : ℕ) (front : List ℕ) (print : A → List ℕ) → Word test front → Again G I d print → Again (past from G) (λ f. past test (I f)) d (λ a. front ++ print a)
again-past_as from test G I d front print w g n p ts good j =
    told-past I d n p.1 p.0 (print p.0) (g n p j.right (good_right ts j.left j.right j.joined good) j.after) test front w

abbrev count_text : Option Expr → List ℕ
count_text count = behind (codes ", ") (shown_option count)

starts_count : (o : Option Expr) → Starts (count_text o)
unfolding is_clear
starts_count None rest c = c
starts_count (Some x) rest c = refl

starts_start : (q : Expr × Option Expr) → Starts (codes ", " ++ ((shown q.0).text ++ count_text q.1))
unfolding is_clear
starts_start q rest c = refl

abbrev substring_node : Expr × (Expr × Option Expr) → Expr
substring_node p = e.Substring p.0 p.1.0 p.1.1

abbrev substring_text : Expr × (Expr × Option Expr) → List ℕ
substring_text p = (shown p.0).text ++ (codes ", " ++ ((shown p.1.0).text ++ count_text p.1.1))

substring_is : (p : Expr × (Expr × Option Expr)) → shown (substring_node p) ≡ form 0 (codes "SUBSTRING" ++ enclosed_text (substring_text p))
unfolding substring_front
substring_is p =
    shown_substring p.0 p.1.0 p.1.1 ∙ ap (λ l. form 0 (codes "SUBSTRING(" ++ l))
    (ap (λ l. (shown p.0).text ++ (codes ", " ++ l)) (sym (append_assoc (shown p.1.0).text (count_text p.1.1) (codes ")")))
    ∙ (ap (λ l. (shown p.0).text ++ l) (sym (append_assoc (codes ", ") ((shown p.1.0).text ++ count_text p.1.1) (codes ")")))
    ∙ sym (append_assoc (shown p.0).text (codes ", " ++ ((shown p.1.0).text ++ count_text p.1.1)) (codes ")"))))

abbrev parts_by : (Symbol → Bool) → (Symbol → Bool) → ℕ → Counting (Expr × (Expr × Option Expr))
parts_by a b f = both (inner_of f) (past a (both (inner_of f) (maybe (past b (inner_of f)))))

module _ (d : ℕ) (inside : Again (inner_of d) inner_of d (λ x. (shown x).text)) where
  parts_again : (a b : Symbol → Bool) → Again (parts_by a b d) (parts_by (of k.Comma) (of k.Comma)) d substring_text
  parts_again a b =
      again-both (inner_of d) (past a (both (inner_of d) (maybe (past b (inner_of d))))) inner_of (λ f. past (of k.Comma) (both (inner_of f) (maybe (past (of k.Comma) (inner_of f))))) d (λ x. (shown x).text) (λ q. codes ", " ++ ((shown q.0).text ++ count_text q.1)) starts_start inside
      (again-past_as a (of k.Comma) (both (inner_of d) (maybe (past b (inner_of d)))) (λ f. both (inner_of f) (maybe (past (of k.Comma) (inner_of f)))) d (codes ", ") (λ q. (shown q.0).text ++ count_text q.1) comma_blank
      (again-both (inner_of d) (maybe (past b (inner_of d))) inner_of (λ f. maybe (past (of k.Comma) (inner_of f))) d (λ x. (shown x).text) count_text starts_count inside
      (again-maybe (past b (inner_of d)) (λ f. past (of k.Comma) (inner_of f)) d count_text refl
      (again-past_as b (of k.Comma) (inner_of d) inner_of d (codes ", ") (λ x. (shown x).text) comma_blank inside))))

  pub own-substring : (n : ℕ) (p : Expr × ℕ) (ts : List Symbol) → AllGood ts → (primary_of (room_of d) (inner_of d) substring_form n).Spells p ts → Own d n p.1 0 p.0
  unfolding class_of_word same_class
  own-substring n p ts good (true, w) =
      own-call d k.SubstringCalled (codes "SUBSTRING") substring_form (given substring_node (parts_by (of k.Comma) (of k.Comma) d)) (λ f. given substring_node (parts_by (of k.Comma) (of k.Comma) f)) refl refl (λ f i q us v. (true, v))
      (forms-given (codes "SUBSTRING") substring_node (parts_by (of k.Comma) (of k.Comma) d) (parts_by (of k.Comma) (of k.Comma)) d substring_text substring_is (parts_again (of k.Comma) (of k.Comma))) n p ts good w
  own-substring n p ts good (false, w) =
      own-call d k.SubstringCalled (codes "SUBSTRING") substring_form (given substring_node (parts_by (of k.From) (λ s. is_for (class s)) d)) (λ f. given substring_node (parts_by (of k.Comma) (of k.Comma) f)) refl refl (λ f i q us v. (true, v))
      (forms-given (codes "SUBSTRING") substring_node (parts_by (of k.From) (λ s. is_for (class s)) d) (parts_by (of k.Comma) (of k.Comma)) d substring_text substring_is (parts_again (of k.From) (λ s. is_for (class s)))) n p ts good w

-- ---- DATE_ADD

-- a part without a time zone, from whose word it was told
data IsDatePart : DatePart → Type 0 where
  is_year : IsDatePart part.Year
  is_month : IsDatePart part.Month
  is_day : IsDatePart part.Day
  is_hour : IsDatePart part.Hour
  is_minute : IsDatePart part.Minute
  is_second : IsDatePart part.Second

date_told : (c : Class) (p : DatePart) → told_by {A = DatePart} (date_part c) ≡ takes p → IsDatePart p
date_told k.Year p x = let i : part.Year ≡ p = cc in subst IsDatePart i is_year
date_told k.YearCalled p x = let i : part.Year ≡ p = cc in subst IsDatePart i is_year
date_told k.Month p x = let i : part.Month ≡ p = cc in subst IsDatePart i is_month
date_told k.MonthCalled p x = let i : part.Month ≡ p = cc in subst IsDatePart i is_month
date_told k.Day p x = let i : part.Day ≡ p = cc in subst IsDatePart i is_day
date_told k.DayCalled p x = let i : part.Day ≡ p = cc in subst IsDatePart i is_day
date_told k.Hour p x = let i : part.Hour ≡ p = cc in subst IsDatePart i is_hour
date_told k.HourCalled p x = let i : part.Hour ≡ p = cc in subst IsDatePart i is_hour
date_told k.Minute p x = let i : part.Minute ≡ p = cc in subst IsDatePart i is_minute
date_told k.MinuteCalled p x = let i : part.Minute ≡ p = cc in subst IsDatePart i is_minute
date_told k.Second p x = let i : part.Second ≡ p = cc in subst IsDatePart i is_second
date_told k.SecondCalled p x = let i : part.Second ≡ p = cc in subst IsDatePart i is_second
date_told _ p x = absurd (let no : ⊥ = cc in no)

date_prints : (p : DatePart) → IsDatePart p → OnePrints (one_told date_part) p (part_text p)
unfolding class_of_word
date_prints part.Year is_year place rest c = part_looks date_part part.Year (codes "YEAR") rest place refl (λ b. elim b as (λ b. told_by (date_part (class_of_word b (codes "YEAR"))) ≡ takes part.Year) [ true ↦ refl | false ↦ refl ]) (clear_words rest c)
date_prints part.Month is_month place rest c = part_looks date_part part.Month (codes "MONTH") rest place refl (λ b. elim b as (λ b. told_by (date_part (class_of_word b (codes "MONTH"))) ≡ takes part.Month) [ true ↦ refl | false ↦ refl ]) (clear_words rest c)
date_prints part.Day is_day place rest c = part_looks date_part part.Day (codes "DAY") rest place refl (λ b. elim b as (λ b. told_by (date_part (class_of_word b (codes "DAY"))) ≡ takes part.Day) [ true ↦ refl | false ↦ refl ]) (clear_words rest c)
date_prints part.Hour is_hour place rest c = part_looks date_part part.Hour (codes "HOUR") rest place refl (λ b. elim b as (λ b. told_by (date_part (class_of_word b (codes "HOUR"))) ≡ takes part.Hour) [ true ↦ refl | false ↦ refl ]) (clear_words rest c)
date_prints part.Minute is_minute place rest c = part_looks date_part part.Minute (codes "MINUTE") rest place refl (λ b. elim b as (λ b. told_by (date_part (class_of_word b (codes "MINUTE"))) ≡ takes part.Minute) [ true ↦ refl | false ↦ refl ]) (clear_words rest c)
date_prints part.Second is_second place rest c = part_looks date_part part.Second (codes "SECOND") rest place refl (λ b. elim b as (λ b. told_by (date_part (class_of_word b (codes "SECOND"))) ≡ takes part.Second) [ true ↦ refl | false ↦ refl ]) (clear_words rest c)
date_prints part.TimezoneHour x place rest c = elim x [ ]
date_prints part.TimezoneMinute x place rest c = elim x [ ]

starts_both : (q : Expr × Expr) → Starts (codes ", " ++ ((shown q.0).text ++ (codes ", " ++ (shown q.1).text)))
unfolding is_clear
starts_both q rest c = refl

abbrev date_add_node : DatePart × (Expr × Expr) → Expr
date_add_node p = e.DateAdd p.0 p.1.0 p.1.1

abbrev date_add_text : DatePart × (Expr × Expr) → List ℕ
date_add_text p = part_text p.0 ++ (codes ", " ++ ((shown p.1.0).text ++ (codes ", " ++ (shown p.1.1).text)))

date_add_is : (p : DatePart × (Expr × Expr)) → shown (date_add_node p) ≡ form 0 (codes "DATE_ADD" ++ enclosed_text (date_add_text p))
date_add_is p =
    shown_date_add p.0 p.1.0 p.1.1 ∙ ap (λ l. form 0 (codes "DATE_ADD(" ++ l))
    (ap (λ l. part_text p.0 ++ (codes ", " ++ ((shown p.1.0).text ++ l))) (sym (append_assoc (codes ", ") (shown p.1.1).text (codes ")")))
    ∙ (ap (λ l. part_text p.0 ++ (codes ", " ++ l)) (sym (append_assoc (shown p.1.0).text (codes ", " ++ (shown p.1.1).text) (codes ")")))
    ∙ (ap (λ l. part_text p.0 ++ l) (sym (append_assoc (codes ", ") ((shown p.1.0).text ++ (codes ", " ++ (shown p.1.1).text)) (codes ")")))
    ∙ sym (append_assoc (part_text p.0) (codes ", " ++ ((shown p.1.0).text ++ (codes ", " ++ (shown p.1.1).text))) (codes ")")))))

abbrev date_parts : ℕ → Counting (DatePart × (Expr × Expr))
date_parts f = both (plain (terminal (one_told date_part))) (past (of k.Comma) (both (inner_of f) (past (of k.Comma) (inner_of f))))

module _ (d : ℕ) (inside : Again (inner_of d) inner_of d (λ x. (shown x).text)) where
  dates_again : Again (date_parts d) date_parts d date_add_text
  dates_again =
      again-both (plain (terminal (one_told date_part))) (past (of k.Comma) (both (inner_of d) (past (of k.Comma) (inner_of d)))) (λ f. plain (terminal (one_told date_part))) (λ f. past (of k.Comma) (both (inner_of f) (past (of k.Comma) (inner_of f)))) d part_text (λ q. codes ", " ++ ((shown q.0).text ++ (codes ", " ++ (shown q.1).text))) starts_both
      (again-terminal (one_told date_part) (λ f. one_told date_part) d part_text (λ s a g t f below. date_prints a (date_told (class s) a t)))
      (again-past (of k.Comma) (both (inner_of d) (past (of k.Comma) (inner_of d))) (λ f. both (inner_of f) (past (of k.Comma) (inner_of f))) d (codes ", ") (λ q. (shown q.0).text ++ (codes ", " ++ (shown q.1).text)) comma_blank
      (again-both (inner_of d) (past (of k.Comma) (inner_of d)) inner_of (λ f. past (of k.Comma) (inner_of f)) d (λ x. (shown x).text) (λ x. codes ", " ++ (shown x).text) starts_next inside
      (again-past (of k.Comma) (inner_of d) inner_of d (codes ", ") (λ x. (shown x).text) comma_blank inside)))

  pub own-date_add : (n : ℕ) (p : Expr × ℕ) (ts : List Symbol) → AllGood ts → (primary_of (room_of d) (inner_of d) date_add_form n).Spells p ts → Own d n p.1 0 p.0
  unfolding class_of_word same_class
  own-date_add = own-call d k.DateAddCalled (codes "DATE_ADD") date_add_form (given date_add_node (date_parts d)) (λ f. given date_add_node (date_parts f)) refl refl (λ f n p ts w. w)
      (forms-given (codes "DATE_ADD") date_add_node (date_parts d) date_parts d date_add_text date_add_is dates_again)
