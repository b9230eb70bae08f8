-- Paths are told again.
use Rattle.std.proofs.Common.{◌≡◌, ℕ, zero, suc, ◌+◌, ◌<◌, ◌==◌, ◌&&◌, nat_le, Bool, true, false, List, [], ◌∷◌, ◌++◌, length, Option, Some, None, refl, sym, ap, ◌∙◌, subst, arith, append_assoc, if◌then◌else◌, codes, decimal}
use Rattle.std.specs.Char.{is_ascii_digit}
use Rattle.std.proofs.lemmas.Bool.Decides.{nat_tests}
use Rattle.std.proofs.lemmas.Bool.{leb-true}
use Rattle.sql_tokens.specs.declared.class.Class.{Class}
use Rattle.sql_tokens.specs.declared.class.Class.TheVariants as k
use Rattle.sql_tokens.specs.Classes.{same_class}
use Rattle.sql_tokens.specs.TokenForms.{Token, word, quoted_name, text_literal, whole_number, point_number, exponent_number, punctuation, unfit, class_of, begins, is_blank, is_letter, is_called}
use Rattle.sql_tokens.specs.Keywords.{keywords}
use Rattle.sql_tokens.specs.Cutting.{Symbol, cut}
use Rattle.grammar_rules.specs.Rules.{Verdict, takes, faults, refuses, terminal, made}
use Rattle.grammar_rules.specs.Counted.{plain, one_more, before, past, many_from, bounded_from}
use Rattle.grammar_rules.specs.Spelled.{print_all}
use Rattle.grammar_rules.proofs.Printing.{spelled-one_more, spelled-many_from_nil, spelled-many_from_cons, spelled-chain}
use Rattle.sql_grammar.specs.declared.tree.Expr.{Expr}
use Rattle.sql_grammar.specs.declared.tree.Expr.TheVariants as e
use Rattle.sql_grammar.specs.declared.tree.Name.{Name}
use Rattle.sql_grammar.specs.declared.tree.PathStep.{PathStep}
use Rattle.sql_grammar.specs.declared.tree.PathStep.TheVariants as step
use Rattle.sql_grammar.specs.Marks.{Fault, wrong_number, too_many, class, of, those, is_name, is_path_name, name_of, name, digits, digits_within, whole_within, whole_of, number_in, path_form}
use Rattle.sql_grammar.specs.Expressions.{room_of, path_step, path_name, primary_of, primary}
use Rattle.sql_printed.specs.Shown.{name_text, path_step_text, path_text}
use Rattle.sql_printed.proofs.Telling.{Cuts, Told, cuts-into, cuts-past, cuts-before, cuts-nothing, fit-one, fit-append}
use Rattle.sql_printed.proofs.Words.{and_left, and_right, if_true, dot, left_bracket, right_bracket}
use Rattle.sql_printed.proofs.Names.{GoodToken, NamePrints, NameCut, after_name, clear_name, keeps, name_prints}
use Rattle.sql_printed.proofs.Numbers.{AfterNumber, cut_decimal, decimal_in}
use Rattle.sql_printed.proofs.Again.{AllGood, good_left, good_right, good_one, IsOne, taken_one, counted_one, cuts-one}
use Rattle.sql_printed.proofs.Folds.{shown_path}
use Rattle.sql_printed.proofs.Levels.{inner_of, rule_at, Own}
use Rattle.sql_printed.proofs.Operators.{own-shown}

-- ---- digits

abbrev number_verdict : Verdict Fault ℕ → Verdict Fault ℕ
number_verdict v = v

within_taken : (least most : ℕ) (o : Option ℕ) (n : ℕ) → whole_within least most o ≡ takes n → (nat_le least n && nat_le n most) ≡ true
within_taken least most None n e = absurd (let no : ⊥ = cc in no)
within_taken least most (Some m) n e = by (nat_le least m && nat_le m most) refl e
  where
    by : (t : Bool) → (nat_le least m && nat_le m most) ≡ t → number_verdict (if t then takes m else faults wrong_number) ≡ takes n → (nat_le least n && nat_le n most) ≡ true
    by true f g = let i : m ≡ n = cc in subst (λ x. (nat_le least x && nat_le x most) ≡ true) i f
    by false f g = absurd (let no : ⊥ = cc in no)

pub digits_taken : (least most : ℕ) (s : Symbol) (n : ℕ) → digits_within least most s ≡ takes n → (nat_le least n && nat_le n most) ≡ true
digits_taken least most s n e = by (same_class k.WholeNumber (class s)) e
  where
    by : (t : Bool) → number_verdict (if t then whole_within least most (whole_of (number_in s.token)) else refuses) ≡ takes n → (nat_le least n && nat_le n most) ≡ true
    by true g = within_taken least most (whole_of (number_in s.token)) n g
    by false g = absurd (let no : ⊥ = cc in no)

-- digits within these bounds are printed as one token
pub digits_print : (least most n : ℕ) (rest : List ℕ) (place : ℕ) → n < 9223372036854775808 → (nat_le least n && nat_le n most) ≡ true → AfterNumber rest → IsOne (digits_within least most) n (decimal n) rest place
unfolding same_class
digits_print least most n rest place l t after = record {
  symbol = record { at = place; token = whole_number (decimal n) };
  next = place + length (decimal n);
  is = cut_decimal n rest place (omega arith) after;
  taken = ap (λ x. whole_within least most (whole_of x)) (decimal_in n l) ∙ if_true (nat_le least n && nat_le n most) (takes n) _ t;
  fit = refl;
}

-- ---- names

letter_no_digit : (b : ℕ) → is_letter b ≡ true → is_ascii_digit b ≡ false
letter_no_digit b e = grind (arith, nat_tests)

name_starts : (t : Token) → GoodToken t → is_name (class_of t) ≡ true → (rest : List ℕ) → begins is_ascii_digit (name_text (name_of t) ++ rest) ≡ false
name_starts (word called []) g e rest = absurd (let no : ⊥ = cc in no)
name_starts (word called (b ∷ w)) g e rest = letter_no_digit b (and_left (is_letter b) _ g)
name_starts (quoted_name called raw) g e rest = refl
name_starts (text_literal raw) g e rest = absurd (let no : ⊥ = cc in no)
name_starts (whole_number raw) g e rest = absurd (let no : ⊥ = cc in no)
name_starts (point_number raw) g e rest = absurd (let no : ⊥ = cc in no)
name_starts (exponent_number raw) g e rest = absurd (let no : ⊥ = cc in no)
name_starts (punctuation c) g e rest = absurd (let no : ⊥ = cc in no)
name_starts (unfit raw) g e rest = absurd (let no : ⊥ = cc in no)

letter_no_blank : (b : ℕ) → is_letter b ≡ true → is_blank b ≡ false
letter_no_blank b e = grind (arith, nat_tests)

letter_no_bracket : (b : ℕ) → is_letter b ≡ true → (b == 40) ≡ false
letter_no_bracket b e = grind (arith, nat_tests)

name_uncalled : (t : Token) → GoodToken t → is_name (class_of t) ≡ true → (rest : List ℕ) → is_called (name_text (name_of t) ++ rest) ≡ false
name_uncalled (word called []) g e rest = absurd (let no : ⊥ = cc in no)
name_uncalled (word called (b ∷ w)) g e rest =
    let l = and_left (is_letter b) _ g in
    rw (letter_no_blank b l) (letter_no_bracket b l)
name_uncalled (quoted_name called raw) g e rest = refl
name_uncalled (text_literal raw) g e rest = absurd (let no : ⊥ = cc in no)
name_uncalled (whole_number raw) g e rest = absurd (let no : ⊥ = cc in no)
name_uncalled (point_number raw) g e rest = absurd (let no : ⊥ = cc in no)
name_uncalled (exponent_number raw) g e rest = absurd (let no : ⊥ = cc in no)
name_uncalled (punctuation c) g e rest = absurd (let no : ⊥ = cc in no)
name_uncalled (unfit raw) g e rest = absurd (let no : ⊥ = cc in no)

-- a name that was spelled
pub record NameTold (test : Class → Bool) (n : Name) : Type 0 where
  pub prints : NamePrints test n
  pub starts : (rest : List ℕ) → begins is_ascii_digit (name_text n ++ rest) ≡ false
  pub uncalled : (rest : List ℕ) → is_called (name_text n ++ rest) ≡ false

abbrev name_verdict : Verdict Fault Name → Verdict Fault Name
name_verdict v = v

name_told : (test : Class → Bool) → keeps test keywords ≡ true → ((c : Class) → test c ≡ true → is_name c ≡ true) → (test k.QuotedNameCalled ≡ true → test k.QuotedName ≡ true)
    → (s : Symbol) (n : Name) → GoodToken s.token → those test name_of s ≡ takes n → NameTold test n
name_told test h i q s n g e = by (test (class s)) refl e
  where
    by : (t : Bool) → test (class s) ≡ t → name_verdict (if t then takes (name_of s.token) else refuses) ≡ takes n → NameTold test n
    by true f x =
        let same : name_of s.token ≡ n = cc in
        subst (NameTold test) same (record { prints = name_prints test s.token h i q g f; starts = name_starts s.token g (i (class s) f); uncalled = name_uncalled s.token g (i (class s) f) })
    by false f x = absurd (let no : ⊥ = cc in no)

path_is_name : (c : Class) → is_path_name c ≡ true → is_name c ≡ true
path_is_name k.Name e = refl
path_is_name k.QuotedName e = refl
path_is_name k.S3Object e = refl
path_is_name k.For e = refl
path_is_name k.BoolType e = refl
path_is_name k.IntType e = refl
path_is_name k.StringType e = refl
path_is_name k.TimestampType e = refl
path_is_name k.DecimalType e = refl
path_is_name k.Year e = refl
path_is_name k.Month e = refl
path_is_name k.Day e = refl
path_is_name k.Hour e = refl
path_is_name k.Minute e = refl
path_is_name k.Second e = refl
path_is_name k.TimezoneHour e = refl
path_is_name k.TimezoneMinute e = refl
path_is_name _ e = absurd (let no : ⊥ = cc in no)

pub any_name_told : (s : Symbol) (n : Name) → GoodToken s.token → name s ≡ takes n → NameTold is_name n
any_name_told s n g e = name_told is_name refl (λ c f. f) (λ f. refl) s n g e

pub path_name_told : (s : Symbol) (n : Name) → GoodToken s.token → path_name s ≡ takes n → NameTold is_path_name n
path_name_told s n g e = name_told is_path_name refl path_is_name (λ f. refl) s n g e

pub name_taken : (test : Class → Bool) (n : Name) (rest : List ℕ) (place : ℕ) (c : NameCut test n rest place) → those test name_of c.symbol ≡ takes n
name_taken test n rest place c = if_true (test (class c.symbol)) (takes (name_of c.symbol.token)) refuses c.passes ∙ ap (λ x. takes x) c.names

pub name_one : (test : Class → Bool) (n : Name) (rest : List ℕ) (place : ℕ) → NameCut test n rest place → IsOne (those test name_of) n (name_text n) rest place
name_one test n rest place c = record { symbol = c.symbol; next = c.next; is = c.is; taken = name_taken test n rest place c; fit = c.fit }

-- ---- steps

-- a step that was spelled
record IsStep (n : ℕ) (p : PathStep × ℕ) : Type 0 where
  same : p.1 ≡ n
  prints : (j place : ℕ) (rest : List ℕ) → after_name rest ≡ true → Cuts (path_step j) (p.0, j) (path_step_text p.0) rest place

pub after_bracket : (rest : List ℕ) → AfterNumber (codes "]" ++ rest)
after_bracket rest = record { digit = refl; point = refl; letter = refl }

member_prints : (x : Name) → NameTold is_name x → (j place : ℕ) (rest : List ℕ) → after_name rest ≡ true → Cuts (path_step j) (step.Member x, j) (path_step_text (step.Member x)) rest place
member_prints x t j place rest a =
    let first = dot (name_text x ++ rest) place (t.starts rest) in
    let one = cuts-one name x (name_text x) rest first.next (name_one is_name x rest first.next (t.prints first.next rest a)) in
    let G = plain (made step.Member (terminal name)) in
    let body = cuts-into (terminal name) (G j) x (step.Member x, j) (name_text x) rest first.next (λ ts w. (step.Member x, refl, (x, refl, w))) one in
    cuts-into (past (of k.Dot) G j) (path_step j) (step.Member x, j) (step.Member x, j) (path_step_text (step.Member x)) rest place (λ ts w. (true, w))
    (cuts-past (G j) (of k.Dot) (step.Member x, j) (codes ".") (name_text x) rest place first body)

element_prints : (x : ℕ) → (nat_le 0 x && nat_le x 9223372036854775807) ≡ true → (j place : ℕ) (rest : List ℕ) → Cuts (path_step j) (step.Element x, j) (path_step_text (step.Element x)) rest place
element_prints x t j place rest =
    let l = leb-true x 9223372036854775807 (and_right (nat_le 0 x) _ t) in
    let first = left_bracket place ((decimal x ++ codes "]") ++ rest) in
    let one = cuts-one digits x (decimal x) (codes "]" ++ rest) first.next (digits_print 0 9223372036854775807 x (codes "]" ++ rest) first.next (omega arith) t (after_bracket rest)) in
    let G = plain (made step.Element (terminal digits)) in
    let body = cuts-into (terminal digits) (G j) x (step.Element x, j) (decimal x) (codes "]" ++ rest) first.next (λ ts w. (step.Element x, refl, (x, refl, w))) one in
    let closed = cuts-before (G j) (of k.RightBracket) (step.Element x, j) (decimal x) (codes "]") rest first.next body (right_bracket body.next rest) in
    let B = before G (of k.RightBracket) in
    cuts-into (past (of k.LeftBracket) B j) (path_step j) (step.Element x, j) (step.Element x, j) (path_step_text (step.Element x)) rest place (λ ts w. (false, w))
    (cuts-past (B j) (of k.LeftBracket) (step.Element x, j) (codes "[") (decimal x ++ codes "]") rest place first closed)

step_again : (n : ℕ) (p : PathStep × ℕ) (ts : List Symbol) → AllGood ts → (path_step n).Spells p ts → IsStep n p
step_again n p ts good (true, w) =
    let x = w.after in
    let y = x.2 in
    let t = taken_one name y.0 w.right y.2 in
    let g = good_one w.right t.symbol t.is (good_right ts w.left w.right w.joined good) in
    let is : (step.Member y.0, n) ≡ p = ap (λ s. (s, n)) y.1 ∙ x.1 in
    subst (IsStep n) is (record { same = refl; prints = member_prints y.0 (any_name_told t.symbol y.0 g t.taken) })
step_again n p ts good (false, w) =
    let b = w.after in
    let x = b.whole in
    let y = x.2 in
    let t = taken_one digits y.0 b.left y.2 in
    let is : (step.Element y.0, n) ≡ p = ap (λ s. (s, n)) y.1 ∙ (x.1 ∙ b.after.1) in
    subst (IsStep n) is (record { same = refl; prints = λ j place rest a. element_prints y.0 (digits_taken 0 9223372036854775807 t.symbol y.0 t.taken) j place rest })

step_starts : (s : PathStep) (rest : List ℕ) → after_name (path_step_text s ++ rest) ≡ true
step_starts (step.Member x) rest = refl
step_starts (step.Element x) rest = refl

steps_start : (xs : List PathStep) (rest : List ℕ) → after_name rest ≡ true → after_name (print_all path_step_text xs ++ rest) ≡ true
steps_start [] rest a = a
steps_start (x ∷ xs) rest a =
    let e : (path_step_text x ++ print_all path_step_text xs) ++ rest ≡ path_step_text x ++ (print_all path_step_text xs ++ rest) = append_assoc (path_step_text x) (print_all path_step_text xs) rest in
    rw e (step_starts x (print_all path_step_text xs ++ rest))

-- steps that were spelled
record AreSteps (n : ℕ) (p : List PathStep × ℕ) : Type 0 where
  same : p.1 ≡ n
  prints : (j place : ℕ) (rest : List ℕ) → after_name rest ≡ true → Cuts (many_from path_step j) (p.0, j) (print_all path_step_text p.0) rest place

no_steps : (n : ℕ) → AreSteps n ([], n)
no_steps n = record { same = refl; prints = λ j place rest a. cuts-nothing (many_from path_step j) ([], j) rest place (spelled-many_from_nil path_step j) }

more_steps : (n : ℕ) (x : PathStep × ℕ) (q : List PathStep × ℕ) → IsStep n x → AreSteps x.1 q → AreSteps n (x.0 ∷ q.0, q.1)
more_steps n x q s t = record {
  same = t.same ∙ s.same;
  prints = λ j place rest a.
      let more = print_all path_step_text q.0 in
      let first = s.prints j place (more ++ rest) (steps_start q.0 rest a) in
      let second = t.prints j first.next rest a in
      let e : (path_step_text x.0 ++ more) ++ rest ≡ path_step_text x.0 ++ (more ++ rest) = append_assoc (path_step_text x.0) more rest in
      record {
        symbols = first.symbols ++ second.symbols;
        next = second.next;
        is = rw e (first.is ∙ ap (λ l. first.symbols ++ l) second.is ∙ sym (append_assoc first.symbols second.symbols (cut second.next rest)));
        spelled = spelled-many_from_cons path_step j j j x.0 q.0 first.symbols second.symbols first.spelled second.spelled;
        fit = fit-append first.symbols second.symbols first.fit second.fit;
      };
}

steps_again : (b n : ℕ) (p : List PathStep × ℕ) (ts : List Symbol) → AllGood ts → (bounded_from b path_step n).Spells p ts → AreSteps n p
steps_again zero n p ts good w = subst (AreSteps n) w.0 (no_steps n)
steps_again (suc b) n p ts good (false, w) = subst (AreSteps n) w.0 (no_steps n)
steps_again (suc b) n p ts good (true, j) =
    let q = j.after.0 in
    let first = step_again n j.value j.left (good_left ts j.left j.right j.joined good) j.whole in
    let rest = steps_again b j.value.1 q j.right (good_right ts j.left j.right j.joined good) j.after.2 in
    subst (AreSteps n) j.after.1 (more_steps n j.value q first rest)

-- ---- paths

abbrev path_node : Name → List PathStep → Expr
path_node first rest = e.Path (step.Member first ∷ rest)

path_told : (d n m : ℕ) (x : Name) (xs : List PathStep) → n ≡ suc m → NameTold is_path_name x → ((j place : ℕ) (rest : List ℕ) → after_name rest ≡ true → Cuts (many_from path_step j) (xs, j) (print_all path_step_text xs) rest place)
    → Told (rule_at 0) d n m (path_node x xs) (path_text (step.Member x ∷ xs))
unfolding primary
path_told d n m x xs c t s = record {
  used = 1;
  within = omega arith;
  prints = λ f below j place rest clear.
      let a = clear_name rest clear in
      let more = print_all path_step_text xs in
      let first = t.prints place (more ++ rest) (steps_start xs rest a) in
      let second = s j first.next rest a in
      let e : (name_text x ++ more) ++ rest ≡ name_text x ++ (more ++ rest) = append_assoc (name_text x) more rest in
      let one = spelled-one_more too_many path_name first.symbol x (1 + j) j (omega arith) (name_taken is_path_name x (more ++ rest) place first) in
      record {
        symbols = first.symbol ∷ second.symbols;
        next = second.next;
        is = rw e (first.is ∙ ap (λ l. first.symbol ∷ l) second.is);
        spelled = (path_form, spelled-chain path_node (one_more too_many path_name) path_step (1 + j) j j x xs (first.symbol ∷ []) second.symbols one second.spelled);
        fit = fit-one first.symbol second.symbols first.fit second.fit;
      };
}

pub own-path : (d n : ℕ) (p : Expr × ℕ) (ts : List Symbol) → AllGood ts → (primary_of (room_of d) (inner_of d) path_form n).Spells p ts → Own d n p.1 0 p.0
own-path d n p ts good w =
    let j = w.2 in
    let q = j.after.0 in
    let c = counted_one too_many path_name n j.value j.left j.whole in
    let g = good_one j.left c.one.symbol c.one.is (good_left ts j.left j.right j.joined good) in
    let t = path_name_told c.one.symbol j.value.0 g c.one.taken in
    let s = steps_again j.after.2.0 j.value.1 q j.right (good_right ts j.left j.right j.joined good) j.after.2.1 in
    let count : n ≡ suc q.1 = let z = c.counts in let y = s.same in omega (arith, z, y) in
    let x = path_node j.value.0 q.0 in
    let told = path_told d n q.1 j.value.0 q.0 count t s.prints in
    let o = own-shown d n q.1 0 x (path_text (step.Member j.value.0 ∷ q.0)) (shown_path (step.Member j.value.0 ∷ q.0)) refl refl told in
    let is : (x, q.1) ≡ p = ap (λ v. (path_node v.0.0 v.0.1, v.1)) j.after.1 ∙ w.1 in
    subst (λ v. Own d n v.1 0 v.0) is o
