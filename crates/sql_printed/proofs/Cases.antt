-- CASE and TRIM are told again.
use Rattle.std.proofs.Common.{◌≡◌, ℕ, suc, ◌+◌, Bool, true, false, List, [], ◌∷◌, ◌++◌, Option, Some, None, refl, ap, ◌∙◌, subst, arith, codes}
use Rattle.sql_tokens.specs.declared.class.Class.TheVariants as k
use Rattle.sql_tokens.specs.Classes.{same_class}
use Rattle.sql_tokens.specs.Keywords.{class_of_word}
use Rattle.sql_tokens.specs.TokenForms.{begins, is_word_byte}
use Rattle.sql_tokens.specs.Cutting.{Symbol, cut}
use Rattle.grammar_rules.specs.Counted.{one_more, given, both, past, before, maybe, many_from, chain}
use Rattle.grammar_rules.specs.Spelled.{print_all}
use Rattle.grammar_rules.proofs.Printing.{spelled-one_more}
use Rattle.sql_grammar.specs.declared.tree.Expr.{Expr}
use Rattle.sql_grammar.specs.declared.tree.Expr.TheVariants as e
use Rattle.sql_grammar.specs.declared.tree.Arm.{Arm, roll-Arm, out-Arm}
use Rattle.sql_grammar.specs.Marks.{too_many, of, case_form}
use Rattle.sql_grammar.specs.Expressions.{Counting, room_of, opening, arm, case_rest, case, primary_of, primary}
use Rattle.sql_printed.specs.Shown.{shown, shown_arm, form, behind}
use Rattle.sql_printed.proofs.Telling.{is_clear, Starts, starts-all, starts-append, Cuts, IsWord, Word, Told, cuts-into, cuts-before}
use Rattle.sql_printed.proofs.Words.{keyword, keyword_behind, keyword_blanks}
use Rattle.sql_printed.proofs.Names.{clear_words}
use Rattle.sql_printed.proofs.Again.{AllGood, good_left, good_right, counted_one, Again, again-both, again-given, again-past, again-maybe, again-many_from}
use Rattle.sql_printed.proofs.Enclosed.{open_room, more_room}
use Rattle.sql_printed.proofs.Folds.{shown_option, arm_text, arm_is, all_mapped, all_same, shown_case}
use Rattle.sql_printed.proofs.Levels.{inner_of, rule_at, Own, opened, cuts-behind}
use Rattle.sql_printed.proofs.Operators.{own-shown}

-- ---- blanks, and a word at the end

pub told-blank : {A : Type 0} (G : ℕ → Counting A) (d n m : ℕ) (a : A) (text : List ℕ) → Told G d n m a text → Told G d n m a (codes " " ++ text)
unfolding cut
told-blank G d n m a text t = record {
  used = t.used;
  within = t.within;
  prints = λ f below j place rest c.
      let b = t.prints f below j (place + 1) rest c in
      record { symbols = b.symbols; next = b.next; is = b.is; spelled = b.spelled; fit = b.fit };
}

pub again-ending : {A : Type 0} (test : Symbol → Bool) (G : Counting A) (I : ℕ → Counting A) (d : ℕ) (print : A → List ℕ) (back : List ℕ) → Starts back → ((place : ℕ) (rest : List ℕ) → is_clear rest ≡ true → IsWord test back rest place) → Again G I d print
    → Again (before G test) (λ f. before (I f) test) d (λ a. print a ++ back)
again-ending test G I d print back s w g n p ts good j =
    let t = g n j.value j.left (good_left ts j.left j.right j.joined good) j.whole in
    subst (λ v. Told (λ f. before (I f) test) d n v.1 v.0 (print v.0 ++ back)) j.after.1
    (record {
      used = t.used;
      within = t.within;
      prints = λ f below i place rest c.
          let first = t.prints f below i place (back ++ rest) (s rest c) in
          cuts-before (I f (t.used + i)) test (j.value.0, i) (print j.value.0) back rest place first (w first.next rest c);
    })

-- ---- CASE

end_word : (place : ℕ) (rest : List ℕ) → is_clear rest ≡ true → IsWord (of k.End) (codes " END") rest place
unfolding class_of_word same_class
end_word place rest c = keyword_behind k.End (codes "END") rest place refl (clear_words rest c)

else_word : Word (of k.Else) (codes " ELSE ")
unfolding class_of_word same_class
else_word = keyword_blanks k.Else (codes "ELSE") refl

when_word : Word (of k.When) (codes " WHEN ")
unfolding class_of_word same_class
when_word = keyword_blanks k.When (codes "WHEN") refl

then_word : Word (of k.Then) (codes " THEN ")
unfolding class_of_word same_class
then_word = keyword_blanks k.Then (codes "THEN") refl

case_word : (rest : List ℕ) (place : ℕ) → begins is_word_byte rest ≡ false → IsWord (of k.Case) (codes "CASE") rest place
unfolding class_of_word same_class
case_word rest place b = keyword k.Case (codes "CASE") rest place refl b

abbrev end_text : Option Expr → List ℕ
end_text o = behind (codes " ELSE ") (shown_option o) ++ codes " END"

abbrev arms_text : List Arm × Option Expr → List ℕ
arms_text q = print_all arm_text q.0 ++ end_text q.1

abbrev case_text : Option Expr × (List Arm × Option Expr) → List ℕ
case_text p = behind (codes " ") (shown_option p.0) ++ arms_text p.1

abbrev case_node : Option Expr × (List Arm × Option Expr) → Expr
case_node p = e.Case p.0 p.1.0 p.1.1

starts_arm : (a : Arm) → Starts (arm_text a)
unfolding is_clear
starts_arm a rest c = refl

starts_then : (x : Expr) → Starts (codes " THEN " ++ (shown x).text)
unfolding is_clear
starts_then x rest c = refl

starts_ending : Starts (codes " END")
unfolding is_clear
starts_ending rest c = refl

starts_end : (o : Option Expr) → Starts (end_text o)
unfolding is_clear
starts_end None rest c = refl
starts_end (Some x) rest c = refl

starts_arms : (q : List Arm × Option Expr) → Starts (arms_text q)
starts_arms q = starts-append (print_all arm_text q.0) (end_text q.1) (starts-all arm_text starts_arm q.0) (starts_end q.1)

end_blank : (o : Option Expr) (rest : List ℕ) → begins is_word_byte (end_text o ++ rest) ≡ false
end_blank None rest = refl
end_blank (Some x) rest = refl

arms_blank : (xs : List Arm) (o : Option Expr) (rest : List ℕ) → begins is_word_byte (arms_text (xs, o) ++ rest) ≡ false
arms_blank [] o rest = end_blank o rest
arms_blank (x ∷ xs) o rest = refl

case_blank : (op : Option Expr) (xs : List Arm) (o : Option Expr) (rest : List ℕ) → begins is_word_byte (case_text (op, (xs, o)) ++ rest) ≡ false
case_blank None xs o rest = arms_blank xs o rest
case_blank (Some x) xs o rest = refl

case_is : (p : Option Expr × (List Arm × Option Expr)) → shown (case_node p) ≡ form 0 (codes "CASE" ++ case_text p)
case_is p =
    shown_case p.0 p.1.0 p.1.1
    ∙ ap (λ l. form 0 (codes "CASE" ++ (behind (codes " ") (shown_option p.0) ++ (l ++ end_text p.1.1)))) (all_mapped shown_arm p.1.0 ∙ all_same shown_arm arm_text arm_is p.1.0)

abbrev arm_body : Arm → List ℕ
arm_body a = (shown (out-Arm a).when).text ++ (codes " THEN " ++ (shown (out-Arm a).then).text)

abbrev arm_at : ℕ → Counting Arm
arm_at f = arm (room_of f) (inner_of f)

abbrev end_at : ℕ → Counting (Option Expr)
end_at f = before (maybe (past (of k.Else) (inner_of f))) (of k.End)

abbrev arms_at : ℕ → Counting (List Arm)
arms_at f = chain (λ a rest. a ∷ rest) (arm_at f) (arm_at f)

abbrev case_parts : ℕ → Counting (Option Expr × (List Arm × Option Expr))
case_parts f = both (maybe (inner_of f)) (both (arms_at f) (end_at f))

module _ (d : ℕ) (inside : Again (inner_of d) inner_of d (λ x. (shown x).text)) where
  arm_again : Again (arm_at d) arm_at d arm_text
  arm_again =
      again-past (of k.When) (given (λ p. roll-Arm (record { when = p.0; then = p.1 })) (both (inner_of d) (past (of k.Then) (inner_of d)))) (λ f. given (λ p. roll-Arm (record { when = p.0; then = p.1 })) (both (inner_of f) (past (of k.Then) (inner_of f)))) d (codes " WHEN ") arm_body when_word
      (again-given (λ p. roll-Arm (record { when = p.0; then = p.1 })) (both (inner_of d) (past (of k.Then) (inner_of d))) (λ f. both (inner_of f) (past (of k.Then) (inner_of f))) d arm_body
      (again-both (inner_of d) (past (of k.Then) (inner_of d)) inner_of (λ f. past (of k.Then) (inner_of f)) d (λ x. (shown x).text) (λ x. codes " THEN " ++ (shown x).text) starts_then inside
      (again-past (of k.Then) (inner_of d) inner_of d (codes " THEN ") (λ x. (shown x).text) then_word inside)))

  arms_again : Again (arms_at d) arms_at d (print_all arm_text)
  arms_again =
      again-given (λ p. p.0 ∷ p.1) (both (arm_at d) (many_from (arm_at d))) (λ f. both (arm_at f) (many_from (arm_at f))) d (print_all arm_text)
      (again-both (arm_at d) (many_from (arm_at d)) arm_at (λ f. many_from (arm_at f)) d arm_text (print_all arm_text) (starts-all arm_text starts_arm) arm_again
      (again-many_from (arm_at d) arm_at d arm_text starts_arm arm_again))

  end_again : Again (end_at d) end_at d end_text
  end_again =
      again-ending (of k.End) (maybe (past (of k.Else) (inner_of d))) (λ f. maybe (past (of k.Else) (inner_of f))) d (λ o. behind (codes " ELSE ") (shown_option o)) (codes " END") starts_ending end_word
      (again-maybe (past (of k.Else) (inner_of d)) (λ f. past (of k.Else) (inner_of f)) d (λ o. behind (codes " ELSE ") (shown_option o)) refl
      (again-past (of k.Else) (inner_of d) inner_of d (codes " ELSE ") (λ x. (shown x).text) else_word inside))

  blank_again : Again (inner_of d) inner_of d (λ x. codes " " ++ (shown x).text)
  blank_again n p ts good w = told-blank inner_of d n p.1 p.0 (shown p.0).text (inside n p ts good w)

  case_again : Again (case_parts d) case_parts d case_text
  case_again =
      again-both (maybe (inner_of d)) (both (arms_at d) (end_at d)) (λ f. maybe (inner_of f)) (λ f. both (arms_at f) (end_at f)) d (λ o. behind (codes " ") (shown_option o)) arms_text starts_arms
      (again-maybe (inner_of d) inner_of d (λ o. behind (codes " ") (shown_option o)) refl blank_again)
      (again-both (arms_at d) (end_at d) arms_at end_at d (print_all arm_text) end_text starts_end arms_again end_again)

  case_told : (n m l : ℕ) (v : Option Expr × (List Arm × Option Expr)) → n ≡ suc m → (room_of d).here ≡ true → Told case_parts d m l v (case_text v) → Told (rule_at 0) d n l (case_node v) (codes "CASE" ++ case_text v)
  unfolding primary
  case_told n m l v c r t = record {
    used = suc t.used;
    within = let a = t.within in omega (arith, a, c);
    prints = λ f below j place rest clear.
        let z : suc (t.used + j) ≡ suc t.used + j = omega arith in
        let first = case_word (case_text v ++ rest) place (case_blank v.0 v.1.0 v.1.1 rest) in
        let parts = t.prints f below j first.next rest clear in
        let R = λ (i : ℕ). case_rest (room_of f) (inner_of f) i in
        let body = cuts-into (case_parts f (t.used + j)) (R (t.used + j)) (v, j) (case_node v, j) (case_text v) rest first.next (λ ts w. ((v, j), refl, w)) parts in
        let here = (room_of f).here in
        let one = spelled-one_more too_many (opening here k.Case) first.symbol first.symbol (suc (t.used + j)) (t.used + j) refl (opened here k.Case first.symbol (more_room d f below r) first.passes) in
        subst (λ x. Cuts (rule_at 0 f x) (case_node v, j) (codes "CASE" ++ case_text v) rest place) z
        (cuts-into (case (room_of f) (inner_of f) (suc (t.used + j))) (rule_at 0 f (suc (t.used + j))) (case_node v, j) (case_node v, j) (codes "CASE" ++ case_text v) rest place (λ ts w. (case_form, w))
        (cuts-behind (one_more too_many (opening here k.Case) (suc (t.used + j))) (λ q. R q.1) (first.symbol, t.used + j) (case_node v, j) (codes "CASE") (case_text v) rest place first.next first.symbol first.is first.fit one body));
  }

  pub own-case : (n : ℕ) (p : Expr × ℕ) (ts : List Symbol) → AllGood ts → (primary_of (room_of d) (inner_of d) case_form n).Spells p ts → Own d n p.1 0 p.0
  own-case n p ts good j =
      let c = counted_one too_many (opening (room_of d).here k.Case) n j.value j.left j.whole in
      let r = open_room (room_of d).here k.Case c.one.symbol j.value.0 c.one.taken in
      let w = j.after in
      let t = case_again j.value.1 w.0 j.right (good_right ts j.left j.right j.joined good) w.2 in
      let o = own-shown d n w.0.1 0 (case_node w.0.0) (codes "CASE" ++ case_text w.0.0) (case_is w.0.0) refl refl (case_told n j.value.1 w.0.1 w.0.0 c.counts r t) in
      subst (λ v. Own d n v.1 0 v.0) w.1 o
