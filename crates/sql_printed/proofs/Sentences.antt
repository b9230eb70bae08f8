-- IS, all tails, and what stands before a tail are told again.
use Rattle.std.proofs.Common.{◌≡◌, ℕ, ◌+◌, Bool, true, false, List, [], ◌∷◌, ◌++◌, length, Option, Some, is_some, refl, sym, ap, ◌∙◌, subst, codes, ◌⊎◌, inl, inr}
use Rattle.sql_tokens.specs.declared.class.Class.{Class}
use Rattle.sql_tokens.specs.declared.class.Class.TheVariants as k
use Rattle.sql_tokens.specs.Classes.{same_class}
use Rattle.sql_tokens.specs.TokenForms.{word, begins, is_word_byte, is_called}
use Rattle.sql_tokens.specs.Keywords.{class_of_word}
use Rattle.sql_tokens.specs.Cutting.{Symbol, cut}
use Rattle.grammar_rules.specs.Rules.{Rule, Verdict, takes, terminal, token, either}
use Rattle.grammar_rules.specs.Counted.{plain, both, after, past, maybe}
use Rattle.grammar_rules.proofs.Printing.{spelled-token}
use Rattle.sql_grammar.specs.declared.tree.Expr.{Expr}
use Rattle.sql_grammar.specs.declared.tree.CompareOp.TheVariants as compares
use Rattle.sql_grammar.specs.Marks.{Fault, class, of, one_told, told_by}
use Rattle.sql_grammar.specs.Expressions.{Counting, room_of, perhaps, Tail, comparing, lying, among, liking, being_null, being_missing, pred_node, is_what, comparison, between, in_members, like, is_tail, negatable, tail, pred}
use Rattle.sql_printed.specs.Shown.{shown, at, form, not_text}
use Rattle.sql_printed.proofs.Telling.{is_clear, Starts, IsWord, Told, told-both, told-given, told-into, told-as, told-some, told-plain, cuts-into, cuts-past}
use Rattle.sql_printed.proofs.Words.{is_word, cut_word, keyword_behind}
use Rattle.sql_printed.proofs.Names.{clear_words}
use Rattle.sql_printed.proofs.Again.{AllGood, good_left, good_right, taken_one, IsOne, OnePrints, cuts-one, Again, again-either}
use Rattle.sql_printed.proofs.Levels.{inner_of, rule_at, Own, own-lift, own-at, cuts-behind}
use Rattle.sql_printed.proofs.Folds.{shown_compare, shown_between, shown_among, shown_like, shown_is_null, shown_is_missing}
use Rattle.sql_printed.proofs.Operators.{Owned, own-shown}
use Rattle.sql_printed.proofs.Predicates.{tail_text, not_before, comparison_again, between_again, between_same, between_blank, between_body, in_again, in_same, in_blank, among_body, like_again, like_same, like_blank, like_body, again-negatable}

-- a word that is taken for a value, where no word byte follows
pub word_taken : {A : Type 0} (look : Symbol → Verdict Fault A) (a : A) (w rest : List ℕ) (place : ℕ) → is_word w ≡ true → ((called : Bool) (at : ℕ) → look (record { at = at; token = word called w }) ≡ takes a) → begins is_word_byte rest ≡ false → IsOne look a w rest place
word_taken look a w rest place i l b = record {
  symbol = record { at = place; token = word (is_called rest) w };
  next = place + length w;
  is = cut_word place w rest i b;
  taken = l (is_called rest) place;
  fit = refl;
}

-- behind a blank
pub blank_taken : {A : Type 0} (look : Symbol → Verdict Fault A) (a : A) (text rest : List ℕ) (place : ℕ) → IsOne look a text rest (place + 1) → IsOne look a (32 ∷ text) rest place
unfolding cut
blank_taken look a text rest place o = record { symbol = o.symbol; next = o.next; is = o.is; taken = o.taken; fit = o.fit }

null_looks : (t called : Bool) (at : ℕ) → one_told (is_what t) (record { at = at; token = word called (codes "NULL") }) ≡ takes (being_null t)
unfolding class_of_word
null_looks t true at = refl
null_looks t false at = refl

missing_looks : (t called : Bool) (at : ℕ) → one_told (is_what t) (record { at = at; token = word called (codes "MISSING") }) ≡ takes (being_missing t)
unfolding class_of_word
missing_looks t true at = refl
missing_looks t false at = refl

null_prints : (t : Bool) → OnePrints (one_told (is_what t)) (being_null t) (codes " NULL")
null_prints t place rest c = blank_taken (one_told (is_what t)) (being_null t) (codes "NULL") rest place (word_taken (one_told (is_what t)) (being_null t) (codes "NULL") rest (place + 1) refl (null_looks t) (clear_words rest c))

missing_prints : (t : Bool) → OnePrints (one_told (is_what t)) (being_missing t) (codes " MISSING")
missing_prints t place rest c = blank_taken (one_told (is_what t)) (being_missing t) (codes "MISSING") rest place (word_taken (one_told (is_what t)) (being_missing t) (codes "MISSING") rest (place + 1) refl (missing_looks t) (clear_words rest c))

-- behind IS and NOT
abbrev is_body : Tail → List ℕ
is_body (being_null t) = codes " NULL"
is_body (being_missing t) = codes " MISSING"
is_body _ = []

abbrev what_rule : Bool → Rule Symbol Fault Tail
what_rule t = terminal (one_told (is_what t))

what_is : (t : Bool) (c : Class) (x : Tail) → told_by (is_what t c) ≡ takes x → (being_null t ≡ x) ⊎ (being_missing t ≡ x)
what_is t k.Null x e = inl (let s : being_null t ≡ x = cc in s)
what_is t k.Missing x e = inr (let s : being_missing t ≡ x = cc in s)
what_is t _ x e = absurd (let no : ⊥ = cc in no)

-- what IS says, without IS
record Says (t : Bool) (d n m : ℕ) (x : Tail) : Type 0 where
  told : Told (λ f. plain (what_rule t)) d n m x (is_body x)
  text : codes " IS" ++ (not_text t ++ is_body x) ≡ tail_text x
  blank : (r : List ℕ) → begins is_word_byte (is_body x ++ r) ≡ false

says : (t : Bool) (d n : ℕ) (p : Tail × ℕ) (ts : List Symbol) → (plain (what_rule t) n).Spells p ts → Says t d n p.1 p.0
says t d n p ts w =
    let s = taken_one (one_told (is_what t)) w.0 ts w.2 in
    subst (λ v. Says t d n v.1 v.0) w.1
    (elim (what_is t (class s.symbol) w.0 s.taken) [
      | inl i ↦ subst (λ x. Says t d n n x) i (record { told = told-plain (λ f. what_rule t) d n (being_null t) (codes " NULL") (λ f below place rest c. cuts-one (one_told (is_what t)) (being_null t) (codes " NULL") rest place (null_prints t place rest c)); text = refl; blank = λ r. refl })
      | inr i ↦ subst (λ x. Says t d n n x) i (record { told = told-plain (λ f. what_rule t) d n (being_missing t) (codes " MISSING") (λ f below place rest c. cuts-one (one_told (is_what t)) (being_missing t) (codes " MISSING") rest place (missing_prints t place rest c)); text = refl; blank = λ r. refl })
    ])

is_before : (rest : List ℕ) (place : ℕ) → begins is_word_byte rest ≡ false → IsWord (of k.Is) (codes " IS") rest place
unfolding class_of_word same_class
is_before rest place b = keyword_behind k.Is (codes "IS") rest place refl b

abbrev is_rest : Counting Tail
is_rest = perhaps (plain (token (of k.Not))) (λ negated. plain (what_rule (is_some negated)))

told-is : (d n m : ℕ) (x : Tail) (text : List ℕ) → ((r : List ℕ) → begins is_word_byte (text ++ r) ≡ false) → Told (λ f. is_rest) d n m x text → Told (λ f. past (of k.Is) is_rest) d n m x (codes " IS" ++ text)
told-is d n m x text blank t = record {
  used = t.used;
  within = t.within;
  prints = λ f below j place rest c.
      let first = is_before (text ++ rest) place (blank rest) in
      cuts-past (is_rest (t.used + j)) (of k.Is) (x, j) (codes " IS") text rest place first (t.prints f below j first.next rest c);
}

told-is_not : (d n m : ℕ) (x : Tail) (text : List ℕ) → ((r : List ℕ) → begins is_word_byte (text ++ r) ≡ false) → Told (λ f. plain (what_rule true)) d n m x text → Told (λ f. is_rest) d n m x (codes " NOT" ++ text)
told-is_not d n m x text blank t = record {
  used = t.used;
  within = t.within;
  prints = λ f below j place rest c.
      let first = not_before (text ++ rest) place (blank rest) in
      let body = t.prints f below j first.next rest c in
      cuts-into (after (plain (token (of k.Not))) (λ a. plain (what_rule (is_some (Some a)))) (t.used + j)) (is_rest (t.used + j)) (x, j) (x, j) (codes " NOT" ++ text) rest place (λ ts w. (true, w))
      (cuts-behind (plain (token (of k.Not)) (t.used + j)) (λ p. plain (what_rule true) p.1) (first.symbol, t.used + j) (x, j) (codes " NOT") text rest place first.next first.symbol first.is first.fit
      (first.symbol, refl, spelled-token (of k.Not) first.symbol first.passes) body);
}

is_again : (d : ℕ) → Again (is_tail (room_of d) (inner_of d)) (λ f. is_tail (room_of f) (inner_of f)) d tail_text
is_again d n p ts good j = by j.right j.after
  where
    by : (us : List Symbol) → (is_rest n).Spells p us → Told (λ f. is_tail (room_of f) (inner_of f)) d n p.1 p.0 (tail_text p.0)
    by us (true, i) =
        let s = says true d i.value.1 p i.right i.after in
        let same : i.value.1 ≡ n = ap (λ v. v.1) (sym i.whole.1) in
        let t = subst (λ y. Told (λ f. plain (what_rule true)) d y p.1 p.0 (is_body p.0)) same s.told in
        told-as (λ f. is_tail (room_of f) (inner_of f)) d n p.1 p.0 (codes " IS" ++ (codes " NOT" ++ is_body p.0)) (told-is d n p.1 p.0 (codes " NOT" ++ is_body p.0) (λ r. refl) (told-is_not d n p.1 p.0 (is_body p.0) s.blank t)) (tail_text p.0) s.text
    by us (false, w) =
        let s = says false d n p us w in
        let t = told-into (λ f. plain (what_rule false)) d n p.1 p.0 (is_body p.0) s.told (λ f. is_rest) p.0 (λ f j i vs v. (false, v)) in
        told-as (λ f. is_tail (room_of f) (inner_of f)) d n p.1 p.0 (codes " IS" ++ is_body p.0) (told-is d n p.1 p.0 (is_body p.0) s.blank t) (tail_text p.0) s.text

-- ---- all tails

module _ (d : ℕ) (below : Owned d 3) (inside : Again (inner_of d) inner_of d (λ x. at 7 (shown x))) where
  tail_again : Again (tail (room_of d) (inner_of d)) (λ f. tail (room_of f) (inner_of f)) d tail_text
  unfolding tail
  tail_again =
      let r = room_of d in
      let i = inner_of d in
      let B = λ (f : ℕ). negatable (room_of f) (inner_of f) (between (room_of f) (inner_of f)) in
      let N = λ (f : ℕ). negatable (room_of f) (inner_of f) (in_members (room_of f) (inner_of f)) in
      let L = λ (f : ℕ). negatable (room_of f) (inner_of f) (like (room_of f) (inner_of f)) in
      let C = λ (f : ℕ). comparison (room_of f) (inner_of f) in
      let I = λ (f : ℕ). is_tail (room_of f) (inner_of f) in
      let betweens : Again (B d) B d tail_text = again-negatable (between r i) (λ t f. between (room_of f) (inner_of f) t) d (codes " BETWEEN ") between_body (between_again d below) (between_same d) between_blank in
      let ins : Again (N d) N d tail_text = again-negatable (in_members r i) (λ t f. in_members (room_of f) (inner_of f) t) d (codes " IN ") among_body (in_again d inside) (in_same d) in_blank in
      let likes : Again (L d) L d tail_text = again-negatable (like r i) (λ t f. like (room_of f) (inner_of f) t) d (codes " LIKE ") like_body (like_again d) (like_same d) like_blank in
      again-either (C d) (λ n. either (either (B d n) (either (N d n) (L d n))) (I d n)) C (λ f n. either (either (B f n) (either (N f n) (L f n))) (I f n)) d tail_text (comparison_again d below)
      (again-either (λ n. either (B d n) (either (N d n) (L d n))) (I d) (λ f n. either (B f n) (either (N f n) (L f n))) I d tail_text
      (again-either (B d) (λ n. either (N d n) (L d n)) B (λ f n. either (N f n) (L f n)) d tail_text betweens (again-either (N d) (L d) N L d tail_text ins likes)) (is_again d))

  pred_shown : (a : Expr) (t : Tail) → shown (pred_node a (Some t)) ≡ form 4 (at 3 (shown a) ++ tail_text t)
  pred_shown a (comparing op b) = shown_compare op a b
  pred_shown a (lying t low high) = shown_between t a low high
  pred_shown a (among t xs) = shown_among t a xs
  pred_shown a (liking t pattern esc) = shown_like t a pattern esc
  pred_shown a (being_null t) = shown_is_null t a
  pred_shown a (being_missing t) = shown_is_missing t a

  starts_tail : (t : Tail) → Starts (tail_text t)
  unfolding is_clear
  starts_tail (comparing compares.Equal b) rest c = refl
  starts_tail (comparing compares.NotEqual b) rest c = refl
  starts_tail (comparing compares.Less b) rest c = refl
  starts_tail (comparing compares.AtMost b) rest c = refl
  starts_tail (comparing compares.Greater b) rest c = refl
  starts_tail (comparing compares.AtLeast b) rest c = refl
  starts_tail (lying true low high) rest c = refl
  starts_tail (lying false low high) rest c = refl
  starts_tail (among true xs) rest c = refl
  starts_tail (among false xs) rest c = refl
  starts_tail (liking true pattern esc) rest c = refl
  starts_tail (liking false pattern esc) rest c = refl
  starts_tail (being_null t) rest c = refl
  starts_tail (being_missing t) rest c = refl

  pred_cases : (n : ℕ) (v : Expr × ℕ) (q : Option Tail × ℕ) (right : List Symbol) → Own d n v.1 3 v.0 → AllGood right → (maybe (tail (room_of d) (inner_of d)) v.1).Spells q right → Own d n q.1 4 (pred_node v.0 q.0)
  unfolding pred
  pred_cases n v q right o g (false, w) = subst (λ y. Own d n y.1 4 (pred_node v.0 y.0)) w.0 (own-lift d n v.1 3 v.0 o)
  pred_cases n v q right o g (true, w) =
      let x = w.0.0 in
      let t = tail_again v.1 w.0 right g w.2 in
      let s = told-some (λ f. tail (room_of f) (inner_of f)) d v.1 w.0.1 x (tail_text x) t in
      let b = told-both (rule_at 3) (λ f. maybe (tail (room_of f) (inner_of f))) d n v.1 w.0.1 v.0 (Some x) (at 3 (shown v.0)) (tail_text x) (starts_tail x) (own-at d n v.1 3 v.0 o) s in
      let all = told-given (λ f. both (rule_at 3 f) (maybe (tail (room_of f) (inner_of f)))) d (λ p. pred_node p.0 p.1) n w.0.1 (v.0, Some x) (at 3 (shown v.0) ++ tail_text x) b in
      subst (λ y. Own d n y.1 4 (pred_node v.0 y.0)) w.1
      (own-shown d n w.0.1 4 (pred_node v.0 (Some x)) (at 3 (shown v.0) ++ tail_text x) (pred_shown v.0 x) refl refl all)

  pub owned-pred : Owned d 4
  unfolding pred
  owned-pred n p ts g x =
      let j = x.2 in
      let q = j.after.0 in
      let first = below n j.value j.left (good_left ts j.left j.right j.joined g) j.whole in
      let o = pred_cases n j.value q j.right first (good_right ts j.left j.right j.joined g) j.after.2 in
      let e : (pred_node x.0.0.0 x.0.0.1, x.0.1) ≡ p = x.1 in
      let i : (pred_node j.value.0 q.0, q.1) ≡ (pred_node x.0.0.0 x.0.0.1, x.0.1) = ap (λ u. (pred_node u.0.0 u.0.1, u.1)) j.after.1 in
      subst (λ u. Own d n u.1 4 u.0) (i ∙ e) o
