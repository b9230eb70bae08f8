-- Sums, products, minus, NOT, AND and OR are told again, each over the rule below it.
use Rattle.std.proofs.Common.{◌≡◌, ℕ, suc, ◌+◌, ◌≤◌, nat_le, Bool, true, false, List, [], ◌∷◌, ◌++◌, refl, sym, ap, ◌∙◌, subst, arith, codes}
use Rattle.sql_tokens.specs.declared.class.Class.{Class}
use Rattle.sql_tokens.specs.declared.class.Class.TheVariants as k
use Rattle.sql_tokens.specs.Classes.{same_class}
use Rattle.sql_tokens.specs.TokenForms.{punctuation, token_from, punctuation_token}
use Rattle.sql_tokens.specs.Keywords.{class_of_word}
use Rattle.sql_tokens.specs.Cutting.{Symbol, cut}
use Rattle.grammar_rules.specs.Rules.{Verdict, terminal, made}
use Rattle.grammar_rules.specs.Counted.{plain, given, both, past, many_from, chain}
use Rattle.grammar_rules.specs.Spelled.{print_all}
use Rattle.grammar_rules.proofs.Printing.{spelled-token}
use Rattle.sql_grammar.specs.declared.tree.Expr.{Expr}
use Rattle.sql_grammar.specs.declared.tree.Expr.TheVariants as e
use Rattle.sql_grammar.specs.declared.tree.SumPart.{SumPart, roll-SumPart, out-SumPart}
use Rattle.sql_grammar.specs.declared.tree.ProdPart.{ProdPart, roll-ProdPart, out-ProdPart}
use Rattle.sql_grammar.specs.declared.tree.SumOp.{SumOp}
use Rattle.sql_grammar.specs.declared.tree.SumOp.TheVariants as adds
use Rattle.sql_grammar.specs.declared.tree.ProdOp.{ProdOp}
use Rattle.sql_grammar.specs.declared.tree.ProdOp.TheVariants as multiplies
use Rattle.sql_grammar.specs.Marks.{Fault, of, one_told, sum_op, prod_op}
use Rattle.sql_grammar.specs.Expressions.{Counting, room_of, flag, unary_node, prod_node, sum_node, not_node, and_node, or_node, unary, prod_part, prod, sum_part, sum, negation, conjunction, disjunction}
use Rattle.sql_printed.specs.Shown.{shown, at, form, sum_text, prod_text, shown_sum_part, shown_prod_part}
use Rattle.sql_printed.proofs.Telling.{is_clear, Starts, starts-all, Word, Told, told-both, told-given, told-into, told-as, cuts-into}
use Rattle.sql_printed.proofs.Words.{minus, keyword_blank, keyword_blanks}
use Rattle.sql_printed.proofs.Again.{AllGood, good_left, good_right, IsOne, Again, again-given, again-past, again-many_from}
use Rattle.sql_printed.proofs.Levels.{inner_of, rule_at, Own, own-at, own-lift, own-form, cuts-behind}
use Rattle.sql_printed.proofs.Folds.{all_mapped, all_same, joined_rest, sum_part_text, prod_part_text, sum_part_is, prod_part_is, shown_or, shown_and, shown_not, shown_sum, shown_prod, shown_minus}

-- what the rule of this height spells at this depth is told in its place
abbrev pub Owned : ℕ → ℕ → Type 0
Owned d h = (n : ℕ) (p : Expr × ℕ) (ts : List Symbol) → AllGood ts → (rule_at h d n).Spells p ts → Own d n p.1 h p.0

pub again-own : (d h : ℕ) → Owned d h → Again (rule_at h d) (rule_at h) d (λ x. at h (shown x))
again-own d h o n p ts g w = own-at d n p.1 h p.0 (o n p ts g w)

-- with more that may come before it
pub own-more : (d n m l h : ℕ) (x : Expr) → l ≤ m → Own d n m h x → Own d n l h x
own-more d n m l h x below o = record {
  depth = o.depth;
  used = o.used;
  low = o.low;
  deep = o.deep;
  within = let a = o.within in omega arith;
  prints = o.prints;
}

-- a form of the rule itself, whose text is known
pub own-shown : (d n m h : ℕ) (x : Expr) (text : List ℕ) → shown x ≡ form h text → nat_le h 7 ≡ true → nat_le h h ≡ true → Told (rule_at h) d n m x text → Own d n m h x
own-shown d n m h x text is low self t =
    own-form d n m h x (ap (λ s. s.height) is) low self (told-as (rule_at h) d n m x text t (shown x).text (sym (ap (λ s. s.text) is)))

-- ---- operators

-- the text is one token, in front of anything
abbrev pub OneAlways : {A : Type 0} → (Symbol → Verdict Fault A) → A → List ℕ → Type 0
OneAlways look a text = (place : ℕ) (rest : List ℕ) → IsOne look a text rest place

pub told-op : {A B : Type 0} (look : Symbol → Verdict Fault A) (J : ℕ → Counting B) (d n m : ℕ) (a : A) (b : B) (front text : List ℕ) → OneAlways look a front → Told J d n m b text
    → Told (λ f. both (plain (terminal look)) (J f)) d n m (a, b) (front ++ text)
told-op look J d n m a b front text o t = record {
  used = t.used;
  within = t.within;
  prints = λ f below j place rest clear.
      let first = o place (text ++ rest) in
      let body = t.prints f below j first.next rest clear in
      cuts-behind (plain (terminal look) (t.used + j)) (λ p. made (λ q. ((p.0, q.0), q.1)) (J f p.1)) (a, t.used + j) ((a, b), j) front text rest place first.next first.symbol first.is first.fit
      (a, refl, first.taken)
      (cuts-into (J f (t.used + j)) (made (λ q. ((a, q.0), q.1)) (J f (t.used + j))) (b, j) ((a, b), j) text rest first.next (λ ts v. ((b, j), refl, v)) body);
}

pub again-op : {A B : Type 0} (look : Symbol → Verdict Fault A) (H : Counting B) (J : ℕ → Counting B) (d : ℕ) (front : A → List ℕ) (back : B → List ℕ) → ((a : A) → OneAlways look a (front a)) → Again H J d back
    → Again (both (plain (terminal look)) H) (λ f. both (plain (terminal look)) (J f)) d (λ p. front p.0 ++ back p.1)
again-op look H J d front back o h n p ts g j =
    let q = j.after.0 in
    let same : j.value.1 ≡ n = ap (λ v. v.1) (sym j.whole.1) in
    let t = h j.value.1 q j.right (good_right ts j.left j.right j.joined g) j.after.2 in
    subst (λ v. Told (λ f. both (plain (terminal look)) (J f)) d n v.1 v.0 (front v.0.0 ++ back v.0.1)) j.after.1
    (told-op look J d n q.1 j.value.0 q.0 (front j.value.0) (back q.0) (o j.value.0) (subst (λ y. Told J d y q.1 q.0 (back q.0)) same t))

prod_op_prints : (op : ProdOp) → OneAlways (one_told prod_op) op (prod_text op)
unfolding cut token_from punctuation_token
prod_op_prints multiplies.Mul place rest = record { symbol = record { at = place + 1; token = punctuation k.Star }; next = place + 1 + 1 + 1; is = refl; taken = refl; fit = refl }
prod_op_prints multiplies.Div place rest = record { symbol = record { at = place + 1; token = punctuation k.Slash }; next = place + 1 + 1 + 1; is = refl; taken = refl; fit = refl }
prod_op_prints multiplies.Rem place rest = record { symbol = record { at = place + 1; token = punctuation k.Percent }; next = place + 1 + 1 + 1; is = refl; taken = refl; fit = refl }

sum_op_prints : (op : SumOp) → OneAlways (one_told sum_op) op (sum_text op)
unfolding cut token_from punctuation_token
sum_op_prints adds.Add place rest = record { symbol = record { at = place + 1; token = punctuation k.Plus }; next = place + 1 + 1 + 1; is = refl; taken = refl; fit = refl }
sum_op_prints adds.Sub place rest = record { symbol = record { at = place + 1; token = punctuation k.Minus }; next = place + 1 + 1 + 1; is = refl; taken = refl; fit = refl }

-- ---- a token that may stand in front

told-flagged : {A : Type 0} (c : Class) (G : ℕ → Counting A) (d n m : ℕ) (a : A) (front text : List ℕ) → Word (of c) front → Told G d n m a text → Told (λ f. both (flag c) (G f)) d n m (true, a) (front ++ text)
told-flagged c G d n m a front text w t = record {
  used = t.used;
  within = t.within;
  prints = λ f below j place rest clear.
      let first = w place (text ++ rest) in
      let body = t.prints f below j first.next rest clear in
      cuts-behind (flag c (t.used + j)) (λ p. made (λ q. ((p.0, q.0), q.1)) (G f p.1)) (true, t.used + j) ((true, a), j) front text rest place first.next first.symbol first.is first.fit
      (true, (first.symbol, refl, spelled-token (of c) first.symbol first.passes))
      (cuts-into (G f (t.used + j)) (made (λ q. ((true, q.0), q.1)) (G f (t.used + j))) (a, j) ((true, a), j) text rest first.next (λ ts v. ((a, j), refl, v)) body);
}

-- what stands before, where it may
module _ (c : Class) (node : Bool → Expr → Expr) (d h : ℕ) (front : List ℕ) (w : Word (of c) front) (below : Owned d h)
    (bare : (a : Expr) → node false a ≡ a) (text : (a : Expr) → shown (node true a) ≡ form (suc h) (front ++ at h (shown a))) (low : nat_le (suc h) 7 ≡ true) (self : nat_le (suc h) (suc h) ≡ true)
    (into : (f n : ℕ) (p : Expr × ℕ) (ts : List Symbol) → (given (λ p. node p.0 p.1) (both (flag c) (rule_at h f)) n).Spells p ts → (rule_at (suc h) f n).Spells p ts) where
  flag_cases : (n : ℕ) (v : Bool × ℕ) (b : Bool) (left right : List Symbol) (q : Expr × ℕ) → (v ≡ (b, n)) → AllGood right → (rule_at h d v.1).Spells q right → Own d n q.1 (suc h) (node v.0 q.0)
  flag_cases n v false left right q is g s =
      let o : Own d n q.1 (suc h) q.0 = own-lift d n q.1 h q.0 (below n q right g (subst (λ u. (rule_at h d u.1).Spells q right) is s)) in
      subst (λ u. Own d n q.1 (suc h) (node u.0 q.0)) (sym is) (subst (λ x. Own d n q.1 (suc h) x) (sym (bare q.0)) o)
  flag_cases n v true left right q is g s =
      let o = own-at d n q.1 h q.0 (below n q right g (subst (λ u. (rule_at h d u.1).Spells q right) is s)) in
      let t = told-given (λ f. both (flag c) (rule_at h f)) d (λ p. node p.0 p.1) n q.1 (true, q.0) (front ++ at h (shown q.0)) (told-flagged c (rule_at h) d n q.1 q.0 front (at h (shown q.0)) w o) in
      let r = told-into (λ f. given (λ p. node p.0 p.1) (both (flag c) (rule_at h f))) d n q.1 (node true q.0) (front ++ at h (shown q.0)) t (rule_at (suc h)) (node true q.0) (λ f j i ts v. into f i (node true q.0, j) ts v) in
      subst (λ u. Own d n q.1 (suc h) (node u.0 q.0)) (sym is) (own-shown d n q.1 (suc h) (node true q.0) (front ++ at h (shown q.0)) (text q.0) low self r)

  flag_value : (n : ℕ) (v : Bool × ℕ) (ts : List Symbol) → (flag c n).Spells v ts → (b : Bool) × (v ≡ (b, n))
  flag_value n v ts (true, x) = (true, sym x.1)
  flag_value n v ts (false, x) = (false, sym x.0)

  pub own-flagged : (n : ℕ) (p : Expr × ℕ) (ts : List Symbol) → AllGood ts → (given (λ p. node p.0 p.1) (both (flag c) (rule_at h d)) n).Spells p ts → Own d n p.1 (suc h) p.0
  own-flagged n p ts g x =
      let j = x.2 in
      let f = flag_value n j.value j.left j.whole in
      let q = j.after.0 in
      let o = flag_cases n j.value f.0 j.left j.right q f.1 (good_right ts j.left j.right j.joined g) j.after.2 in
      let e : (node x.0.0.0 x.0.0.1, x.0.1) ≡ p = x.1 in
      let i : (node j.value.0 q.0, q.1) ≡ (node x.0.0.0 x.0.0.1, x.0.1) = ap (λ u. (node u.0.0 u.0.1, u.1)) j.after.1 in
      subst (λ u. Own d n u.1 (suc h) u.0) (i ∙ e) o

-- ---- members with operators between them

module _ {B : Type 0} (node : Expr → List B → Expr) (d h : ℕ) (part : Counting B) (parts : ℕ → Counting B) (print : B → List ℕ) (starts : (b : B) → Starts (print b)) (below : Owned d h) (again : Again part parts d print)
    (bare : (a : Expr) → node a [] ≡ a) (text : (a : Expr) (b : B) (rest : List B) → shown (node a (b ∷ rest)) ≡ form (suc h) (at h (shown a) ++ print_all print (b ∷ rest))) (low : nat_le (suc h) 7 ≡ true) (self : nat_le (suc h) (suc h) ≡ true)
    (into : (f n : ℕ) (p : Expr × ℕ) (ts : List Symbol) → (chain node (rule_at h f) (parts f) n).Spells p ts → (rule_at (suc h) f n).Spells p ts) where
  chain_cases : (n m l : ℕ) (a : Expr) (bs : List B) → Own d n m h a → Told (λ f. many_from (parts f)) d m l bs (print_all print bs) → Own d n l (suc h) (node a bs)
  chain_cases n m l a [] o t =
      let u = t.within in
      subst (λ x. Own d n l (suc h) x) (sym (bare a)) (own-lift d n l h a (own-more d n m l h a (omega arith) o))
  chain_cases n m l a (b ∷ bs) o t =
      let both_told = told-both (rule_at h) (λ f. many_from (parts f)) d n m l a (b ∷ bs) (at h (shown a)) (print_all print (b ∷ bs)) (starts-all print starts (b ∷ bs)) (own-at d n m h a o) t in
      let all = told-given (λ f. both (rule_at h f) (many_from (parts f))) d (λ p. node p.0 p.1) n l (a, b ∷ bs) (at h (shown a) ++ print_all print (b ∷ bs)) both_told in
      let r = told-into (λ f. chain node (rule_at h f) (parts f)) d n l (node a (b ∷ bs)) (at h (shown a) ++ print_all print (b ∷ bs)) all (rule_at (suc h)) (node a (b ∷ bs)) (λ f j i ts v. into f i (node a (b ∷ bs), j) ts v) in
      own-shown d n l (suc h) (node a (b ∷ bs)) (at h (shown a) ++ print_all print (b ∷ bs)) (text a b bs) low self r

  pub own-chain : (n : ℕ) (p : Expr × ℕ) (ts : List Symbol) → AllGood ts → (chain node (rule_at h d) part n).Spells p ts → Own d n p.1 (suc h) p.0
  own-chain n p ts g x =
      let j = x.2 in
      let q = j.after.0 in
      let first = below n j.value j.left (good_left ts j.left j.right j.joined g) j.whole in
      let rest = again-many_from part parts d print starts again j.value.1 q j.right (good_right ts j.left j.right j.joined g) j.after.2 in
      let o = chain_cases n j.value.1 q.1 j.value.0 q.0 first rest in
      let e : (node x.0.0.0 x.0.0.1, x.0.1) ≡ p = x.1 in
      let i : (node j.value.0 q.0, q.1) ≡ (node x.0.0.0 x.0.0.1, x.0.1) = ap (λ u. (node u.0.0 u.0.1, u.1)) j.after.1 in
      subst (λ u. Own d n u.1 (suc h) u.0) (i ∙ e) o

-- ---- the rules

minus_word : Word (of k.Minus) (codes "-")
minus_word = minus

not_word : Word (of k.Not) (codes "NOT ")
unfolding class_of_word same_class
not_word = keyword_blank k.Not (codes "NOT") refl

and_word : Word (of k.And) (codes " AND ")
unfolding class_of_word same_class
and_word = keyword_blanks k.And (codes "AND") refl

or_word : Word (of k.Or) (codes " OR ")
unfolding class_of_word same_class
or_word = keyword_blanks k.Or (codes "OR") refl

pub owned-unary : (d : ℕ) → Owned d 0 → Owned d 1
unfolding unary
owned-unary d below = own-flagged k.Minus unary_node d 0 (codes "-") minus_word below (λ a. refl) (λ a. shown_minus a) refl refl (λ f n p ts w. w)

pub owned-negation : (d : ℕ) → Owned d 4 → Owned d 5
unfolding negation
owned-negation d below = own-flagged k.Not not_node d 4 (codes "NOT ") not_word below (λ a. refl) (λ a. shown_not a) refl refl (λ f n p ts w. w)

starts_prod_op : (op : ProdOp) (t : List ℕ) → Starts (prod_text op ++ t)
unfolding is_clear
starts_prod_op multiplies.Mul t rest c = refl
starts_prod_op multiplies.Div t rest c = refl
starts_prod_op multiplies.Rem t rest c = refl

starts_sum_op : (op : SumOp) (t : List ℕ) → Starts (sum_text op ++ t)
unfolding is_clear
starts_sum_op adds.Add t rest c = refl
starts_sum_op adds.Sub t rest c = refl

starts_prod : (b : ProdPart) → Starts (prod_part_text b)
starts_prod b = starts_prod_op (out-ProdPart b).op (at 1 (shown (out-ProdPart b).member))

starts_sum : (b : SumPart) → Starts (sum_part_text b)
starts_sum b = starts_sum_op (out-SumPart b).op (at 2 (shown (out-SumPart b).member))

starts_and : (x : Expr) → Starts (codes " AND " ++ at 5 (shown x))
unfolding is_clear
starts_and x rest c = refl

starts_or : (x : Expr) → Starts (codes " OR " ++ at 6 (shown x))
unfolding is_clear
starts_or x rest c = refl

prod_part_again : (d : ℕ) → Owned d 1 → Again (prod_part (room_of d) (inner_of d)) (λ f. prod_part (room_of f) (inner_of f)) d prod_part_text
prod_part_again d below =
    again-given (λ p. roll-ProdPart (record { op = p.0; member = p.1 })) (both (plain (terminal (one_told prod_op))) (rule_at 1 d)) (λ f. both (plain (terminal (one_told prod_op))) (rule_at 1 f)) d prod_part_text
    (again-op (one_told prod_op) (rule_at 1 d) (rule_at 1) d prod_text (λ x. at 1 (shown x)) prod_op_prints (again-own d 1 below))

sum_part_again : (d : ℕ) → Owned d 2 → Again (sum_part (room_of d) (inner_of d)) (λ f. sum_part (room_of f) (inner_of f)) d sum_part_text
sum_part_again d below =
    again-given (λ p. roll-SumPart (record { op = p.0; member = p.1 })) (both (plain (terminal (one_told sum_op))) (rule_at 2 d)) (λ f. both (plain (terminal (one_told sum_op))) (rule_at 2 f)) d sum_part_text
    (again-op (one_told sum_op) (rule_at 2 d) (rule_at 2) d sum_text (λ x. at 2 (shown x)) sum_op_prints (again-own d 2 below))

prod_shown : (a : Expr) (b : ProdPart) (rest : List ProdPart) → shown (e.Prod a (b ∷ rest)) ≡ form 2 (at 1 (shown a) ++ print_all prod_part_text (b ∷ rest))
prod_shown a b rest = shown_prod a (b ∷ rest) ∙ ap (λ l. form 2 (at 1 (shown a) ++ l)) (all_mapped shown_prod_part (b ∷ rest) ∙ all_same shown_prod_part prod_part_text prod_part_is (b ∷ rest))

sum_shown : (a : Expr) (b : SumPart) (rest : List SumPart) → shown (e.Sum a (b ∷ rest)) ≡ form 3 (at 2 (shown a) ++ print_all sum_part_text (b ∷ rest))
sum_shown a b rest = shown_sum a (b ∷ rest) ∙ ap (λ l. form 3 (at 2 (shown a) ++ l)) (all_mapped shown_sum_part (b ∷ rest) ∙ all_same shown_sum_part sum_part_text sum_part_is (b ∷ rest))

and_shown : (a b : Expr) (rest : List Expr) → shown (e.And (a ∷ b ∷ rest)) ≡ form 6 (at 5 (shown a) ++ print_all (λ x. codes " AND " ++ at 5 (shown x)) (b ∷ rest))
and_shown a b rest = shown_and (a ∷ b ∷ rest) ∙ ap (λ l. form 6 (at 5 (shown a) ++ l)) (joined_rest (codes " AND ") (at 5) shown (b ∷ rest))

or_shown : (a b : Expr) (rest : List Expr) → shown (e.Or (a ∷ b ∷ rest)) ≡ form 7 (at 6 (shown a) ++ print_all (λ x. codes " OR " ++ at 6 (shown x)) (b ∷ rest))
or_shown a b rest = shown_or (a ∷ b ∷ rest) ∙ ap (λ l. form 7 (at 6 (shown a) ++ l)) (joined_rest (codes " OR ") (at 6) shown (b ∷ rest))

pub owned-prod : (d : ℕ) → Owned d 1 → Owned d 2
unfolding prod
owned-prod d below =
    own-chain prod_node d 1 (prod_part (room_of d) (inner_of d)) (λ f. prod_part (room_of f) (inner_of f)) prod_part_text starts_prod below (prod_part_again d below)
    (λ a. refl) prod_shown refl refl (λ f n p ts w. w)

pub owned-sum : (d : ℕ) → Owned d 2 → Owned d 3
unfolding sum
owned-sum d below =
    own-chain sum_node d 2 (sum_part (room_of d) (inner_of d)) (λ f. sum_part (room_of f) (inner_of f)) sum_part_text starts_sum below (sum_part_again d below)
    (λ a. refl) sum_shown refl refl (λ f n p ts w. w)

pub owned-conjunction : (d : ℕ) → Owned d 5 → Owned d 6
unfolding conjunction
owned-conjunction d below =
    own-chain and_node d 5 (past (of k.And) (rule_at 5 d)) (λ f. past (of k.And) (rule_at 5 f)) (λ x. codes " AND " ++ at 5 (shown x)) starts_and below
    (again-past (of k.And) (rule_at 5 d) (rule_at 5) d (codes " AND ") (λ x. at 5 (shown x)) and_word (again-own d 5 below))
    (λ a. refl) and_shown refl refl (λ f n p ts w. w)

pub owned-disjunction : (d : ℕ) → Owned d 6 → Owned d 7
unfolding disjunction
owned-disjunction d below =
    own-chain or_node d 6 (past (of k.Or) (rule_at 6 d)) (λ f. past (of k.Or) (rule_at 6 f)) (λ x. codes " OR " ++ at 6 (shown x)) starts_or below
    (again-past (of k.Or) (rule_at 6 d) (rule_at 6) d (codes " OR ") (λ x. at 6 (shown x)) or_word (again-own d 6 below))
    (λ a. refl) or_shown refl refl (λ f n p ts w. w)
