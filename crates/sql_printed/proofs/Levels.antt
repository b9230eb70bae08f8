-- An expression in the place of each rule: a tighter form as it stands, a looser one in parentheses.
use Rattle.std.proofs.Common.{◌≡◌, ℕ, zero, suc, ◌+◌, ◌-◌, ◌≤◌, nat_le, Bool, true, false, List, [], ◌∷◌, ◌++◌, None, refl, sym, ap, ◌∙◌, subst, arith, append_assoc, if◌then◌else◌, codes}
use Rattle.std.proofs.lemmas.Bool.{leb-true, leb-false, lt-ltb}
use Rattle.std.proofs.lemmas.Bool.Decides.{nat_tests}
use Rattle.std.proofs.lemmas.List.{append-nil}
use Rattle.sql_tokens.specs.declared.class.Class.{Class}
use Rattle.sql_tokens.specs.declared.class.Class.TheVariants as k
use Rattle.sql_tokens.specs.Cutting.{Symbol, cut, is_unfit}
use Rattle.grammar_rules.specs.Rules.{Rule, takes, fault, sequence}
use Rattle.grammar_rules.specs.Counted.{plain, one_more, both, past, before, chain}
use Rattle.grammar_rules.proofs.Printing.{spelled-chain, spelled-one_more, spelled-many_from_nil}
use Rattle.sql_grammar.specs.declared.tree.Expr.{Expr}
use Rattle.sql_grammar.specs.Marks.{Fault, too_many, too_deep, class, of, begins_expression, group_form}
use Rattle.sql_grammar.specs.Expressions.{Counting, room_of, opening, flag, prod_node, sum_node, and_node, or_node, group, primary, unary, prod_part, prod, sum_part, sum, pred, negation, conjunction, disjunction, expression}
use Rattle.sql_printed.specs.Shown.{shown, at, enclosed_text}
use Rattle.sql_printed.proofs.Telling.{is_clear, Starts, Cuts, Prints, Told, cuts-into, cuts-before, fit-one}
use Rattle.sql_printed.proofs.Words.{left, right}

-- the expressions between brackets
abbrev pub inner_of : ℕ → Counting Expr
inner_of zero = plain (fault too_deep (λ s. begins_expression (class s)))
inner_of (suc depth) = expression depth

-- the rule of this height
abbrev pub rule_at : ℕ → ℕ → Counting Expr
rule_at zero d = primary (room_of d) (inner_of d)
rule_at (suc zero) d = unary (room_of d) (inner_of d)
rule_at (suc (suc zero)) d = prod (room_of d) (inner_of d)
rule_at (suc (suc (suc zero))) d = sum (room_of d) (inner_of d)
rule_at (suc (suc (suc (suc zero)))) d = pred (room_of d) (inner_of d)
rule_at (suc (suc (suc (suc (suc zero))))) d = negation (room_of d) (inner_of d)
rule_at (suc (suc (suc (suc (suc (suc zero)))))) d = conjunction (room_of d) (inner_of d)
rule_at (suc (suc (suc (suc (suc (suc (suc h))))))) d = disjunction (room_of d) (inner_of d)

unflagged : {A : Type 0} (c : Class) (G : Counting A) (n : ℕ) (p : A × ℕ) (ts : List Symbol) → (G n).Spells p ts → (both (flag c) G n).Spells ((false, p.0), p.1) ts
unflagged c G n p ts w = record { value = (false, n); left = []; right = ts; joined = refl; whole = (false, (refl, refl)); after = (p, refl, w) }

alone : {A B : Type 0} (node : A → List B → A) (G : Counting A) (H : Counting B) (n : ℕ) (p : A × ℕ) (ts : List Symbol) → (node p.0 [] ≡ p.0) → (G n).Spells p ts → (chain node G H n).Spells p ts
alone node G H n p ts e w =
    let s = spelled-chain node G H n p.1 p.1 p.0 [] ts [] w (spelled-many_from_nil H p.1) in
    subst (λ l. (chain node G H n).Spells p l) (append-nil ts) (subst (λ a. (chain node G H n).Spells (a, p.1) (ts ++ [])) e s)

pub lift : (h d n : ℕ) (p : Expr × ℕ) (ts : List Symbol) → (rule_at h d n).Spells p ts → (rule_at (suc h) d n).Spells p ts
unfolding unary prod sum pred negation conjunction disjunction
lift zero d n p ts w = (((false, p.0), p.1), refl, unflagged k.Minus (primary (room_of d) (inner_of d)) n p ts w)
lift (suc zero) d n p ts w = alone prod_node (unary (room_of d) (inner_of d)) (prod_part (room_of d) (inner_of d)) n p ts refl w
lift (suc (suc zero)) d n p ts w = alone sum_node (prod (room_of d) (inner_of d)) (sum_part (room_of d) (inner_of d)) n p ts refl w
lift (suc (suc (suc zero))) d n p ts w =
    (((p.0, None), p.1), refl, record { value = p; left = ts; right = []; joined = sym (append-nil ts); whole = w; after = ((None, p.1), refl, (false, (refl, refl))) })
lift (suc (suc (suc (suc zero)))) d n p ts w = (((false, p.0), p.1), refl, unflagged k.Not (pred (room_of d) (inner_of d)) n p ts w)
lift (suc (suc (suc (suc (suc zero))))) d n p ts w = alone and_node (negation (room_of d) (inner_of d)) (past (of k.And) (negation (room_of d) (inner_of d))) n p ts refl w
lift (suc (suc (suc (suc (suc (suc zero)))))) d n p ts w = alone or_node (conjunction (room_of d) (inner_of d)) (past (of k.Or) (conjunction (room_of d) (inner_of d))) n p ts refl w
lift (suc (suc (suc (suc (suc (suc (suc h))))))) d n p ts w = w

pub lifts : (h t d n : ℕ) (p : Expr × ℕ) (ts : List Symbol) → h ≤ t → (rule_at h d n).Spells p ts → (rule_at t d n).Spells p ts
lifts h zero d n p ts l w = let z : h ≡ 0 = omega arith in subst (λ x. (rule_at x d n).Spells p ts) z w
lifts h (suc t) d n p ts l w =
    let P : Bool → Type 0 = λ v. nat_le h t ≡ v → (rule_at (suc t) d n).Spells p ts in
    (elim (nat_le h t) as P [
      | true ↦ λ e. lift t d n p ts (lifts h t d n p ts (leb-true h t e) w)
      | false ↦ λ e. let m = leb-false h t e in let z : h ≡ suc t = omega arith in subst (λ x. (rule_at x d n).Spells p ts) z w
    ]) refl

pub to_expression : (d n : ℕ) (p : Expr × ℕ) (ts : List Symbol) → (rule_at 7 d n).Spells p ts → (expression d n).Spells p ts
unfolding expression
to_expression zero n p ts w = w
to_expression (suc d) n p ts w = w

pub from_expression : (d n : ℕ) (p : Expr × ℕ) (ts : List Symbol) → (expression d n).Spells p ts → (rule_at 7 d n).Spells p ts
unfolding expression
from_expression zero n p ts w = w
from_expression (suc d) n p ts w = w

-- ---- brackets

pub room_here : (d : ℕ) → (room_of (suc d)).here ≡ true
room_here d = lt-ltb 0 (suc d) (omega arith)

pub opened : (room : Bool) (c : Class) (s : Symbol) → room ≡ true → of c s ≡ true → opening room c s ≡ takes s
opened true c s r e = rw e refl
opened false c s r e = cc

-- behind one symbol
pub cuts-behind : {A B : Type 0} (G : Rule Symbol Fault A) (H : A → Rule Symbol Fault B) (a : A) (b : B) (front text rest : List ℕ) (at next : ℕ) (s : Symbol)
    → cut at (front ++ (text ++ rest)) ≡ s ∷ cut next (text ++ rest) → is_unfit s.token ≡ false → G.Spells a (s ∷ []) → Cuts (H a) b text rest next → Cuts (sequence G H) b (front ++ text) rest at
cuts-behind G H a b front text rest at next s is fit w c = record {
  symbols = s ∷ c.symbols;
  next = c.next;
  is = let e : (front ++ text) ++ rest ≡ front ++ (text ++ rest) = append_assoc front text rest in rw e (is ∙ ap (λ l. s ∷ l) c.is);
  spelled = record { value = a; left = s ∷ []; right = c.symbols; joined = refl; whole = w; after = c.spelled };
  fit = fit-one s c.symbols fit c.fit;
}

pub starts-right : Starts (codes ")")
unfolding is_clear
starts-right rest c = refl

-- in parentheses
grouped : (d n m : ℕ) (e : Expr) (text rest : List ℕ) (place : ℕ) → (let G = expression d in (p : ℕ) (r : List ℕ) → is_clear r ≡ true → Cuts (G n) (e, m) text r p) → is_clear rest ≡ true → Cuts (primary (room_of (suc d)) (inner_of (suc d)) (suc n)) (e, m) (enclosed_text text) rest place
unfolding primary
grouped d n m e text rest place prints c =
    let first = left place ((text ++ codes ")") ++ rest) in
    let body = prints first.next (codes ")" ++ rest) (starts-right rest c) in
    let close = right body.next rest in
    let inside = cuts-before (expression d n) (of k.RightParenthesis) (e, m) text (codes ")") rest first.next body close in
    let one = spelled-one_more too_many (opening (room_of (suc d)).here k.LeftParenthesis) first.symbol first.symbol (suc n) n refl (opened (room_of (suc d)).here k.LeftParenthesis first.symbol (room_here d) first.passes) in
    cuts-into (group (room_of (suc d)) (expression d) (suc n)) (primary (room_of (suc d)) (inner_of (suc d)) (suc n)) (e, m) (e, m) (enclosed_text text) rest place (λ ts w. (group_form, w))
    (cuts-behind (one_more too_many (opening (room_of (suc d)).here k.LeftParenthesis) (suc n)) (λ q. before (expression d) (of k.RightParenthesis) q.1) (first.symbol, n) (e, m) (codes "(") (text ++ codes ")") rest place first.next first.symbol first.is first.fit one inside)

-- ---- an expression that was spelled in the place of a rule of this height

abbrev pub extra : ℕ → Expr → ℕ
extra h e = if nat_le (shown e).height h then 0 else 1

-- without parentheses its own rule spells it, with the brackets and primaries that are left beside those around it
pub record Own (d n m h : ℕ) (e : Expr) : Type 0 where
  pub depth : ℕ
  pub used : ℕ
  pub low : nat_le (shown e).height 7 ≡ true
  pub deep : depth + extra h e ≤ d
  pub within : used + extra h e + m ≤ n
  pub prints : (f : ℕ) → depth ≤ f → (k : ℕ) → Prints (rule_at (shown e).height f (used + k)) (e, k) (shown e).text

-- ---- it is told in that place

pub own-at : (d n m h : ℕ) (e : Expr) → Own d n m h e → Told (rule_at h) d n m e (at h (shown e))
own-at d n m h e o =
    let P : Bool → Type 0 = λ v. nat_le (shown e).height h ≡ v → o.depth + (if v then 0 else 1) ≤ d → o.used + (if v then 0 else 1) + m ≤ n → Told (rule_at h) d n m e (if v then (shown e).text else enclosed_text (shown e).text) in
    (elim (nat_le (shown e).height h) as P [
      | true ↦ λ v deep within. record {
        used = o.used;
        within = omega arith;
        prints = λ f below k place rest c.
            cuts-into (rule_at (shown e).height f (o.used + k)) (rule_at h f (o.used + k)) (e, k) (e, k) (shown e).text rest place
            (λ ts w. lifts (shown e).height h f (o.used + k) (e, k) ts (leb-true (shown e).height h v) w) (o.prints f (omega arith) k place rest c);
      }
      | false ↦ λ v deep within. record {
        used = suc o.used;
        within = omega arith;
        prints = λ f below k place rest c.
            let z : suc (o.used + k) ≡ suc o.used + k = omega arith in
            let y : suc (f - 1) ≡ f = omega arith in
            let inner : (p : ℕ) (r : List ℕ) → is_clear r ≡ true → Cuts (expression (f - 1) (o.used + k)) (e, k) (shown e).text r p =
            λ p r cr. cuts-into (rule_at (shown e).height (f - 1) (o.used + k)) (expression (f - 1) (o.used + k)) (e, k) (e, k) (shown e).text r p
            (λ ts w. to_expression (f - 1) (o.used + k) (e, k) ts (lifts (shown e).height 7 (f - 1) (o.used + k) (e, k) ts (leb-true (shown e).height 7 o.low) w)) (o.prints (f - 1) (omega arith) k p r cr) in
            let whole = grouped (f - 1) (o.used + k) k e (shown e).text rest place inner c in
            let raised = cuts-into (rule_at 0 (suc (f - 1)) (suc (o.used + k))) (rule_at h (suc (f - 1)) (suc (o.used + k))) (e, k) (e, k) (enclosed_text (shown e).text) rest place
            (λ ts w. lifts 0 h (suc (f - 1)) (suc (o.used + k)) (e, k) ts (omega arith) w) whole in
            subst (λ x. Cuts (rule_at h x (suc o.used + k)) (e, k) (enclosed_text (shown e).text) rest place) y
            (subst (λ x. Cuts (rule_at h (suc (f - 1)) x) (e, k) (enclosed_text (shown e).text) rest place) z raised);
      }
    ]) refl o.deep o.within

extra_falls : (h x : ℕ) → (if nat_le x (suc h) then 0 else 1) ≤ (if nat_le x h then 0 else 1)
extra_falls h x = grind (arith, nat_tests)

-- in the place of the next rule
pub own-lift : (d n m h : ℕ) (e : Expr) → Own d n m h e → Own d n m (suc h) e
own-lift d n m h e o =
    let x = extra_falls h (shown e).height in
    record {
      depth = o.depth;
      used = o.used;
      low = o.low;
      deep = let a = o.deep in omega arith;
      within = let a = o.within in omega arith;
      prints = o.prints;
    }

extra_none : (h x : ℕ) → nat_le x h ≡ true → ◌≡◌ {A = ℕ} (if nat_le x h then 0 else 1) 0
extra_none h x e = rw e refl

-- a form of the rule itself
pub own-form : (d n m h : ℕ) (e : Expr) → (shown e).height ≡ h → nat_le h 7 ≡ true → nat_le h h ≡ true → Told (rule_at h) d n m e (shown e).text → Own d n m h e
own-form d n m h e is low self t =
    let x : extra h e ≡ 0 = extra_none h (shown e).height (subst (λ y. nat_le y h ≡ true) (sym is) self) in
    record {
      depth = d;
      used = t.used;
      low = subst (λ y. nat_le y 7 ≡ true) (sym is) low;
      deep = rw x (omega arith);
      within = let a = t.within in rw x (omega arith);
      prints = λ f below k. subst (λ y. Prints (rule_at y f (t.used + k)) (e, k) (shown e).text) (sym is) (t.prints f below k);
    }

-- between parentheses
extra_one : (x h : ℕ) → (if nat_le x h then 0 else 1) ≤ 1
extra_one x h = grind (arith, nat_tests)

pub own-group : (d n m : ℕ) (e : Expr) → Own d n m 7 e → Own (suc d) (suc n) m 0 e
own-group d n m e o =
    let x = extra_one (shown e).height 0 in
    record {
      depth = o.depth;
      used = o.used;
      low = o.low;
      deep = let a = o.deep in omega arith;
      within = let a = o.within in omega arith;
      prints = o.prints;
    }

-- between brackets that belong to a form
pub own-inside : (d n m : ℕ) (e : Expr) → Own d n m 7 e → Told inner_of (suc d) n m e (shown e).text
own-inside d n m e o =
    let x : extra 7 e ≡ 0 = extra_none 7 (shown e).height o.low in
    record {
      used = o.used;
      within = let a = o.within in omega arith;
      prints = λ f below k place rest c.
          let y : suc (f - 1) ≡ f = omega arith in
          let deep : o.depth ≤ f - 1 = let a = o.deep in omega arith in
          let inner = cuts-into (rule_at (shown e).height (f - 1) (o.used + k)) (expression (f - 1) (o.used + k)) (e, k) (e, k) (shown e).text rest place
          (λ ts w. to_expression (f - 1) (o.used + k) (e, k) ts (lifts (shown e).height 7 (f - 1) (o.used + k) (e, k) ts (leb-true (shown e).height 7 o.low) w)) (o.prints (f - 1) deep k place rest c) in
          subst (λ x. Cuts (inner_of x (o.used + k)) (e, k) (shown e).text rest place) y inner;
    }
