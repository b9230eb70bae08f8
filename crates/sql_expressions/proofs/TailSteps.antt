-- The tails of a condition, and what follows a part of one, as the parser reads them.
use Rattle.std.proofs.Common.{◌≡◌, ℕ, Bool, true, false, List, [], ◌∷◌, drop, Some, None, Option, refl, sym, ap, ◌∙◌}
use Rattle.sql_tokens.specs.declared.class.Class.TheVariants as k
use Rattle.sql_tokens.specs.Cutting.{Symbol, first_class}
use Rattle.sql_tokens.proofs.ClassLaws.{same_is}
use Rattle.sql_grammar.specs.declared.tree.Expr.{Expr}
use Rattle.sql_grammar.specs.declared.tree.Expr.TheVariants as e
use Rattle.grammar_rules.specs.Readers.{Outcome, found, failed, read_made, chosen, starts}
use Rattle.grammar_rules.specs.CountedReaders.{read_given, read_list_of}
use Rattle.sql_grammar.specs.Marks.{Fault, class, of}
use Rattle.sql_grammar.specs.Expressions.{Room, Tail, among, pred_node, over_class}
use Rattle.sql_grammar.specs.Readers.{Reader, begins, is_compare_op, begins_negatable, begins_tail, read_sum, read_comparison, read_between, read_members, read_in, read_like, read_negatable, read_is, read_tail, read_pred, read_substring_commas, read_substring_words, read_substring_rest}
use Rattle.sql_expressions.specs.Parsing.{tailed, read_in_told, read_in_brackets}
use Rattle.sql_leaves.proofs.CountedSteps.{first_begins}
use Rattle.sql_expressions.proofs.PrimarySteps.{enclosed_is}

made_made : {A B C : Type 0} (f : B → C) (g : A → B) (o : Outcome Symbol Fault A) → read_made f (read_made g o) ≡ read_made (λ x. f (g x)) o
made_made f g (found a left) = refl
made_made f g (failed j left) = refl

-- NOT begins no comparison
not_negatable : (ts : List Symbol) → starts (of k.Not) ts ≡ true → starts (begins begins_negatable) ts ≡ true
not_negatable [] h = h
not_negatable (s ∷ ts) h = let q : k.Not ≡ class s = same_is k.Not (class s) h in rw (← q) refl

module _ (room : Room) (inner : Reader Expr) where
  pub in_is : (negated : Bool) (n : ℕ) (ts : List Symbol) → read_in room inner negated n ts ≡ read_in_told room inner negated n ts
  unfolding read_in read_members read_in_told
  in_is negated n ts = by_test (starts (of k.In) ts)
    where
      by_test : (b : Bool) → chosen b (read_given (among negated) (read_members room inner) n (drop 1 ts)) (failed None ts) ≡ chosen b (read_made {B = Tail × ℕ} (λ p. (among negated p.0, p.1)) (read_in_brackets room.here (read_list_of 1000 (λ s. over_class room.deeper (class s)) (of k.Comma) inner) n (drop 1 ts))) (failed None ts)
      by_test true = ap (read_made (λ p. (among negated p.0, p.1))) (enclosed_is room.here (read_list_of 1000 (λ s. over_class room.deeper (class s)) (of k.Comma) inner) n (drop 1 ts))
      by_test false = refl

  module _ (a : Expr) (n : ℕ) (ts : List Symbol) where
    pub tail_compared : is_compare_op (first_class ts) ≡ true → tailed a (read_tail room inner) n ts ≡ tailed a (read_comparison room inner) n ts
    unfolding read_tail
    tail_compared h = rw (sym (first_begins is_compare_op refl ts) ∙ h) refl

    pub tail_not : is_compare_op (first_class ts) ≡ false → starts (of k.Not) ts ≡ true → (left : List Symbol) → left ≡ drop 1 ts → tailed a (read_tail room inner) n ts ≡ tailed a (read_negatable room inner true) n left
    unfolding read_tail
    tail_not h g left l = rw (l, sym (first_begins is_compare_op refl ts) ∙ h, not_negatable ts g, g) refl

    pub tail_negatable : is_compare_op (first_class ts) ≡ false → starts (of k.Not) ts ≡ false → begins_negatable (first_class ts) ≡ true → tailed a (read_tail room inner) n ts ≡ tailed a (read_negatable room inner false) n ts
    unfolding read_tail
    tail_negatable h g f = rw (sym (first_begins is_compare_op refl ts) ∙ h, sym (first_begins begins_negatable refl ts) ∙ f, g) refl

    pub tail_is : is_compare_op (first_class ts) ≡ false → begins_negatable (first_class ts) ≡ false → tailed a (read_tail room inner) n ts ≡ tailed a (read_is room inner) n ts
    unfolding read_tail
    tail_is h f = rw (sym (first_begins is_compare_op refl ts) ∙ h, sym (first_begins begins_negatable refl ts) ∙ f) refl

    pub negatable_between : (negated : Bool) → starts (of k.Between) ts ≡ true → tailed a (read_negatable room inner negated) n ts ≡ tailed a (read_between room inner negated) n ts
    unfolding read_negatable
    negatable_between negated h = rw h refl

    pub negatable_in : (negated : Bool) → starts (of k.Between) ts ≡ false → starts (of k.In) ts ≡ true → tailed a (read_negatable room inner negated) n ts ≡ tailed a (read_in_told room inner negated) n ts
    unfolding read_negatable
    negatable_in negated g h = rw (g, h) (ap (read_made (λ p. (pred_node a (Some p.0), p.1))) (in_is negated n ts))

    pub negatable_like : (negated : Bool) → starts (of k.Between) ts ≡ false → starts (of k.In) ts ≡ false → tailed a (read_negatable room inner negated) n ts ≡ tailed a (read_like room inner negated) n ts
    unfolding read_negatable
    negatable_like negated g h = rw (g, h) refl

  pub pred_tail : (n : ℕ) (ts : List Symbol) (a : Expr) (m : ℕ) (left : List Symbol) → read_sum room inner n ts ≡ found (a, m) left → begins_tail (first_class left) ≡ true → read_pred room inner n ts ≡ tailed a (read_tail room inner) m left
  unfolding read_pred
  pred_tail n ts a m left h g = rw (h, sym (first_begins begins_tail refl left) ∙ g) (thrice (read_tail room inner m left))
    where
      thrice : (o : Outcome Symbol Fault (Tail × ℕ)) → read_made {B = Expr × ℕ} (λ p. (pred_node p.0.0 p.0.1, p.1)) (read_made {B = (Expr × Option Tail) × ℕ} (λ q. ((a, q.0), q.1)) (read_made {B = Option Tail × ℕ} (λ p. (Some p.0, p.1)) o)) ≡ read_made (λ p. (pred_node a (Some p.0), p.1)) o
      thrice (found p rest) = refl
      thrice (failed j rest) = refl

  module _ (n : ℕ) (ts : List Symbol) (a : Expr) (m : ℕ) (left : List Symbol) (h : inner n ts ≡ found (a, m) left) where
    twice : (o : Outcome Symbol Fault ((Expr × Option Expr) × ℕ)) → read_made {B = Expr × ℕ} (λ p. (e.Substring p.0.0 p.0.1.0 p.0.1.1, p.1)) (read_made {B = (Expr × (Expr × Option Expr)) × ℕ} (λ q. ((a, q.0), q.1)) o) ≡ read_made (λ p. (e.Substring a p.0.0 p.0.1, p.1)) o
    twice (found p rest) = refl
    twice (failed j rest) = refl

    pub substring_by_commas : starts (of k.Comma) left ≡ true → read_substring_rest room inner n ts ≡ read_given (λ p. e.Substring a p.0 p.1) (read_substring_commas room inner) m left
    unfolding read_substring_rest
    substring_by_commas g = rw (h, g) (twice (read_substring_commas room inner m left))

    pub substring_by_words : starts (of k.Comma) left ≡ false → read_substring_rest room inner n ts ≡ read_given (λ p. e.Substring a p.0 p.1) (read_substring_words room inner) m left
    unfolding read_substring_rest
    substring_by_words g = rw (h, g) (twice (read_substring_words room inner m left))
