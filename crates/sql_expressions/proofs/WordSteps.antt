-- ELSE with END, and IS, as the parser reads them.
use Rattle.std.proofs.Common.{◌≡◌, ℕ, true, false, List, [], ◌∷◌, drop, Some, None, Option, refl}
use Rattle.sql_tokens.specs.declared.class.Class.TheVariants as k
use Rattle.sql_tokens.specs.Cutting.{Symbol}
use Rattle.sql_grammar.specs.declared.tree.Expr.{Expr}
use Rattle.grammar_rules.specs.Readers.{Outcome, found, failed, and_then, read_made, read_terminal, starts}
use Rattle.grammar_rules.specs.CountedReaders.{read_plain, read_maybe, read_counted_past}
use Rattle.sql_grammar.specs.Marks.{Fault, of, one_told}
use Rattle.sql_grammar.specs.Expressions.{Room, Tail, word, pred_node, is_what}
use Rattle.sql_grammar.specs.Readers.{Reader, read_is, read_otherwise}
use Rattle.sql_expressions.specs.Parsing.{tailed, read_what}
use Rattle.sql_leaves.proofs.WordSteps.{word_refused, word_made}

-- ---- ELSE and END

module _ (room : Room) (inner : Reader Expr) (n : ℕ) (ts : List Symbol) where
  pub otherwise_failed : (j : Option Fault) (left : List Symbol) → read_maybe (of k.Else) (read_counted_past (of k.Else) inner) n ts ≡ failed j left → read_otherwise room inner n ts ≡ failed j left
  unfolding read_otherwise
  otherwise_failed j left h = rw h refl

  module _ (v : Option Expr) (m : ℕ) (left : List Symbol) (h : read_maybe (of k.Else) (read_counted_past (of k.Else) inner) n ts ≡ found (v, m) left) where
    pub otherwise_open : starts (of k.End) left ≡ false → read_otherwise room inner n ts ≡ failed None left
    unfolding read_otherwise
    otherwise_open g = rw (h, word_refused k.End left g) refl

    pub otherwise_found : starts (of k.End) left ≡ true → read_otherwise room inner n ts ≡ found (v, m) (drop 1 left)
    unfolding read_otherwise
    otherwise_found g = rw h (word_made k.End (v, m) left g)

-- ---- IS

module _ (room : Room) (inner : Reader Expr) (a : Expr) (n : ℕ) (ts : List Symbol) where
  pub is_refused : starts (of k.Is) ts ≡ false → tailed a (read_is room inner) n ts ≡ failed None ts
  unfolding read_is
  is_refused h = rw h refl

  -- what is counted beside a value moves out
  moved : (o : Outcome Symbol Fault Tail) → read_made {B = Expr × ℕ} (λ p. (pred_node a (Some p.0), p.1)) (read_made {B = Tail × ℕ} (λ t. (t, n)) o) ≡ read_made {B = Expr × ℕ} (λ v. (v, n)) (read_made (λ t. pred_node a (Some t)) o)
  moved (found t left) = refl
  moved (failed j left) = refl

  pub is_plain : starts (of k.Is) ts ≡ true → (left : List Symbol) → left ≡ drop 1 ts → starts (of k.Not) left ≡ false → tailed a (read_is room inner) n ts ≡ read_made (λ v. (v, n)) (read_what a false left)
  unfolding read_is
  is_plain h left l g = rw (h, ← l, g) (moved (read_terminal (one_told (is_what false)) left))

  pub is_not : starts (of k.Is) ts ≡ true → (left rest : List Symbol) → left ≡ drop 1 ts → starts (of k.Not) left ≡ true → rest ≡ drop 1 left → tailed a (read_is room inner) n ts ≡ read_made (λ v. (v, n)) (read_what a true rest)
  unfolding read_is
  is_not h left rest l g r = rw (h, ← l, g, r) (behind_not left g)
    where
      behind_not : (us : List Symbol) → starts (of k.Not) us ≡ true → read_made {B = Expr × ℕ} (λ p. (pred_node a (Some p.0), p.1)) (and_then (read_made {B = Symbol × ℕ} (λ s. (s, n)) (read_terminal (word k.Not) us)) (λ p left. read_plain (read_terminal (one_told (is_what true))) p.1 left)) ≡ read_made (λ v. (v, n)) (read_what a true (drop 1 us))
      behind_not [] h = let p : false ≡ true = h in cc
      behind_not (s ∷ us) h = rw h (moved (read_terminal (one_told (is_what true)) us))
