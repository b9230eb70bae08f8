-- The loops over the parts of products, sums, ANDs and ORs, as equations of their readers.
use Rattle.std.proofs.Common.{◌≡◌, ℕ, true, false, List, [], ◌∷◌, ◌++◌, ◌<◌, length, Option, refl}
use Rattle.sql_tokens.specs.Cutting.{Symbol}
use Rattle.sql_tokens.specs.declared.class.Class.TheVariants as k
use Rattle.sql_tokens.specs.Classes.{same_class}
use Rattle.sql_grammar.specs.declared.tree.Expr.{Expr}
use Rattle.sql_grammar.specs.declared.tree.SumPart.{SumPart}
use Rattle.sql_grammar.specs.declared.tree.ProdPart.{ProdPart}
use Rattle.grammar_rules.specs.Readers.{Outcome, found, failed, starts}
use Rattle.grammar_rules.specs.Counted.{past}
use Rattle.grammar_rules.specs.CountedReaders.{read_counted_past, read_links}
use Rattle.grammar_rules.proofs.Reading.{past_sight}
use Rattle.grammar_rules.proofs.CountedMany.{CountedShrinks, counted_shrinks, chain_begin, chain_fail, links_step, links_stop, links_fail}
use Rattle.sql_grammar.specs.Marks.{Fault, of}
use Rattle.sql_grammar.specs.Expressions.{room_of, prod_node, sum_node, and_node, or_node, prod_part, sum_part, negation, conjunction}
use Rattle.sql_grammar.specs.Readers.{begins, is_step, is_prod_op, is_sum_op, read_unary, read_prod_part, read_prod, read_sum_part, read_sum, read_negation, read_conjunction, read_disjunction}
use Rattle.sql_grammar.proofs.Combining.{on, is, seen, behind}
use Rattle.sql_grammar.proofs.Sights.{and_sight, not_sight, prod_more}
use Rattle.sql_grammar.proofs.ExpressionReads.{reads-prod_part, reads-sum_part, reads-negation, reads-conjunction}
use Rattle.sql_leaves.specs.Parsing.{read_inside}
use Rattle.sql_expressions.proofs.InsideSteps.{inside_rule, reads_inside}

-- ---- products

module _ (depth : ℕ) where
  pub prod_left : Expr → List ProdPart → ℕ → List Symbol → Outcome Symbol Fault (Expr × ℕ)
  prod_left first so_far n ts = read_links (prod_node first) (begins is_prod_op) (read_prod_part (room_of depth) (read_inside depth)) so_far n ts

  prod_less : CountedShrinks (read_prod_part (room_of depth) (read_inside depth))
  unfolding same_class
  prod_less = counted_shrinks (prod_part (room_of depth) (inside_rule depth)) (on (seen is_prod_op is_step)) (read_prod_part (room_of depth) (read_inside depth)) (reads-prod_part (room_of depth) (inside_rule depth) (read_inside depth) (reads_inside depth)) refl

  pub prod_from : (n : ℕ) (ts : List Symbol) (a : Expr) (m : ℕ) (left : List Symbol) → (read_unary (room_of depth) (read_inside depth)) n ts ≡ found (a, m) left → read_prod (room_of depth) (read_inside depth) n ts ≡ read_links (prod_node a) (begins is_prod_op) (read_prod_part (room_of depth) (read_inside depth)) [] m left
  unfolding read_prod
  prod_from n ts a m left h = chain_begin prod_node (begins is_prod_op) (read_unary (room_of depth) (read_inside depth)) (read_prod_part (room_of depth) (read_inside depth)) n ts a m left h

  pub prod_start : (first : Expr) (rest : List ProdPart) (n : ℕ) (ts : List Symbol) → rest ≡ [] → read_links (prod_node first) (begins is_prod_op) (read_prod_part (room_of depth) (read_inside depth)) [] n ts ≡ prod_left first rest n ts
  unfolding prod_left
  prod_start first rest n ts e = rw e refl

  pub prod_none : (n : ℕ) (ts : List Symbol) (j : Option Fault) (left : List Symbol) → (read_unary (room_of depth) (read_inside depth)) n ts ≡ failed j left → read_prod (room_of depth) (read_inside depth) n ts ≡ failed j left
  unfolding read_prod
  prod_none n ts j left h = chain_fail prod_node (begins is_prod_op) (read_unary (room_of depth) (read_inside depth)) (read_prod_part (room_of depth) (read_inside depth)) n ts j left h

  pub prod_shorter : (n : ℕ) (ts : List Symbol) (b : ProdPart) (m : ℕ) (left : List Symbol) → (read_prod_part (room_of depth) (read_inside depth)) n ts ≡ found (b, m) left → length left < length ts
  prod_shorter n ts b m left h = prod_less n ts (b, m) left h

  module _ (first : Expr) (so_far : List ProdPart) (n : ℕ) (ts : List Symbol) where
    pub prod_on : (b : ProdPart) (m : ℕ) (left : List Symbol) → starts (begins is_prod_op) ts ≡ true → (read_prod_part (room_of depth) (read_inside depth)) n ts ≡ found (b, m) left → prod_left first so_far n ts ≡ prod_left first (so_far ++ b ∷ []) m left
    unfolding prod_left
    prod_on b m left e h = links_step (prod_node first) (begins is_prod_op) (read_prod_part (room_of depth) (read_inside depth)) prod_less so_far n ts b m left e h

    pub prod_stop : starts (begins is_prod_op) ts ≡ false → prod_left first so_far n ts ≡ found (prod_node first so_far, n) ts
    unfolding prod_left
    prod_stop e = links_stop (prod_node first) (begins is_prod_op) (read_prod_part (room_of depth) (read_inside depth)) prod_less so_far n ts e

    pub prod_fail : (j : Option Fault) (left : List Symbol) → starts (begins is_prod_op) ts ≡ true → (read_prod_part (room_of depth) (read_inside depth)) n ts ≡ failed j left → prod_left first so_far n ts ≡ failed j left
    unfolding prod_left
    prod_fail j left e h = links_fail (prod_node first) (begins is_prod_op) (read_prod_part (room_of depth) (read_inside depth)) prod_less so_far n ts j left e h

-- ---- sums

module _ (depth : ℕ) where
  pub sum_left : Expr → List SumPart → ℕ → List Symbol → Outcome Symbol Fault (Expr × ℕ)
  sum_left first so_far n ts = read_links (sum_node first) (begins is_sum_op) (read_sum_part (room_of depth) (read_inside depth)) so_far n ts

  sum_less : CountedShrinks (read_sum_part (room_of depth) (read_inside depth))
  unfolding same_class
  sum_less = counted_shrinks (sum_part (room_of depth) (inside_rule depth)) (on (seen is_sum_op prod_more)) (read_sum_part (room_of depth) (read_inside depth)) (reads-sum_part (room_of depth) (inside_rule depth) (read_inside depth) (reads_inside depth)) refl

  pub sum_from : (n : ℕ) (ts : List Symbol) (a : Expr) (m : ℕ) (left : List Symbol) → (read_prod (room_of depth) (read_inside depth)) n ts ≡ found (a, m) left → read_sum (room_of depth) (read_inside depth) n ts ≡ read_links (sum_node a) (begins is_sum_op) (read_sum_part (room_of depth) (read_inside depth)) [] m left
  unfolding read_sum
  sum_from n ts a m left h = chain_begin sum_node (begins is_sum_op) (read_prod (room_of depth) (read_inside depth)) (read_sum_part (room_of depth) (read_inside depth)) n ts a m left h

  pub sum_start : (first : Expr) (rest : List SumPart) (n : ℕ) (ts : List Symbol) → rest ≡ [] → read_links (sum_node first) (begins is_sum_op) (read_sum_part (room_of depth) (read_inside depth)) [] n ts ≡ sum_left first rest n ts
  unfolding sum_left
  sum_start first rest n ts e = rw e refl

  pub sum_none : (n : ℕ) (ts : List Symbol) (j : Option Fault) (left : List Symbol) → (read_prod (room_of depth) (read_inside depth)) n ts ≡ failed j left → read_sum (room_of depth) (read_inside depth) n ts ≡ failed j left
  unfolding read_sum
  sum_none n ts j left h = chain_fail sum_node (begins is_sum_op) (read_prod (room_of depth) (read_inside depth)) (read_sum_part (room_of depth) (read_inside depth)) n ts j left h

  pub sum_shorter : (n : ℕ) (ts : List Symbol) (b : SumPart) (m : ℕ) (left : List Symbol) → (read_sum_part (room_of depth) (read_inside depth)) n ts ≡ found (b, m) left → length left < length ts
  sum_shorter n ts b m left h = sum_less n ts (b, m) left h

  module _ (first : Expr) (so_far : List SumPart) (n : ℕ) (ts : List Symbol) where
    pub sum_on : (b : SumPart) (m : ℕ) (left : List Symbol) → starts (begins is_sum_op) ts ≡ true → (read_sum_part (room_of depth) (read_inside depth)) n ts ≡ found (b, m) left → sum_left first so_far n ts ≡ sum_left first (so_far ++ b ∷ []) m left
    unfolding sum_left
    sum_on b m left e h = links_step (sum_node first) (begins is_sum_op) (read_sum_part (room_of depth) (read_inside depth)) sum_less so_far n ts b m left e h

    pub sum_stop : starts (begins is_sum_op) ts ≡ false → sum_left first so_far n ts ≡ found (sum_node first so_far, n) ts
    unfolding sum_left
    sum_stop e = links_stop (sum_node first) (begins is_sum_op) (read_sum_part (room_of depth) (read_inside depth)) sum_less so_far n ts e

    pub sum_fail : (j : Option Fault) (left : List Symbol) → starts (begins is_sum_op) ts ≡ true → (read_sum_part (room_of depth) (read_inside depth)) n ts ≡ failed j left → sum_left first so_far n ts ≡ failed j left
    unfolding sum_left
    sum_fail j left e h = links_fail (sum_node first) (begins is_sum_op) (read_sum_part (room_of depth) (read_inside depth)) sum_less so_far n ts j left e h

-- ---- conjunctions

module _ (depth : ℕ) where
  pub conjunction_left : Expr → List Expr → ℕ → List Symbol → Outcome Symbol Fault (Expr × ℕ)
  conjunction_left first so_far n ts = read_links (and_node first) (of k.And) (read_counted_past (of k.And) (read_negation (room_of depth) (read_inside depth))) so_far n ts

  conjunction_less : CountedShrinks (read_counted_past (of k.And) (read_negation (room_of depth) (read_inside depth)))
  unfolding same_class
  conjunction_less = counted_shrinks (past (of k.And) (negation (room_of depth) (inside_rule depth))) (on (past_sight (is k.And) not_sight)) (read_counted_past (of k.And) (read_negation (room_of depth) (read_inside depth))) (behind (is k.And) (negation (room_of depth) (inside_rule depth)) not_sight (read_negation (room_of depth) (read_inside depth)) (reads-negation (room_of depth) (inside_rule depth) (read_inside depth) (reads_inside depth))) refl

  pub conjunction_from : (n : ℕ) (ts : List Symbol) (a : Expr) (m : ℕ) (left : List Symbol) → (read_negation (room_of depth) (read_inside depth)) n ts ≡ found (a, m) left → read_conjunction (room_of depth) (read_inside depth) n ts ≡ read_links (and_node a) (of k.And) (read_counted_past (of k.And) (read_negation (room_of depth) (read_inside depth))) [] m left
  unfolding read_conjunction
  conjunction_from n ts a m left h = chain_begin and_node (of k.And) (read_negation (room_of depth) (read_inside depth)) (read_counted_past (of k.And) (read_negation (room_of depth) (read_inside depth))) n ts a m left h

  pub conjunction_start : (first : Expr) (rest : List Expr) (n : ℕ) (ts : List Symbol) → rest ≡ [] → read_links (and_node first) (of k.And) (read_counted_past (of k.And) (read_negation (room_of depth) (read_inside depth))) [] n ts ≡ conjunction_left first rest n ts
  unfolding conjunction_left
  conjunction_start first rest n ts e = rw e refl

  pub conjunction_none : (n : ℕ) (ts : List Symbol) (j : Option Fault) (left : List Symbol) → (read_negation (room_of depth) (read_inside depth)) n ts ≡ failed j left → read_conjunction (room_of depth) (read_inside depth) n ts ≡ failed j left
  unfolding read_conjunction
  conjunction_none n ts j left h = chain_fail and_node (of k.And) (read_negation (room_of depth) (read_inside depth)) (read_counted_past (of k.And) (read_negation (room_of depth) (read_inside depth))) n ts j left h

  pub conjunction_shorter : (n : ℕ) (ts : List Symbol) (b : Expr) (m : ℕ) (left : List Symbol) → (read_counted_past (of k.And) (read_negation (room_of depth) (read_inside depth))) n ts ≡ found (b, m) left → length left < length ts
  conjunction_shorter n ts b m left h = conjunction_less n ts (b, m) left h

  module _ (first : Expr) (so_far : List Expr) (n : ℕ) (ts : List Symbol) where
    pub conjunction_on : (b : Expr) (m : ℕ) (left : List Symbol) → starts (of k.And) ts ≡ true → (read_counted_past (of k.And) (read_negation (room_of depth) (read_inside depth))) n ts ≡ found (b, m) left → conjunction_left first so_far n ts ≡ conjunction_left first (so_far ++ b ∷ []) m left
    unfolding conjunction_left
    conjunction_on b m left e h = links_step (and_node first) (of k.And) (read_counted_past (of k.And) (read_negation (room_of depth) (read_inside depth))) conjunction_less so_far n ts b m left e h

    pub conjunction_stop : starts (of k.And) ts ≡ false → conjunction_left first so_far n ts ≡ found (and_node first so_far, n) ts
    unfolding conjunction_left
    conjunction_stop e = links_stop (and_node first) (of k.And) (read_counted_past (of k.And) (read_negation (room_of depth) (read_inside depth))) conjunction_less so_far n ts e

    pub conjunction_fail : (j : Option Fault) (left : List Symbol) → starts (of k.And) ts ≡ true → (read_counted_past (of k.And) (read_negation (room_of depth) (read_inside depth))) n ts ≡ failed j left → conjunction_left first so_far n ts ≡ failed j left
    unfolding conjunction_left
    conjunction_fail j left e h = links_fail (and_node first) (of k.And) (read_counted_past (of k.And) (read_negation (room_of depth) (read_inside depth))) conjunction_less so_far n ts j left e h

-- ---- disjunctions

module _ (depth : ℕ) where
  pub disjunction_left : Expr → List Expr → ℕ → List Symbol → Outcome Symbol Fault (Expr × ℕ)
  disjunction_left first so_far n ts = read_links (or_node first) (of k.Or) (read_counted_past (of k.Or) (read_conjunction (room_of depth) (read_inside depth))) so_far n ts

  disjunction_less : CountedShrinks (read_counted_past (of k.Or) (read_conjunction (room_of depth) (read_inside depth)))
  unfolding same_class
  disjunction_less = counted_shrinks (past (of k.Or) (conjunction (room_of depth) (inside_rule depth))) (on (past_sight (is k.Or) and_sight)) (read_counted_past (of k.Or) (read_conjunction (room_of depth) (read_inside depth))) (behind (is k.Or) (conjunction (room_of depth) (inside_rule depth)) and_sight (read_conjunction (room_of depth) (read_inside depth)) (reads-conjunction (room_of depth) (inside_rule depth) (read_inside depth) (reads_inside depth))) refl

  pub disjunction_from : (n : ℕ) (ts : List Symbol) (a : Expr) (m : ℕ) (left : List Symbol) → (read_conjunction (room_of depth) (read_inside depth)) n ts ≡ found (a, m) left → read_disjunction (room_of depth) (read_inside depth) n ts ≡ read_links (or_node a) (of k.Or) (read_counted_past (of k.Or) (read_conjunction (room_of depth) (read_inside depth))) [] m left
  unfolding read_disjunction
  disjunction_from n ts a m left h = chain_begin or_node (of k.Or) (read_conjunction (room_of depth) (read_inside depth)) (read_counted_past (of k.Or) (read_conjunction (room_of depth) (read_inside depth))) n ts a m left h

  pub disjunction_start : (first : Expr) (rest : List Expr) (n : ℕ) (ts : List Symbol) → rest ≡ [] → read_links (or_node first) (of k.Or) (read_counted_past (of k.Or) (read_conjunction (room_of depth) (read_inside depth))) [] n ts ≡ disjunction_left first rest n ts
  unfolding disjunction_left
  disjunction_start first rest n ts e = rw e refl

  pub disjunction_none : (n : ℕ) (ts : List Symbol) (j : Option Fault) (left : List Symbol) → (read_conjunction (room_of depth) (read_inside depth)) n ts ≡ failed j left → read_disjunction (room_of depth) (read_inside depth) n ts ≡ failed j left
  unfolding read_disjunction
  disjunction_none n ts j left h = chain_fail or_node (of k.Or) (read_conjunction (room_of depth) (read_inside depth)) (read_counted_past (of k.Or) (read_conjunction (room_of depth) (read_inside depth))) n ts j left h

  pub disjunction_shorter : (n : ℕ) (ts : List Symbol) (b : Expr) (m : ℕ) (left : List Symbol) → (read_counted_past (of k.Or) (read_conjunction (room_of depth) (read_inside depth))) n ts ≡ found (b, m) left → length left < length ts
  disjunction_shorter n ts b m left h = disjunction_less n ts (b, m) left h

  module _ (first : Expr) (so_far : List Expr) (n : ℕ) (ts : List Symbol) where
    pub disjunction_on : (b : Expr) (m : ℕ) (left : List Symbol) → starts (of k.Or) ts ≡ true → (read_counted_past (of k.Or) (read_conjunction (room_of depth) (read_inside depth))) n ts ≡ found (b, m) left → disjunction_left first so_far n ts ≡ disjunction_left first (so_far ++ b ∷ []) m left
    unfolding disjunction_left
    disjunction_on b m left e h = links_step (or_node first) (of k.Or) (read_counted_past (of k.Or) (read_conjunction (room_of depth) (read_inside depth))) disjunction_less so_far n ts b m left e h

    pub disjunction_stop : starts (of k.Or) ts ≡ false → disjunction_left first so_far n ts ≡ found (or_node first so_far, n) ts
    unfolding disjunction_left
    disjunction_stop e = links_stop (or_node first) (of k.Or) (read_counted_past (of k.Or) (read_conjunction (room_of depth) (read_inside depth))) disjunction_less so_far n ts e

    pub disjunction_fail : (j : Option Fault) (left : List Symbol) → starts (of k.Or) ts ≡ true → (read_counted_past (of k.Or) (read_conjunction (room_of depth) (read_inside depth))) n ts ≡ failed j left → disjunction_left first so_far n ts ≡ failed j left
    unfolding disjunction_left
    disjunction_fail j left e h = links_fail (or_node first) (of k.Or) (read_counted_past (of k.Or) (read_conjunction (room_of depth) (read_inside depth))) disjunction_less so_far n ts j left e h
