-- The columns of a schema, by its elements.
use Rattle.std.proofs.Common.{◌≡◌, ◌≤◌, ◌<◌, ◌+◌, ◌-◌, ℕ, Bool, true, false, nat_eq, nat_lt, ◌&&◌, List, [], ◌∷◌, ◌++◌, length, refl, ap, sym, ◌∙◌, inl, inr, subst, arith, append_assoc, append-nil}
use Rattle.std.proofs.lemmas.Bool.{lt-ltb, le-ltb, and_parts, both_ways, ltb-true, ne_eqb, cases_lt}
use Rattle.std.specs.Str.{is_utf8}
use Rattle.parquet_metadata.specs.declared.element.SchemaElement.{SchemaElement}
use Rattle.parquet_metadata.specs.declared.group.RowGroup.{RowGroup}
use Rattle.parquet_footer.specs.declared.column.Column.{Column}
use Rattle.parquet_footer.specs.Schema.{Node, Nodes, leaf_node, group_node, no_nodes, node, node_count, is_whole, leaf_count_in, leaf_count, count, flat_node, flat, IsCounted, AreCounted}
use Rattle.parquet_footer.specs.Columns.{leaf_column, group_column, columns_of}
use Rattle.parquet_footer.specs.Walks.{is_forest, leaf_one, column_at, column_before, columns_by}
use Rattle.parquet_footer.proofs.SchemaLaws.{long_forest}
use Rattle.parquet_footer.proofs.LeafLaws.{one_more_leaf, no_more_leaf}

-- so many nodes are due first in elements that are trees
pub record AreDue (due : ℕ) (elements : List SchemaElement) : Type 0 where
  pub later : ℕ
  pub are : is_forest (due + later) elements ≡ true

pub no_longer : (due : ℕ) (elements : List SchemaElement) → AreDue due elements → due ≤ length elements
no_longer due elements d =
    elim (cases_lt (length elements) (due + d.later)) [
      | inl more ↦ absurd (both_ways _ (long_forest elements (due + d.later) more) d.are)
      | inr few ↦ omega arith
    ]

pub record Behind (due : ℕ) (e : SchemaElement) (elements : List SchemaElement) : Type 0 where
  pub whole : is_whole e ≡ true
  pub due_behind : AreDue (due - 1 + node_count e.children) elements
  pub fits : due - 1 + node_count e.children ≤ length elements

pub behind_one : (due : ℕ) (e : SchemaElement) (elements : List SchemaElement) → AreDue due (e ∷ elements) → Behind due e elements
behind_one due e elements d =
    let parts = and_parts (nat_lt 0 (due + d.later)) (is_whole e && is_forest (due + d.later - 1 + node_count e.children) elements) d.are in
    let inner = and_parts (is_whole e) (is_forest (due + d.later - 1 + node_count e.children) elements) parts.1 in
    let some : 0 < due + d.later = ltb-true 0 (due + d.later) parts.0 in
    let later : ℕ = due + d.later - 1 - (due - 1) in
    let same : due + d.later - 1 + node_count e.children ≡ due - 1 + node_count e.children + later = omega arith in
    let rest : AreDue (due - 1 + node_count e.children) elements = record {
      later = later;
      are = ap (λ n. is_forest n elements) (sym same) ∙ inner.1;
    } in
    record {
      whole = inner.0;
      due_behind = rest;
      fits = no_longer (due - 1 + node_count e.children) elements rest;
    }

pub whole_name : (e : SchemaElement) → is_whole e ≡ true → is_utf8 e.name ≡ true
unfolding is_whole
whole_name e w = (and_parts (is_utf8 e.name) _ w).0

before_both : (b : Bool) (old rest : List Column) (column : Column) → old ++ column_before b column rest ≡ (old ++ column_before b column []) ++ rest
before_both true old rest column = sym (append_assoc old (column ∷ []) rest)
before_both false old rest column = ap (λ z. z ++ rest) (sym (append-nil old))

-- one element more
pub columns_step : (groups : List RowGroup) (leaves due : ℕ) (e : SchemaElement) (elements : List SchemaElement) (old new : List Column) → new ≡ old ++ column_before (nat_eq due 0) (column_at groups leaves e) [] → old ++ columns_by groups leaves due (e ∷ elements) ≡ new ++ columns_by groups (leaves + leaf_one e) (due - 1 + node_count e.children) elements
columns_step groups leaves due e elements old new is =
    before_both (nat_eq due 0) old _ (column_at groups leaves e)
    ∙ ap (λ z. z ++ columns_by groups (leaves + leaf_one e) (due - 1 + node_count e.children) elements) (sym is)

pub behind_in : (due : ℕ) (e : SchemaElement) (elements left : List SchemaElement) → left ≡ e ∷ elements → AreDue due left → Behind due e elements
behind_in due e elements left is d =
    behind_one due e elements (subst (λ (left : List SchemaElement). AreDue due left) is d)

pub columns_next : (groups : List RowGroup) (leaves due one next : ℕ) (e : SchemaElement) (elements left : List SchemaElement) (all old new : List Column) → left ≡ e ∷ elements → one ≡ leaf_one e → next ≡ due - 1 + node_count e.children → new ≡ old ++ column_before (nat_eq due 0) (column_at groups leaves e) [] → all ≡ old ++ columns_by groups leaves due left → all ≡ new ++ columns_by groups (leaves + one) next elements
columns_next groups leaves due one next e elements left all old new is one_is next_is new_is all_is =
    all_is
    ∙ ap (λ z. old ++ columns_by groups leaves due z) is
    ∙ columns_step groups leaves due e elements old new new_is
    ∙ ap (λ n. new ++ columns_by groups (leaves + n) (due - 1 + node_count e.children) elements) (sym one_is)
    ∙ ap (λ n. new ++ columns_by groups (leaves + one) n elements) (sym next_is)

-- ---- the same by the tree

before_none : (n : ℕ) (column : Column) (rest : List Column) → column_before (nat_eq (n + 1) 0) column rest ≡ rest
before_none n column rest =
    let more : nat_eq (n + 1) 0 ≡ false = ne_eqb (n + 1) 0 (λ same. absurd (omega arith)) in
    rw more refl

walked_on : (groups : List RowGroup) (a b c d : ℕ) (elements : List SchemaElement) → a ≡ b → c ≡ d → columns_by groups a c elements ≡ columns_by groups b d elements
walked_on groups a b c d elements p q =
    ap (λ n. columns_by groups n c elements) p ∙ ap (λ n. columns_by groups b n elements) q

mutual
  node_skipped : (n : Node) (groups : List RowGroup) (leaves k : ℕ) (more : List SchemaElement) → IsCounted n → columns_by groups leaves (k + 1) (flat_node n ++ more) ≡ columns_by groups (leaves + leaf_count_in n) k more
  node_skipped (leaf_node e) groups leaves k more h =
      before_none k (column_at groups leaves e) _
      ∙ walked_on groups (leaves + leaf_one e) (leaves + 1) (k + 1 - 1 + node_count e.children) k more (ap (λ n. leaves + n) (one_more_leaf e h)) (omega (arith, h))
  node_skipped (group_node e nodes) groups leaves k more h =
      before_none k (column_at groups leaves e) _
      ∙ walked_on groups (leaves + leaf_one e) leaves (k + 1 - 1 + node_count e.children) (count nodes + k) (flat nodes ++ more) (ap (λ n. leaves + n) (no_more_leaf e (count nodes) h.0 h.1) ∙ omega arith) (omega (arith, h.0))
      ∙ nodes_skipped nodes groups leaves k more h.2

  nodes_skipped : (nodes : Nodes) (groups : List RowGroup) (leaves k : ℕ) (more : List SchemaElement) → AreCounted nodes → columns_by groups leaves (count nodes + k) (flat nodes ++ more) ≡ columns_by groups (leaves + leaf_count nodes) k more
  nodes_skipped no_nodes groups leaves k more h =
      walked_on groups leaves (leaves + 0) (0 + k) k more (omega arith) (omega arith)
  nodes_skipped (node n nodes) groups leaves k more h =
      ap (columns_by groups leaves (count nodes + 1 + k)) (append_assoc (flat_node n) (flat nodes) more)
      ∙ walked_on groups leaves leaves (count nodes + 1 + k) (count nodes + k + 1) (flat_node n ++ (flat nodes ++ more)) refl (omega arith)
      ∙ node_skipped n groups leaves (count nodes + k) (flat nodes ++ more) h.0
      ∙ nodes_skipped nodes groups (leaves + leaf_count_in n) k more h.1
      ∙ walked_on groups (leaves + leaf_count_in n + leaf_count nodes) (leaves + (leaf_count_in n + leaf_count nodes)) k k more (omega arith) refl

-- the columns of the tree's elements
pub tree_columns : (nodes : Nodes) (groups : List RowGroup) (leaves : ℕ) → AreCounted nodes → columns_by groups leaves 0 (flat nodes) ≡ columns_of groups leaves nodes
tree_columns no_nodes groups leaves h = refl
tree_columns (node (leaf_node e) nodes) groups leaves h =
    let few : nat_lt 0 (node_count e.children) ≡ false = le-ltb 0 (node_count e.children) (omega (arith, h.0)) in
    let column_is : column_at groups leaves e ≡ leaf_column groups leaves e = rw few refl in
    ap (λ column. column ∷ columns_by groups (leaves + leaf_one e) (0 - 1 + node_count e.children) (flat nodes)) column_is
    ∙ ap (λ rest. leaf_column groups leaves e ∷ rest)
    (walked_on groups (leaves + leaf_one e) (leaves + 1) (0 - 1 + node_count e.children) 0 (flat nodes) (ap (λ n. leaves + n) (one_more_leaf e h.0)) (omega (arith, h.0))
    ∙ tree_columns nodes groups (leaves + 1) h.1)
tree_columns (node (group_node e children) nodes) groups leaves h =
    let more : nat_lt 0 (node_count e.children) ≡ true = lt-ltb 0 (node_count e.children) (omega (arith, h.0.0, h.0.1)) in
    let column_is : column_at groups leaves e ≡ group_column e = rw more refl in
    ap (λ column. column ∷ columns_by groups (leaves + leaf_one e) (0 - 1 + node_count e.children) (flat children ++ flat nodes)) column_is
    ∙ ap (λ rest. group_column e ∷ rest)
    (walked_on groups (leaves + leaf_one e) leaves (0 - 1 + node_count e.children) (count children + 0) (flat children ++ flat nodes) (ap (λ n. leaves + n) (no_more_leaf e (count children) h.0.0 h.0.1) ∙ omega arith) (omega (arith, h.0.0))
    ∙ nodes_skipped children groups leaves 0 (flat nodes) h.0.2
    ∙ tree_columns nodes groups (leaves + leaf_count children) h.1)
