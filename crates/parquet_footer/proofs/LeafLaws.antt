-- The leaves of a schema, by its elements and by its tree.
use Rattle.std.proofs.Common.{◌≡◌, ◌<◌, ◌+◌, ◌-◌, ℕ, Bool, true, false, nat_eq, nat_lt, if◌then◌else◌, List, [], ◌∷◌, ◌++◌, length, refl, ap, sym, ◌∙◌, arith, append_assoc, append-nil}
use Rattle.std.proofs.lemmas.Bool.{lt-ltb, le-ltb, eq-eqb, both_ways}
use Rattle.std.proofs.Math.Bool.{and-false}
use Rattle.parquet_metadata.specs.declared.element.SchemaElement.{SchemaElement}
use Rattle.parquet_metadata.specs.declared.chunk.ColumnChunk.{ColumnChunk}
use Rattle.parquet_footer.specs.Schema.{Node, Nodes, leaf_node, group_node, no_nodes, node, Leaf, node_count, leaves_in, leaves_under, leaf_count_in, leaf_count, count, flat_node, flat, IsCounted, AreCounted}
use Rattle.parquet_footer.specs.Groups.{is_leaf, are_leaves}
use Rattle.parquet_footer.specs.Walks.{Level, path_of, entered, leaves_by, leaf_one, leaf_number}

one_leaf : (g : Bool) (levels more : List Leaf) (l : Leaf) (n : ℕ) → length levels ≡ n → length more ≡ n → length (if g then levels else l ∷ more) ≡ (if g then 0 else 1) + n
one_leaf true levels more l n a b = a ∙ omega arith
one_leaf false levels more l n a b = omega arith

-- as many leaves as are counted
pub walked_number : (levels : List Level) (elements : List SchemaElement) → length (leaves_by levels elements) ≡ leaf_number elements
walked_number levels [] = refl
walked_number levels (e ∷ elements) =
    one_leaf (nat_lt 0 (node_count e.children)) _ _ _ (leaf_number elements)
    (walked_number (record { name = e.name; due = node_count e.children } ∷ entered levels) elements)
    (walked_number (entered levels) elements)

another : (chunks : List ColumnChunk) (leaves : List Leaf) → (length chunks ≡ length leaves → ⊥) → are_leaves chunks leaves ≡ false
another [] [] h = absurd (h refl)
another [] (l ∷ leaves) h = refl
another (c ∷ chunks) [] h = refl
another (c ∷ chunks) (l ∷ leaves) h =
    rw (another chunks leaves (λ same. h (omega arith))) (and-false (is_leaf c l))

-- chunks of another number aren't those of the leaves
pub other_number : (chunks : List ColumnChunk) (levels : List Level) (elements : List SchemaElement) (n : ℕ) → n ≡ leaf_number elements → nat_eq (length chunks) n ≡ false → false ≡ are_leaves chunks (leaves_by levels elements)
other_number chunks levels elements n is other =
    sym (another chunks (leaves_by levels elements) (λ same. by_eq (same ∙ walked_number levels elements ∙ sym is)))
  where
    by_eq : length chunks ≡ n → ⊥
    by_eq same = both_ways _ other (eq-eqb _ _ same)

-- ---- the same by the tree

abbrev with_due : ℕ → List Level → List Level
with_due n [] = []
with_due n (l ∷ levels) = record { name = l.name; due = n + l.due } ∷ levels

no_due : (levels : List Level) → with_due 0 levels ≡ levels
no_due [] = refl
no_due (l ∷ levels) = ap (λ n. record { name = l.name; due = n } ∷ levels) (omega arith)

path_with_due : (n : ℕ) (levels : List Level) → path_of (with_due n levels) ≡ path_of levels
path_with_due n [] = refl
path_with_due n (l ∷ levels) = refl

enters : (n : ℕ) (levels : List Level) → entered (with_due (n + 1) levels) ≡ with_due n levels
enters n [] = refl
enters n (l ∷ levels) =
    let more : nat_lt 0 (n + 1 + l.due) ≡ true = lt-ltb 0 (n + 1 + l.due) (omega arith) in
    let less : n + 1 + l.due - 1 ≡ n + l.due = omega arith in
    rw (more, less) refl

-- a group that is whole is passed
passes : (name : List ℕ) (levels : List Level) (elements : List SchemaElement) → leaves_by (record { name = name; due = 0 } ∷ levels) elements ≡ leaves_by levels elements
passes name levels [] = refl
passes name levels (e ∷ elements) = refl

leaf_first : (levels : List Level) (e : SchemaElement) (elements : List SchemaElement) → node_count e.children ≡ 0 → leaves_by levels (e ∷ elements) ≡ record { path = path_of (entered levels) ++ e.name ∷ []; element = e } ∷ leaves_by (entered levels) elements
leaf_first levels e elements is =
    let few : nat_lt 0 (node_count e.children) ≡ false = le-ltb 0 (node_count e.children) (omega arith) in
    rw few refl

group_first : (levels : List Level) (e : SchemaElement) (elements : List SchemaElement) (n : ℕ) → node_count e.children ≡ n → 0 < n → leaves_by levels (e ∷ elements) ≡ leaves_by (record { name = e.name; due = n } ∷ entered levels) elements
group_first levels e elements n is some =
    let more : nat_lt 0 (node_count e.children) ≡ true = lt-ltb 0 (node_count e.children) (omega arith) in
    rw (more, is) refl

mutual
  node_leaves : (n : Node) (k : ℕ) (levels : List Level) (more : List SchemaElement) → IsCounted n → leaves_by (with_due (k + 1) levels) (flat_node n ++ more) ≡ leaves_in (path_of levels) n ++ leaves_by (with_due k levels) more
  node_leaves (leaf_node e) k levels more h =
      leaf_first (with_due (k + 1) levels) e more h
      ∙ ap (λ ls. record { path = path_of ls ++ e.name ∷ []; element = e } ∷ leaves_by ls more) (enters k levels)
      ∙ ap (λ path. record { path = path ++ e.name ∷ []; element = e } ∷ leaves_by (with_due k levels) more) (path_with_due k levels)
  node_leaves (group_node e nodes) k levels more h =
      group_first (with_due (k + 1) levels) e (flat nodes ++ more) (count nodes) h.0 h.1
      ∙ ap (λ ls. leaves_by (record { name = e.name; due = count nodes } ∷ ls) (flat nodes ++ more)) (enters k levels)
      ∙ ap (λ n. leaves_by (record { name = e.name; due = n } ∷ with_due k levels) (flat nodes ++ more)) (omega arith)
      ∙ nodes_leaves nodes (record { name = e.name; due = 0 } ∷ with_due k levels) more h.2
      ∙ ap (λ rest. leaves_under (path_of (with_due k levels) ++ e.name ∷ []) nodes ++ rest) (passes e.name (with_due k levels) more)
      ∙ ap (λ path. leaves_under (path ++ e.name ∷ []) nodes ++ leaves_by (with_due k levels) more) (path_with_due k levels)

  nodes_leaves : (nodes : Nodes) (levels : List Level) (more : List SchemaElement) → AreCounted nodes → leaves_by (with_due (count nodes) levels) (flat nodes ++ more) ≡ leaves_under (path_of levels) nodes ++ leaves_by levels more
  nodes_leaves no_nodes levels more h = ap (λ ls. leaves_by ls more) (no_due levels)
  nodes_leaves (node n nodes) levels more h =
      ap (leaves_by (with_due (count nodes + 1) levels)) (append_assoc (flat_node n) (flat nodes) more)
      ∙ node_leaves n (count nodes) levels (flat nodes ++ more) h.0
      ∙ ap (λ rest. leaves_in (path_of levels) n ++ rest) (nodes_leaves nodes levels more h.1)
      ∙ sym (append_assoc (leaves_in (path_of levels) n) (leaves_under (path_of levels) nodes) (leaves_by levels more))

-- the leaves of the tree's elements
pub tree_leaves : (nodes : Nodes) → AreCounted nodes → leaves_by [] (flat nodes) ≡ leaves_under [] nodes
tree_leaves nodes h =
    ap (leaves_by []) (sym (append-nil (flat nodes)))
    ∙ nodes_leaves nodes [] [] h
    ∙ append-nil (leaves_under [] nodes)

pub one_more_leaf : (e : SchemaElement) → node_count e.children ≡ 0 → leaf_one e ≡ 1
one_more_leaf e is =
    let few : nat_lt 0 (node_count e.children) ≡ false = le-ltb 0 (node_count e.children) (omega arith) in
    rw few refl

pub no_more_leaf : (e : SchemaElement) (n : ℕ) → node_count e.children ≡ n → 0 < n → leaf_one e ≡ 0
no_more_leaf e n is some =
    let more : nat_lt 0 (node_count e.children) ≡ true = lt-ltb 0 (node_count e.children) (omega arith) in
    rw more refl

mutual
  node_number : (n : Node) (more : List SchemaElement) → IsCounted n → leaf_number (flat_node n ++ more) ≡ leaf_count_in n + leaf_number more
  node_number (leaf_node e) more h = ap (λ n. n + leaf_number more) (one_more_leaf e h)
  node_number (group_node e nodes) more h =
      let one : leaf_one e ≡ 0 = no_more_leaf e (count nodes) h.0 h.1 in
      let rest : leaf_number (flat nodes ++ more) ≡ leaf_count nodes + leaf_number more = nodes_number nodes more h.2 in
      omega (arith, one, rest)

  nodes_number : (nodes : Nodes) (more : List SchemaElement) → AreCounted nodes → leaf_number (flat nodes ++ more) ≡ leaf_count nodes + leaf_number more
  nodes_number no_nodes more h = omega arith
  nodes_number (node n nodes) more h =
      let here : leaf_number (flat_node n ++ (flat nodes ++ more)) ≡ leaf_count_in n + leaf_number (flat nodes ++ more) = node_number n (flat nodes ++ more) h.0 in
      let rest : leaf_number (flat nodes ++ more) ≡ leaf_count nodes + leaf_number more = nodes_number nodes more h.1 in
      ap leaf_number (append_assoc (flat_node n) (flat nodes) more) ∙ omega (arith, here, rest)

-- as many leaves as the tree has
pub tree_number : (nodes : Nodes) → AreCounted nodes → leaf_number (flat nodes) ≡ leaf_count nodes
tree_number nodes h =
    ap leaf_number (sym (append-nil (flat nodes))) ∙ nodes_number nodes [] h ∙ omega arith
