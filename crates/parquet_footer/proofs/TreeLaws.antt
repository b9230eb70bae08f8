-- A schema's tree is the one that its elements list.
use Rattle.std.proofs.Common.{◌≡◌, ◌<◌, ℕ, zero, suc, Bool, true, false, nat_lt, if◌then◌else◌, List, [], ◌∷◌, ◌++◌, Option, None, Some, refl, ap, sym, ◌∙◌, arith, append_assoc, append-nil}
use Rattle.std.specs.List.{list_all}
use Rattle.std.proofs.lemmas.Bool.{lt-ltb, le-ltb, and_parts}
use Rattle.std.proofs.lemmas.List.Folds.{list_all-append}
use Rattle.parquet_metadata.specs.declared.element.SchemaElement.{SchemaElement}
use Rattle.parquet_footer.specs.Schema.{Node, Nodes, leaf_node, group_node, no_nodes, node, node_count, is_whole, behind_first, parted, with_children, before_nodes, forest_of, below_root, schema_of, count, flat_node, flat, IsCounted, AreCounted, IsSchema}
use Rattle.parquet_footer.proofs.SchemaLaws.{rooted}

-- ---- a tree's elements are whole

whole_one : (e : SchemaElement) (elements : List SchemaElement) (w : Bool) (r : Option Nodes) (nodes : Nodes) → is_whole e ≡ w → (if w then before_nodes e r else None) ≡ Some nodes → ((more : Nodes) → r ≡ Some more → list_all is_whole elements ≡ true) → list_all is_whole (e ∷ elements) ≡ true
whole_one e elements false r nodes w is rest = absurd (cc)
whole_one e elements true None nodes w is rest = absurd (cc)
whole_one e elements true (Some more) nodes w is rest = rw (w, rest more refl) refl

whole_forest : (elements : List SchemaElement) (nodes : Nodes) → forest_of elements ≡ Some nodes → list_all is_whole elements ≡ true
unfolding forest_of
whole_forest [] nodes is = refl
whole_forest (e ∷ elements) nodes is =
    whole_one e elements (is_whole e) (forest_of elements) nodes refl is (whole_forest elements)

some_forest : (r : Option Nodes) (nodes : Nodes) → below_root r ≡ Some nodes → (all : Nodes) × (r ≡ Some all)
some_forest None nodes is = absurd (cc)
some_forest (Some all) nodes is = (all, refl)

pub listed_tree : (elements : List SchemaElement) (nodes : Nodes) → schema_of elements ≡ Some nodes → IsSchema elements nodes
unfolding schema_of
listed_tree elements nodes is =
    let r = rooted elements nodes is in
    let all = some_forest (forest_of elements) nodes is in
    record {
      root = r.root;
      elements_are = r.elements_are;
      whole = whole_forest elements all.0 all.1;
      some = r.counts.1;
      root_counts = r.counts.0;
      counted = r.counts.2;
    }

-- ---- and no other tree is listed so

abbrev before_all : Nodes → Nodes → Nodes
before_all no_nodes rest = rest
before_all (node n nodes) rest = node n (before_all nodes rest)

parted_all : (nodes rest : Nodes) (n : ℕ) → n ≡ count nodes → parted n (before_all nodes rest) ≡ Some (nodes, rest)
parted_all no_nodes rest zero is = refl
parted_all no_nodes rest (suc n) is = absurd (omega arith)
parted_all (node m nodes) rest zero is = absurd (omega arith)
parted_all (node m nodes) rest (suc n) is =
    ap (behind_first m) (parted_all nodes rest n (omega arith))

mutual
  unfolding forest_of

  node_read : (n : Node) (more : List SchemaElement) (rest : Nodes) → IsCounted n → list_all is_whole (flat_node n) ≡ true → forest_of more ≡ Some rest → forest_of (flat_node n ++ more) ≡ Some (node n rest)
  node_read (leaf_node e) more rest h w is =
      let whole : is_whole e ≡ true = (and_parts (is_whole e) true w).0 in
      let few : nat_lt 0 (node_count e.children) ≡ false = le-ltb 0 (node_count e.children) (omega (arith, h)) in
      rw (whole, is, few) refl
  node_read (group_node e nodes) more rest h w is =
      let parts = and_parts (is_whole e) (list_all is_whole (flat nodes)) w in
      let whole : is_whole e ≡ true = parts.0 in
      let below : forest_of (flat nodes ++ more) ≡ Some (before_all nodes rest) = nodes_read nodes more rest h.2 parts.1 is in
      let some : nat_lt 0 (node_count e.children) ≡ true = lt-ltb 0 (node_count e.children) (omega (arith, h.0, h.1)) in
      rw (whole, below, some) (ap (with_children e) (parted_all nodes rest (node_count e.children) h.0))

  nodes_read : (nodes : Nodes) (more : List SchemaElement) (rest : Nodes) → AreCounted nodes → list_all is_whole (flat nodes) ≡ true → forest_of more ≡ Some rest → forest_of (flat nodes ++ more) ≡ Some (before_all nodes rest)
  nodes_read no_nodes more rest h w is = is
  nodes_read (node n nodes) more rest h w is =
      let parts = and_parts (list_all is_whole (flat_node n)) (list_all is_whole (flat nodes)) (sym (list_all-append is_whole (flat_node n) (flat nodes)) ∙ w) in
      ap forest_of (append_assoc (flat_node n) (flat nodes) more)
      ∙ node_read n (flat nodes ++ more) (before_all nodes rest) h.0 parts.0 (nodes_read nodes more rest h.1 parts.1 is)

before_none : (nodes : Nodes) → before_all nodes no_nodes ≡ nodes
before_none no_nodes = refl
before_none (node n nodes) = ap (node n) (before_none nodes)

read_root : (root : SchemaElement) (nodes : Nodes) → is_whole root ≡ true → list_all is_whole (flat nodes) ≡ true → 0 < count nodes → node_count root.children ≡ count nodes → AreCounted nodes → schema_of (root ∷ flat nodes) ≡ Some nodes
unfolding schema_of forest_of
read_root root nodes whole all some counts h =
    let read : forest_of (flat nodes) ≡ Some nodes =
    ap forest_of (sym (append-nil (flat nodes)))
    ∙ nodes_read nodes [] no_nodes h all refl
    ∙ ap (λ (n : Nodes). Some n) (before_none nodes)
    in
    let more : nat_lt 0 (node_count root.children) ≡ true = lt-ltb 0 (node_count root.children) (omega (arith, some, counts)) in
    let taken : parted (node_count root.children) nodes ≡ Some (nodes, no_nodes) =
    ap (parted (node_count root.children)) (sym (before_none nodes)) ∙ parted_all nodes no_nodes (node_count root.children) counts
    in
    rw (whole, read, more, taken) refl

pub only_tree : (elements : List SchemaElement) (nodes : Nodes) → IsSchema elements nodes → schema_of elements ≡ Some nodes
only_tree elements nodes s =
    let parts = and_parts (is_whole s.root) (list_all is_whole (flat nodes)) (ap (list_all is_whole) (sym s.elements_are) ∙ s.whole) in
    ap schema_of s.elements_are ∙ read_root s.root nodes parts.0 parts.1 s.some s.root_counts s.counted
