-- A schema's elements make the same forest read from the back as they do walked from the front.
use Rattle.std.proofs.Common.{◌≡◌, ◌<◌, ◌+◌, ◌-◌, ℕ, zero, suc, Bool, true, false, nat_eq, nat_lt, ◌&&◌, if◌then◌else◌, is_some, List, [], ◌∷◌, ◌++◌, length, Option, None, Some, refl, ap, sym, ◌∙◌, subst, arith, append_assoc, append-nil}
use Rattle.std.proofs.lemmas.Bool.{lt-ltb, le-ltb, and_right, eq-eqb, ne_eqb}
use Rattle.std.proofs.lemmas.Bool.Decides.{nat_tests}
use Rattle.std.proofs.Math.Bool.{and-false}
use Rattle.parquet_metadata.specs.declared.element.SchemaElement.{SchemaElement}
use Rattle.parquet_footer.specs.Schema.{Nodes, leaf_node, group_node, no_nodes, node, node_count, is_whole, behind_first, parted, with_children, before_nodes, forest_of, below_root, schema_of, count, flat_node, flat, AreCounted}
use Rattle.parquet_footer.specs.Walks.{is_forest}

pub record IsParted (n : ℕ) (nodes : Nodes) (parts : Nodes × Nodes) : Type 0 where
  pub first : count parts.0 ≡ n
  pub all : n + count parts.1 ≡ count nodes
  pub listed : flat parts.0 ++ flat parts.1 ≡ flat nodes
  pub counted : AreCounted nodes → AreCounted parts.0 × AreCounted parts.1

abbrev pub Parts : ℕ → Nodes → Option (Nodes × Nodes) → Type 0
Parts n nodes None = count nodes < n
Parts n nodes (Some parts) = IsParted n nodes parts

pub parts : (n : ℕ) (nodes : Nodes) → Parts n nodes (parted n nodes)
parts zero nodes = record { first = refl; all = omega arith; listed = refl; counted = λ h. (tt, h) }
parts (suc n) no_nodes = omega arith
parts (suc n) (node m nodes) = step (parted n nodes) (parts n nodes)
  where
    step : (r : Option (Nodes × Nodes)) → Parts n nodes r → Parts (suc n) (node m nodes) (behind_first m r)
    step None h = omega arith
    step (Some p) h = record {
      first = omega (arith, h.first);
      all = omega (arith, h.all);
      listed = append_assoc (flat_node m) (flat p.0) (flat p.1) ∙ ap (λ z. flat_node m ++ z) h.listed;
      counted = λ k. ((k.0, (h.counted k.1).0), (h.counted k.1).1);
    }

-- more trees than elements are none
pub long_forest : (elements : List SchemaElement) (due : ℕ) → length elements < due → is_forest due elements ≡ false
long_forest [] due h = grind (arith, nat_tests)
long_forest (e ∷ elements) due h =
    let less : is_forest (due - 1 + node_count e.children) elements ≡ false =
    long_forest elements (due - 1 + node_count e.children) (omega arith)
    in
    rw less (and_right (nat_lt 0 due) _ (and-false (is_whole e)))

abbrev pub counts : ℕ → Option Nodes → Bool
counts due None = false
counts due (Some nodes) = nat_eq due (count nodes)

one_more : (due n : ℕ) → (nat_lt 0 due && nat_eq (due - 1) n) ≡ nat_eq due (n + 1)
one_more due n = grind (arith, nat_tests)

no_parts : (due c n : ℕ) → n < c → (nat_lt 0 due && nat_eq (due - 1 + c) n) ≡ false
no_parts due c n h = grind (arith, nat_tests)

some_parts : (due c n m : ℕ) → c + m ≡ n → (nat_lt 0 due && nat_eq (due - 1 + c) n) ≡ nat_eq due (m + 1)
some_parts due c n m h = grind (arith, nat_tests)

-- one element more: walked from the front, and before the nodes behind it
one_before : (e : SchemaElement) (due : ℕ) (r : Option Nodes) → (nat_lt 0 due && counts (due - 1 + node_count e.children) r) ≡ counts due (before_nodes e r)
one_before e due None = and-false (nat_lt 0 due)
one_before e due (Some nodes) = by_count (node_count e.children) refl
  where
    taken : (c : ℕ) (r : Option (Nodes × Nodes)) → Parts c nodes r → (nat_lt 0 due && nat_eq (due - 1 + c) (count nodes)) ≡ counts due (with_children e r)
    taken c None h = no_parts due c (count nodes) h
    taken c (Some p) h = some_parts due c (count nodes) (count p.1) h.all

    by_count : (c : ℕ) → node_count e.children ≡ c → (nat_lt 0 due && nat_eq (due - 1 + node_count e.children) (count nodes)) ≡ counts due (if nat_lt 0 (node_count e.children) then with_children e (parted (node_count e.children) nodes) else Some (node (leaf_node e) nodes))
    by_count zero is = rw is (some_parts due 0 (count nodes) (count nodes) (omega arith))
    by_count (suc c) is =
        let is_so : nat_lt 0 (suc c) ≡ true = lt-ltb 0 (suc c) (omega arith) in
        rw (is, is_so) (taken (suc c) (parted (suc c) nodes) (parts (suc c) nodes))

pub forest_by : (elements : List SchemaElement) (due : ℕ) → is_forest due elements ≡ counts due (forest_of elements)
unfolding forest_of
forest_by [] due = refl
forest_by (e ∷ elements) due =
    rw (forest_by elements (due - 1 + node_count e.children)) (by_whole (is_whole e))
  where
    by_whole : (w : Bool) → (nat_lt 0 due && (w && counts (due - 1 + node_count e.children) (forest_of elements))) ≡ counts due (if w then before_nodes e (forest_of elements) else None)
    by_whole true = one_before e due (forest_of elements)
    by_whole false = and-false (nat_lt 0 due)

pub schema_empty : (elements : List SchemaElement) → length elements ≡ 0 → false ≡ is_some (schema_of elements)
unfolding schema_of forest_of
schema_empty [] h = refl
schema_empty (e ∷ elements) h = absurd (omega arith)

all_taken : (e : SchemaElement) (c n : ℕ) (a b : Nodes) → c + count b ≡ n → nat_eq c n ≡ is_some (below_root (Some (node (group_node e a) b)))
all_taken e c n a no_nodes h = eq-eqb c n (omega arith)
all_taken e c n a (node m b) h = ne_eqb c n (λ same. absurd (omega arith))

-- the elements behind a root are its children, and theirs, exactly where they are one tree with it
pub schema_is : (e : SchemaElement) (elements : List SchemaElement) → (nat_lt 0 (node_count e.children) && (is_whole e && is_forest (node_count e.children) elements)) ≡ is_some (schema_of (e ∷ elements))
unfolding schema_of forest_of
schema_is e elements =
    rw (forest_by elements (node_count e.children)) (by_whole (is_whole e))
  where
    taken : (c : ℕ) (nodes : Nodes) (r : Option (Nodes × Nodes)) → Parts c nodes r → nat_eq c (count nodes) ≡ is_some (below_root (with_children e r))
    taken c nodes None h = ne_eqb c (count nodes) (λ same. absurd (omega arith))
    taken c nodes (Some p) h = all_taken e c (count nodes) p.0 p.1 h.all

    by_count : (c : ℕ) (nodes : Nodes) → node_count e.children ≡ c → (nat_lt 0 (node_count e.children) && nat_eq (node_count e.children) (count nodes)) ≡ is_some (below_root (if nat_lt 0 (node_count e.children) then with_children e (parted (node_count e.children) nodes) else Some (node (leaf_node e) nodes)))
    by_count zero nodes is = rw is refl
    by_count (suc c) nodes is =
        let is_so : nat_lt 0 (suc c) ≡ true = lt-ltb 0 (suc c) (omega arith) in
        rw (is, is_so) (taken (suc c) nodes (parted (suc c) nodes) (parts (suc c) nodes))

    by_nodes : (r : Option Nodes) → (nat_lt 0 (node_count e.children) && counts (node_count e.children) r) ≡ is_some (below_root (before_nodes e r))
    by_nodes None = and-false (nat_lt 0 (node_count e.children))
    by_nodes (Some nodes) = by_count (node_count e.children) nodes refl

    by_whole : (w : Bool) → (nat_lt 0 (node_count e.children) && (w && counts (node_count e.children) (forest_of elements))) ≡ is_some (below_root (if w then before_nodes e (forest_of elements) else None))
    by_whole true = by_nodes (forest_of elements)
    by_whole false = and-false (nat_lt 0 (node_count e.children))

pub no_children : (e : SchemaElement) (elements : List SchemaElement) → node_count e.children ≡ 0 → false ≡ is_some (schema_of (e ∷ elements))
no_children e elements none =
    let few : nat_lt 0 (node_count e.children) ≡ false = le-ltb 0 (node_count e.children) (omega arith) in
    rw few at (schema_is e elements)

pub not_whole : (e : SchemaElement) (elements : List SchemaElement) (w : Bool) → w ≡ is_whole e → w ≡ false → w ≡ is_some (schema_of (e ∷ elements))
not_whole e elements w is fails =
    fails ∙ (sym (rw (sym is ∙ fails) (and-false (nat_lt 0 (node_count e.children))))
    ∙ schema_is e elements)

pub whole_is : (e : SchemaElement) (elements : List SchemaElement) → 0 < node_count e.children → is_whole e ≡ true → is_forest (node_count e.children) elements ≡ is_some (schema_of (e ∷ elements))
whole_is e elements some whole =
    let more : nat_lt 0 (node_count e.children) ≡ true = lt-ltb 0 (node_count e.children) some in
    rw (more, whole) at (schema_is e elements)

-- the elements are those of the nodes
pub record AreListed (elements : List SchemaElement) (nodes : Nodes) : Type 0 where
  pub elements_are : elements ≡ flat nodes
  pub counted : AreCounted nodes

abbrev pub Listed : List SchemaElement → Option Nodes → Type 0
Listed elements None = Unit {0}
Listed elements (Some nodes) = AreListed elements nodes

listed_before : (e : SchemaElement) (elements : List SchemaElement) (r : Option Nodes) → Listed elements r → Listed (e ∷ elements) (before_nodes e r)
listed_before e elements None h = tt
listed_before e elements (Some nodes) h = by_count (node_count e.children) refl
  where
    taken : (c : ℕ) (r : Option (Nodes × Nodes)) → node_count e.children ≡ suc c → Parts (suc c) nodes r → Listed (e ∷ elements) (with_children e r)
    taken c None is k = tt
    taken c (Some p) is k =
        record {
          elements_are = ap (λ z. e ∷ z) (h.elements_are ∙ sym k.listed);
          counted = ((is ∙ sym k.first, omega (arith, k.first), (k.counted h.counted).0), (k.counted h.counted).1);
        }

    by_count : (c : ℕ) → node_count e.children ≡ c → Listed (e ∷ elements) (if nat_lt 0 (node_count e.children) then with_children e (parted (node_count e.children) nodes) else Some (node (leaf_node e) nodes))
    by_count zero is =
        let few : nat_lt 0 (node_count e.children) ≡ false = le-ltb 0 (node_count e.children) (omega arith) in
        rw few (record { elements_are = ap (λ z. e ∷ z) h.elements_are; counted = (is, h.counted) })
    by_count (suc c) is =
        let more : nat_lt 0 (node_count e.children) ≡ true = lt-ltb 0 (node_count e.children) (omega arith) in
        rw (more, is) (taken c (parted (suc c) nodes) is (parts (suc c) nodes))

pub listed : (elements : List SchemaElement) → Listed elements (forest_of elements)
unfolding forest_of
listed [] = record { elements_are = refl; counted = tt }
listed (e ∷ elements) = by_whole (is_whole e) (listed_before e elements (forest_of elements) (listed elements))
  where
    by_whole : (w : Bool) → Listed (e ∷ elements) (before_nodes e (forest_of elements)) → Listed (e ∷ elements) (if w then before_nodes e (forest_of elements) else None)
    by_whole true h = h
    by_whole false h = tt

-- the elements are a root's, and those of the nodes below it
pub record IsRooted (elements : List SchemaElement) (nodes : Nodes) : Type 0 where
  pub root : SchemaElement
  pub elements_are : elements ≡ root ∷ flat nodes
  pub counts : (node_count root.children ≡ count nodes) × (0 < count nodes) × AreCounted nodes

rooted_by : (elements : List SchemaElement) (r : Option Nodes) (nodes : Nodes) → Listed elements r → below_root r ≡ Some nodes → IsRooted elements nodes
rooted_by elements (Some (node (group_node e below) no_nodes)) nodes h is =
    let same : below ≡ nodes = some_same below nodes is in
    record {
      root = e;
      elements_are = h.elements_are ∙ ap (λ z. e ∷ z) (append-nil (flat below)) ∙ ap (λ (n : Nodes). e ∷ flat n) same;
      counts = subst (λ (n : Nodes). (node_count e.children ≡ count n) × (0 < count n) × AreCounted n) same (h.counted.0.0, h.counted.0.1, h.counted.0.2);
    }
  where
    some_same : (a b : Nodes) → Some a ≡ Some b → a ≡ b
    some_same a b e = cc
rooted_by elements None nodes h is = absurd (cc)
rooted_by elements (Some no_nodes) nodes h is = absurd (cc)
rooted_by elements (Some (node (leaf_node e) more)) nodes h is = absurd (cc)
rooted_by elements (Some (node (group_node e below) (node n more))) nodes h is = absurd (cc)

pub rooted : (elements : List SchemaElement) (nodes : Nodes) → schema_of elements ≡ Some nodes → IsRooted elements nodes
unfolding schema_of
rooted elements nodes is = rooted_by elements (forest_of elements) nodes (listed elements) is
