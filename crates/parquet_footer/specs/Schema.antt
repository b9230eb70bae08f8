-- The schema as a tree (Apache Parquet, "Metadata"; struct SchemaElement): a file lists its elements depth first,
-- each group before its children, of which it tells the number. An element whose number of children is above 0 is
-- a group, and any other is a leaf.
use Rattle.std.specs.Prelude.{◌≡◌, ◌<◌, ℕ, zero, suc, ℤ, ◌+◌, nat_lt, Bool, true, false, not, ◌&&◌, ◌||◌, is_some, if◌then◌else◌, List, [], ◌∷◌, ◌++◌, Option, None, Some}
use Rattle.std.specs.List.{list_all}
use Rattle.std.specs.Str.{is_utf8}
use Rattle.parquet_metadata.specs.declared.element.SchemaElement.{SchemaElement}
use Rattle.parquet_footer.specs.Numbers.{natural, is_negative}

mutual
  pub data Node : Type 0 where
    leaf_node : SchemaElement → Node
    group_node : SchemaElement → Nodes → Node

  pub data Nodes : Type 0 where
    no_nodes : Nodes
    node : Node → Nodes → Nodes

-- the number of an element's children, which a leaf has not
abbrev pub node_count : Option ℤ → ℕ
node_count None = 0
node_count (Some z) = natural z

abbrev pub is_group : SchemaElement → Bool
is_group e = nat_lt 0 (node_count e.children)

abbrev pub is_negative_count : Option ℤ → Bool
is_negative_count None = false
is_negative_count (Some z) = is_negative z

-- an element's name is a text, its number of children isn't negative, and a leaf has a type
unfoldable pub is_whole : SchemaElement → Bool
is_whole e =
    is_utf8 e.name && (not (is_negative_count e.children) && (is_group e || is_some e.physical))

-- the first so many nodes, and those behind them
abbrev pub behind_first : Node → Option (Nodes × Nodes) → Option (Nodes × Nodes)
behind_first n None = None
behind_first n (Some parts) = Some (node n parts.0, parts.1)

abbrev pub parted : ℕ → Nodes → Option (Nodes × Nodes)
parted zero nodes = Some (no_nodes, nodes)
parted (suc n) no_nodes = None
parted (suc n) (node m nodes) = behind_first m (parted n nodes)

-- A group takes its children off the nodes that stand behind it, and stands before the others. A leaf takes none.
abbrev pub with_children : SchemaElement → Option (Nodes × Nodes) → Option Nodes
with_children e None = None
with_children e (Some parts) = Some (node (group_node e parts.0) parts.1)

abbrev pub before_nodes : SchemaElement → Option Nodes → Option Nodes
before_nodes e None = None
before_nodes e (Some nodes) =
    if is_group e then with_children e (parted (node_count e.children) nodes)
    else Some (node (leaf_node e) nodes)

-- the trees that whole elements list, read from the last element to the first
unfoldable pub forest_of : List SchemaElement → Option Nodes
forest_of [] = Some no_nodes
forest_of (e ∷ elements) = if is_whole e then before_nodes e (forest_of elements) else None

-- the nodes below the root, where the elements are one tree whose root is a group
abbrev pub below_root : Option Nodes → Option Nodes
below_root (Some (node (group_node e nodes) no_nodes)) = Some nodes
below_root _ = None

unfoldable pub schema_of : List SchemaElement → Option Nodes
schema_of elements = below_root (forest_of elements)

-- a leaf, and the names from below the root to it
pub record Leaf : Type 0 where
  pub path : List (List ℕ)
  pub element : SchemaElement

-- the leaves in order, of nodes that stand under these names
abbrev mutual
  pub leaves_in : List (List ℕ) → Node → List Leaf
  leaves_in path (leaf_node e) = record { path = path ++ e.name ∷ []; element = e } ∷ []
  leaves_in path (group_node e nodes) = leaves_under (path ++ e.name ∷ []) nodes

  pub leaves_under : List (List ℕ) → Nodes → List Leaf
  leaves_under path no_nodes = []
  leaves_under path (node n nodes) = leaves_in path n ++ leaves_under path nodes

-- how many leaves there are
abbrev mutual
  pub leaf_count_in : Node → ℕ
  leaf_count_in (leaf_node e) = 1
  leaf_count_in (group_node e nodes) = leaf_count nodes

  pub leaf_count : Nodes → ℕ
  leaf_count no_nodes = 0
  leaf_count (node n nodes) = leaf_count_in n + leaf_count nodes

-- how many nodes stand beside one another
abbrev pub count : Nodes → ℕ
count no_nodes = 0
count (node n nodes) = count nodes + 1

-- the elements of nodes, depth first
abbrev mutual
  pub flat_node : Node → List SchemaElement
  flat_node (leaf_node e) = e ∷ []
  flat_node (group_node e nodes) = e ∷ flat nodes

  pub flat : Nodes → List SchemaElement
  flat no_nodes = []
  flat (node n nodes) = flat_node n ++ flat nodes

-- the elements tell the numbers of children that the tree has
abbrev mutual
  pub IsCounted : Node → Type 0
  IsCounted (leaf_node e) = node_count e.children ≡ 0
  IsCounted (group_node e nodes) =
      (node_count e.children ≡ count nodes) × (0 < count nodes) × AreCounted nodes

  pub AreCounted : Nodes → Type 0
  AreCounted no_nodes = Unit {0}
  AreCounted (node n nodes) = IsCounted n × AreCounted nodes

-- The elements are one tree whose root is a group, with these nodes below the root: they list it depth first, each of
-- them is whole, and each tells the number of its children.
pub record IsSchema (elements : List SchemaElement) (nodes : Nodes) : Type 0 where
  pub root : SchemaElement
  pub elements_are : elements ≡ root ∷ flat nodes
  pub whole : list_all is_whole elements ≡ true
  pub some : 0 < count nodes
  pub root_counts : node_count root.children ≡ count nodes
  pub counted : AreCounted nodes
