-- The columns of a file, one for each child of the schema's root, and their chunks in the groups of at least one
-- row. A column that is a group has no chunk of its own, and can't be read.
use Rattle.std.specs.Prelude.{ℕ, ◌+◌, ℤ, pos, nat_eq, Bool, true, false, not, ◌&&◌, if◌then◌else◌, List, [], ◌∷◌, length, map, Option, None, Some}
use Rattle.std.specs.List.{list_any, slice_get}
use Rattle.std.specs.Ordering.{int_eq}
use Rattle.parquet_metadata.specs.declared.element.SchemaElement.{SchemaElement}
use Rattle.parquet_metadata.specs.declared.chunk.ColumnChunk.{ColumnChunk}
use Rattle.parquet_metadata.specs.declared.statistics.Statistics.{Statistics}
use Rattle.parquet_metadata.specs.declared.group.RowGroup.{RowGroup}
use Rattle.parquet_metadata.specs.declared.metadata.ColumnOrder.{ColumnOrder}
use Rattle.parquet_metadata.specs.declared.kind.ColumnKind.{ColumnKind}
use Rattle.parquet_metadata.specs.declared.kind.ColumnKind.TheVariants.{Unsupported}
use Rattle.parquet_metadata.specs.Kinds.{kind_of_element}
use Rattle.parquet_footer.specs.declared.column.Column.{Column}
use Rattle.parquet_footer.specs.declared.group.Chunk.{Chunk}
use Rattle.parquet_footer.specs.declared.group.Group.{Group}
use Rattle.parquet_footer.specs.Numbers.{natural}
use Rattle.parquet_footer.specs.Schema.{Nodes, leaf_node, group_node, no_nodes, node, leaf_count}
use Rattle.parquet_footer.specs.Groups.{has_rows, kept, chunk_start, group_start}

-- a column is OPTIONAL (1)
abbrev pub is_optional : Option ℤ → Bool
is_optional None = false
is_optional (Some r) = int_eq r (pos 1)

-- a chunk lies in another file, or has another codec than UNCOMPRESSED (0)
abbrev pub is_external : Option ColumnChunk → Bool
is_external None = false
is_external (Some c) = c.external

abbrev pub is_packed : Option ColumnChunk → Bool
is_packed None = false
is_packed (Some c) = not (int_eq c.meta.codec (pos 0))

-- the chunks of this leaf in some group of at least one row are so
abbrev pub in_some_group : (Option ColumnChunk → Bool) → List RowGroup → ℕ → Bool
in_some_group test groups leaf =
    list_any (λ g. has_rows g && test (slice_get g.columns leaf)) groups

-- the column of a leaf, and the column of a group
abbrev pub leaf_column : List RowGroup → ℕ → SchemaElement → Column
leaf_column groups leaf e = record {
  name = e.name;
  kind = if in_some_group is_external groups leaf then Unsupported else kind_of_element e;
  optional = is_optional e.repetition;
  compressed = in_some_group is_packed groups leaf;
  leaf = Some leaf;
}

abbrev pub group_column : SchemaElement → Column
group_column e = record {
  name = e.name;
  kind = Unsupported;
  optional = is_optional e.repetition;
  compressed = false;
  leaf = None;
}

-- a column can be read: its type is one of those that can, and no page of it is compressed
abbrev pub is_supported : ColumnKind → Bool
is_supported Unsupported = false
is_supported _ = true

abbrev pub is_readable : Column → Bool
is_readable column = is_supported column.kind && not column.compressed

-- the columns of nodes that stand behind so many leaves
abbrev pub columns_of : List RowGroup → ℕ → Nodes → List Column
columns_of groups before no_nodes = []
columns_of groups before (node (leaf_node e) nodes) =
    leaf_column groups before e ∷ columns_of groups (before + 1) nodes
columns_of groups before (node (group_node e children) nodes) =
    group_column e ∷ columns_of groups (before + leaf_count children) nodes

-- the order of a leaf's values is told: of as many orders as there are leaves, the leaf's is by its type
abbrev pub is_by_type : Option ColumnOrder → Bool
is_by_type None = false
is_by_type (Some order) = order.by_type

abbrev pub is_ordered : Option (List ColumnOrder) → ℕ → ℕ → Bool
is_ordered None leaves leaf = false
is_ordered (Some orders) leaves leaf =
    nat_eq (length orders) leaves && is_by_type (slice_get orders leaf)

-- what is told of the values of a chunk; bounds count only where the order of the values is told
abbrev pub natural_there : Option ℤ → Option ℕ
natural_there None = None
natural_there (Some z) = Some (natural z)

abbrev pub null_count : Option Statistics → Option ℕ
null_count None = None
null_count (Some s) = natural_there s.nulls

abbrev pub least_of : Bool → Option Statistics → Option (List ℕ)
least_of ordered None = None
least_of ordered (Some s) = if ordered then s.least else None

abbrev pub most_of : Bool → Option Statistics → Option (List ℕ)
most_of ordered None = None
most_of ordered (Some s) = if ordered then s.most else None

-- a column's chunk in a group; a column that is a group has none
abbrev pub no_chunk : Chunk
no_chunk = record { start = 0; bytes = 0; nulls = None; least = None; most = None }

abbrev pub told_chunk : Bool → Option ColumnChunk → Chunk
told_chunk ordered None = no_chunk
told_chunk ordered (Some c) = record {
  start = natural (chunk_start c);
  bytes = natural c.meta.compressed;
  nulls = null_count c.meta.statistics;
  least = least_of ordered c.meta.statistics;
  most = most_of ordered c.meta.statistics;
}

abbrev pub chunk_at : Option (List ColumnOrder) → ℕ → List ColumnChunk → Option ℕ → Chunk
chunk_at orders leaves chunks None = no_chunk
chunk_at orders leaves chunks (Some leaf) =
    told_chunk (is_ordered orders leaves leaf) (slice_get chunks leaf)

-- a group, and the groups of at least one row
abbrev pub group_of : List Column → Option (List ColumnOrder) → ℕ → RowGroup → Group
group_of columns orders leaves g = record {
  rows = natural g.rows;
  start = group_start g;
  chunks = map (λ (column : Column). chunk_at orders leaves g.columns column.leaf) columns;
}

abbrev pub groups_of : List Column → Option (List ColumnOrder) → ℕ → List RowGroup → List Group
groups_of columns orders leaves groups = map (group_of columns orders leaves) (kept groups)
