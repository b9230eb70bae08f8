-- What a stored file's footer tells of its columns and groups of rows, or the first check that the file fails: those
-- of its metadata, then the schema, the groups' places, and their order.
use Rattle.std.specs.Prelude.{◌≡◌, ℕ, Bool, not, if◌then◌else◌, List, [], length, map, Option, None, Some, Result, Ok, Err}
use Rattle.std.specs.List.{list_all, slice_get}
use Rattle.thrift_compact.specs.Trees.{FieldList}
use Rattle.parquet_metadata.specs.declared.faults.FooterError.{FooterError}
use Rattle.parquet_metadata.specs.declared.faults.FooterError.TheVariants.{Failed, OutOfMemory, BadSchema, BadPlaces, GroupsOutOfOrder}
use Rattle.parquet_metadata.specs.declared.metadata.FileMetaData.{FileMetaData}
use Rattle.parquet_metadata.specs.declared.file.PlacedMetadata.{PlacedMetadata}
use Rattle.parquet_metadata.specs.Layout.{located}
use Rattle.parquet_metadata.specs.Files.{IsTreeOf, file_of}
use Rattle.parquet_footer.specs.declared.column.Column.{Column}
use Rattle.parquet_footer.specs.declared.group.Chunk.{Chunk}
use Rattle.parquet_footer.specs.declared.group.Group.{Group}
use Rattle.parquet_footer.specs.Schema.{Nodes, schema_of, leaves_under, leaf_count}
use Rattle.parquet_footer.specs.Groups.{is_placed, kept, group_start, rises}
use Rattle.parquet_footer.specs.Columns.{columns_of, groups_of, no_chunk}

-- the size of the file, its columns, and its groups of at least one row
pub record FooterView : Type 0 where
  pub size : ℕ
  pub columns : List Column
  pub groups : List Group

abbrev pub footer_of : ℕ → Nodes → FileMetaData → FooterView
footer_of size nodes m =
    let columns = columns_of m.groups 0 nodes in
    record { size = size; columns = columns; groups = groups_of columns m.orders (leaf_count nodes) m.groups }

-- all groups stand between byte 4 and the footer at this place, as the schema has them
abbrev pub are_placed : ℕ → Nodes → FileMetaData → Bool
are_placed place nodes m = list_all (is_placed place (leaves_under [] nodes)) m.groups

-- the groups of at least one row start in the order in which they stand
abbrev pub are_in_order : FileMetaData → Bool
are_in_order m = rises 0 (map group_start (kept m.groups))

abbrev pub by_schema : ℕ → ℕ → FileMetaData → Option Nodes → Result FooterView FooterError
by_schema size place m None = Err BadSchema
by_schema size place m (Some nodes) =
    if not (are_placed place nodes m) then Err BadPlaces
    else if not (are_in_order m) then Err GroupsOutOfOrder
    else Ok (footer_of size nodes m)

-- the footer of a file of this size, with this metadata at this place
unfoldable pub checked : ℕ → PlacedMetadata → Result FooterView FooterError
checked size file =
    by_schema size file.place file.metadata (schema_of file.metadata.schema)

abbrev pub checked_after : ℕ → Result PlacedMetadata FooterError → Result FooterView FooterError
checked_after size (Ok file) = checked size file
checked_after size (Err e) = Err e

-- the footer of a file whose footer's bytes have these fields
unfoldable pub footer_in : List ℕ → FieldList → Result FooterView FooterError
footer_in object fields = checked_after (length object) (file_of object fields)

-- The footer of a file, or the first check that the file fails. Each list of bytes has one.
pub record IsFooterOf (object : List ℕ) (footer : Result FooterView FooterError) : Type 0 where
  pub fields : FieldList
  pub tree : IsTreeOf (located object) fields
  pub is : footer_in object fields ≡ footer

pub record HasFooter (object : List ℕ) : Type 0 where
  pub footer : Result FooterView FooterError
  pub is : IsFooterOf object footer

-- what reading it answers. A call that fails and want of memory may come at any time
abbrev pub GivesFooter : Result FooterView FooterError → Result FooterView FooterError → Type 0
GivesFooter footer (Ok given) = footer ≡ Ok given
GivesFooter footer (Err Failed) = Unit {0}
GivesFooter footer (Err OutOfMemory) = Unit {0}
GivesFooter footer (Err e) = footer ≡ Err e

-- no read of the file failed
abbrev pub IsOfFile : FooterError → Type 0
IsOfFile Failed = ⊥
IsOfFile _ = Unit {0}

-- what stands at a number: the k-th group, and its chunk of a column
abbrev pub no_group : Group
no_group = record { rows = 0; start = 0; chunks = [] }

abbrev pub group_or_none : Option Group → Group
group_or_none None = no_group
group_or_none (Some g) = g

abbrev pub group_at : FooterView → ℕ → Group
group_at f k = group_or_none (slice_get f.groups k)

abbrev pub chunk_or_none : Option Chunk → Chunk
chunk_or_none None = no_chunk
chunk_or_none (Some c) = c

abbrev pub chunk_in : FooterView → ℕ → ℕ → Chunk
chunk_in f k column = chunk_or_none (slice_get (group_at f k).chunks column)
