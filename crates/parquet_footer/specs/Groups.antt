-- The groups of rows, as a file's schema and bytes allow them (Apache Parquet, structs RowGroup and ColumnChunk).
use Rattle.std.specs.Prelude.{ℕ, ℤ, pos, ◌+ℤ◌, int_lt, nat_le, bytes_eq, Bool, true, false, not, ◌&&◌, ◌||◌, if◌then◌else◌, List, [], ◌∷◌, Option, None, Some}
use Rattle.std.specs.List.{list_any, list_all, filter}
use Rattle.std.specs.Ordering.{int_eq}
use Rattle.parquet_metadata.specs.declared.chunk.ColumnChunk.{ColumnChunk}
use Rattle.parquet_metadata.specs.declared.chunk.ColumnMetaData.{ColumnMetaData}
use Rattle.parquet_metadata.specs.declared.group.RowGroup.{RowGroup}
use Rattle.parquet_footer.specs.Numbers.{natural, is_negative}
use Rattle.parquet_footer.specs.Schema.{Leaf}

abbrev pub is_negative_there : Option ℤ → Bool
is_negative_there None = false
is_negative_there (Some z) = is_negative z

-- a number of a chunk is negative; the count of its nulls is none of them
abbrev pub size_negative : ColumnMetaData → Bool
size_negative m =
    is_negative m.values
    || (is_negative m.uncompressed
    || (is_negative m.compressed
    || (is_negative m.data_page || is_negative_there m.dictionary_page)))

abbrev pub meta_negative : ColumnMetaData → Bool
meta_negative m =
    is_negative m.physical
    || (is_negative m.codec || (size_negative m || list_any is_negative m.encodings))

abbrev pub chunk_negative : ColumnChunk → Bool
chunk_negative c = is_negative c.offset || meta_negative c.meta

abbrev pub group_negative : RowGroup → Bool
group_negative g =
    is_negative g.total || (is_negative g.rows || list_any chunk_negative g.columns)

-- where a chunk's first page stands: the dictionary page's place, where one is told that is above 0 and below
-- the data page's, and else the data page's
abbrev pub first_page : Option ℤ → ℤ → ℤ
first_page None data_page = data_page
first_page (Some dictionary) data_page =
    if int_lt (pos 0) dictionary && int_lt dictionary data_page then dictionary else data_page

abbrev pub chunk_start : ColumnChunk → ℤ
chunk_start c = first_page c.meta.dictionary_page c.meta.data_page

-- a chunk is a leaf's, by its path and its type
abbrev pub same_path : List (List ℕ) → List (List ℕ) → Bool
same_path [] [] = true
same_path (a ∷ names) (b ∷ path) = bytes_eq a b && same_path names path
same_path _ _ = false

abbrev pub same_type : ℤ → Option ℤ → Bool
same_type physical None = false
same_type physical (Some type) = int_eq physical type

abbrev pub is_leaf : ColumnChunk → Leaf → Bool
is_leaf c l = same_path c.meta.path l.path && same_type c.meta.physical l.element.physical

-- the chunks are those of the leaves, in order
abbrev pub are_leaves : List ColumnChunk → List Leaf → Bool
are_leaves [] [] = true
are_leaves (c ∷ chunks) (l ∷ leaves) = is_leaf c l && are_leaves chunks leaves
are_leaves _ _ = false

-- a chunk's bytes, from its first page for its compressed size, lie between byte 4 and the footer
abbrev pub is_inside : ℕ → ColumnChunk → Bool
is_inside footer c =
    not (int_lt (chunk_start c) (pos 4))
    && not (int_lt (pos footer) (chunk_start c +ℤ c.meta.compressed))

-- a group has no negative number, and its chunks are the leaves' and inside
abbrev pub is_placed : ℕ → List Leaf → RowGroup → Bool
is_placed footer leaves g =
    not (group_negative g)
    && (are_leaves g.columns leaves && list_all (is_inside footer) g.columns)

-- the groups of at least one row
abbrev pub has_rows : RowGroup → Bool
has_rows g = int_lt (pos 0) g.rows

abbrev pub kept : List RowGroup → List RowGroup
kept groups = filter has_rows groups

-- a group starts where its first chunk does
abbrev pub first_start : List ColumnChunk → ℤ
first_start [] = pos 0
first_start (c ∷ chunks) = chunk_start c

abbrev pub group_start : RowGroup → ℕ
group_start g = natural (first_start g.columns)

-- no place is before this one, nor before the one that it follows
abbrev pub rises : ℕ → List ℕ → Bool
rises least [] = true
rises least (a ∷ places) = nat_le least a && rises a places
