-- What the checks of the groups give of each footer.
use Rattle.std.proofs.Common.{◌≡◌, ◌≤◌, ◌<◌, ◌+◌, ℕ, zero, suc, ℤ, pos, negsuc, ◌+ℤ◌, int_lt, Bool, true, false, nat_le, not, if◌then◌else◌, List, [], ◌∷◌, map, length, Option, None, Some, refl, ap, arith}
use Rattle.std.specs.List.{list_all, list_any, slice_get}
use Rattle.std.proofs.lemmas.Bool.{and_parts, or_parts, not-true, leb-true, ltb-false, ltb-true}
use Rattle.parquet_metadata.specs.declared.chunk.ColumnChunk.{ColumnChunk}
use Rattle.parquet_metadata.specs.declared.group.RowGroup.{RowGroup}
use Rattle.parquet_metadata.specs.declared.element.SchemaElement.{SchemaElement}
use Rattle.parquet_metadata.specs.declared.metadata.ColumnOrder.{ColumnOrder}
use Rattle.parquet_metadata.specs.declared.metadata.FileMetaData.{FileMetaData}
use Rattle.parquet_footer.specs.declared.column.Column.{Column}
use Rattle.parquet_footer.specs.declared.group.Chunk.{Chunk}
use Rattle.parquet_footer.specs.declared.group.Group.{Group}
use Rattle.parquet_footer.specs.Numbers.{natural, is_negative}
use Rattle.parquet_footer.specs.Schema.{Leaf}
use Rattle.parquet_footer.specs.Groups.{chunk_start, chunk_negative, meta_negative, size_negative, group_negative, are_leaves, is_inside, is_placed, has_rows, kept, group_start, rises}
use Rattle.parquet_footer.specs.Columns.{is_ordered, told_chunk, chunk_at, group_of}
use Rattle.parquet_footer.specs.Footers.{are_in_order, group_or_none, chunk_or_none}
use Rattle.parquet_footer.specs.FooterSound.{IsSound}
use Rattle.parquet_footer.specs.Walks.{leaves_by, columns_by, leaf_number, walked_footer}

-- ---- a chunk lies before the footer

ends_before : (start bytes : ℤ) (footer : ℕ) → int_lt bytes (pos 0) ≡ false → int_lt start (pos 4) ≡ false → int_lt (pos footer) (start +ℤ bytes) ≡ false → natural start + natural bytes ≤ footer
ends_before (pos a) (pos b) footer p s e = ltb-false footer (a + b) e
ends_before (pos a) (negsuc b) footer p s e = absurd (cc)
ends_before (negsuc a) b footer p s e = absurd (cc)

pub record IsGood (footer : ℕ) (c : ColumnChunk) : Type 0 where
  pub positive : chunk_negative c ≡ false
  pub inside : is_inside footer c ≡ true

good_ends : (footer : ℕ) (c : ColumnChunk) → IsGood footer c → natural (chunk_start c) + natural c.meta.compressed ≤ footer
good_ends footer c g =
    let parts = and_parts (not (int_lt (chunk_start c) (pos 4))) (not (int_lt (pos footer) (chunk_start c +ℤ c.meta.compressed))) g.inside in
    let meta = (or_parts (is_negative c.offset) (meta_negative c.meta) g.positive).1 in
    let codec = (or_parts (is_negative c.meta.physical) _ meta).1 in
    let size = (or_parts (is_negative c.meta.codec) _ codec).1 in
    let sizes = (or_parts (size_negative c.meta) _ size).0 in
    let uncompressed = (or_parts (is_negative c.meta.values) _ sizes).1 in
    let compressed = (or_parts (is_negative c.meta.uncompressed) _ uncompressed).1 in
    ends_before (chunk_start c) c.meta.compressed footer (or_parts (is_negative c.meta.compressed) _ compressed).0 (not-true _ parts.0) (not-true _ parts.1)

-- what is told of a chunk that may be there
abbrev IsGoodThere : ℕ → Option ColumnChunk → Type 0
IsGoodThere footer None = Unit {0}
IsGoodThere footer (Some c) = IsGood footer c

good_at : (footer : ℕ) (chunks : List ColumnChunk) (k : ℕ) → list_any chunk_negative chunks ≡ false → list_all (is_inside footer) chunks ≡ true → IsGoodThere footer (slice_get chunks k)
good_at footer [] k p i = tt
good_at footer (c ∷ chunks) zero p i =
    record {
      positive = (or_parts (chunk_negative c) _ p).0;
      inside = (and_parts (is_inside footer c) _ i).0;
    }
good_at footer (c ∷ chunks) (suc k) p i =
    good_at footer chunks k (or_parts (chunk_negative c) _ p).1 (and_parts (is_inside footer c) _ i).1

abbrev Ends : ℕ → Chunk → Type 0
Ends size c = c.start + c.bytes ≤ size

told_ends : (footer size : ℕ) (ordered : Bool) (c : Option ColumnChunk) → footer ≤ size → IsGoodThere footer c → Ends size (told_chunk ordered c)
told_ends footer size ordered None within g = omega arith
told_ends footer size ordered (Some c) within g =
    let e = good_ends footer c g in
    omega (arith, e)

chunk_ends : (footer size : ℕ) (orders : Option (List ColumnOrder)) (leaves : ℕ) (chunks : List ColumnChunk) (leaf : Option ℕ) → footer ≤ size → list_any chunk_negative chunks ≡ false → list_all (is_inside footer) chunks ≡ true → Ends size (chunk_at orders leaves chunks leaf)
chunk_ends footer size orders leaves chunks None within p i = omega arith
chunk_ends footer size orders leaves chunks (Some leaf) within p i =
    told_ends footer size (is_ordered orders leaves leaf) (slice_get chunks leaf) within (good_at footer chunks leaf p i)

chunks_end : (footer size : ℕ) (orders : Option (List ColumnOrder)) (leaves : ℕ) (chunks : List ColumnChunk) (columns : List Column) (column : ℕ) → footer ≤ size → list_any chunk_negative chunks ≡ false → list_all (is_inside footer) chunks ≡ true → Ends size (chunk_or_none (slice_get (map (λ (column : Column). chunk_at orders leaves chunks column.leaf) columns) column))
chunks_end footer size orders leaves chunks [] column within p i = omega arith
chunks_end footer size orders leaves chunks (c ∷ columns) zero within p i =
    chunk_ends footer size orders leaves chunks c.leaf within p i
chunks_end footer size orders leaves chunks (c ∷ columns) (suc column) within p i =
    chunks_end footer size orders leaves chunks columns column within p i

-- ---- the groups

-- the k-th of some groups of at least one row
abbrev nth : List Column → Option (List ColumnOrder) → ℕ → List RowGroup → ℕ → Group
nth columns orders leaves groups k =
    group_or_none (slice_get (map (group_of columns orders leaves) groups) k)

placed_positive : (footer : ℕ) (leaves : List Leaf) (g : RowGroup) → is_placed footer leaves g ≡ true → list_any chunk_negative g.columns ≡ false
placed_positive footer leaves g placed =
    let positive = not-true (group_negative g) (and_parts (not (group_negative g)) _ placed).0 in
    (or_parts (is_negative g.rows) _ (or_parts (is_negative g.total) _ positive).1).1

placed_inside : (footer : ℕ) (leaves : List Leaf) (g : RowGroup) → is_placed footer leaves g ≡ true → list_all (is_inside footer) g.columns ≡ true
placed_inside footer leaves g placed =
    (and_parts (are_leaves g.columns leaves) _ (and_parts (not (group_negative g)) _ placed).1).1

kept_placed : (footer : ℕ) (leaves : List Leaf) (groups : List RowGroup) → list_all (is_placed footer leaves) groups ≡ true → list_all (is_placed footer leaves) (kept groups) ≡ true
kept_placed footer leaves [] h = refl
kept_placed footer leaves (g ∷ groups) h =
    let parts = and_parts (is_placed footer leaves g) (list_all (is_placed footer leaves) groups) h in
    by_rows (has_rows g) parts.0 (kept_placed footer leaves groups parts.1)
  where
    by_rows : (r : Bool) → is_placed footer leaves g ≡ true → list_all (is_placed footer leaves) (kept groups) ≡ true → list_all (is_placed footer leaves) (if r then g ∷ kept groups else kept groups) ≡ true
    by_rows true here rest = rw (here, rest) refl
    by_rows false here rest = rest

inside_nth : (footer size : ℕ) (walked : List Leaf) (columns : List Column) (orders : Option (List ColumnOrder)) (leaves : ℕ) (groups : List RowGroup) (k column : ℕ) → footer ≤ size → list_all (is_placed footer walked) groups ≡ true → Ends size (chunk_or_none (slice_get (nth columns orders leaves groups k).chunks column))
inside_nth footer size walked columns orders leaves [] k column within h = omega arith
inside_nth footer size walked columns orders leaves (g ∷ groups) zero column within h =
    let placed = (and_parts (is_placed footer walked g) _ h).0 in
    chunks_end footer size orders leaves g.columns columns column within (placed_positive footer walked g placed) (placed_inside footer walked g placed)
inside_nth footer size walked columns orders leaves (g ∷ groups) (suc k) column within h =
    inside_nth footer size walked columns orders leaves groups k column within (and_parts (is_placed footer walked g) _ h).1

map_length : (f : Column → Chunk) (columns : List Column) → length (map f columns) ≡ length columns
map_length f [] = refl
map_length f (c ∷ columns) = ap suc (map_length f columns)

chunks_nth : (columns : List Column) (orders : Option (List ColumnOrder)) (leaves : ℕ) (groups : List RowGroup) (k : ℕ) → k < length (map (group_of columns orders leaves) groups) → length (nth columns orders leaves groups k).chunks ≡ length columns
chunks_nth columns orders leaves [] k h = absurd (omega arith)
chunks_nth columns orders leaves (g ∷ groups) zero h = map_length _ columns
chunks_nth columns orders leaves (g ∷ groups) (suc k) h =
    chunks_nth columns orders leaves groups k (omega arith)

-- each kept group has a row
some_rows : (z : ℤ) → int_lt (pos 0) z ≡ true → 0 < natural z
some_rows (pos n) h = ltb-true 0 n h
some_rows (negsuc n) h = absurd (cc)

kept_rows : (groups : List RowGroup) → list_all has_rows (kept groups) ≡ true
kept_rows [] = refl
kept_rows (g ∷ groups) = by_rows (has_rows g) refl (kept_rows groups)
  where
    by_rows : (r : Bool) → has_rows g ≡ r → list_all has_rows (kept groups) ≡ true → list_all has_rows (if r then g ∷ kept groups else kept groups) ≡ true
    by_rows true here rest = rw (here, rest) refl
    by_rows false here rest = rest

rows_nth : (columns : List Column) (orders : Option (List ColumnOrder)) (leaves : ℕ) (groups : List RowGroup) (k : ℕ) → list_all has_rows groups ≡ true → k < length (map (group_of columns orders leaves) groups) → 0 < (nth columns orders leaves groups k).rows
rows_nth columns orders leaves [] k r h = absurd (omega arith)
rows_nth columns orders leaves (g ∷ groups) zero r h = some_rows g.rows (and_parts (has_rows g) _ r).0
rows_nth columns orders leaves (g ∷ groups) (suc k) r h =
    rows_nth columns orders leaves groups k (and_parts (has_rows g) _ r).1 (omega arith)

-- the starts never fall
above : (columns : List Column) (orders : Option (List ColumnOrder)) (leaves least : ℕ) (groups : List RowGroup) (k : ℕ) → rises least (map group_start groups) ≡ true → k < length (map (group_of columns orders leaves) groups) → least ≤ (nth columns orders leaves groups k).start
above columns orders leaves least [] k r h = absurd (omega arith)
above columns orders leaves least (g ∷ groups) zero r h =
    leb-true least (group_start g) (and_parts (nat_le least (group_start g)) _ r).0
above columns orders leaves least (g ∷ groups) (suc k) r h =
    let here = leb-true least (group_start g) (and_parts (nat_le least (group_start g)) _ r).0 in
    let there = above columns orders leaves (group_start g) groups k (and_parts (nat_le least (group_start g)) _ r).1 (omega arith) in
    omega (arith, here, there)

order_nth : (columns : List Column) (orders : Option (List ColumnOrder)) (leaves least : ℕ) (groups : List RowGroup) (j k : ℕ) → rises least (map group_start groups) ≡ true → j ≤ k → k < length (map (group_of columns orders leaves) groups) → (nth columns orders leaves groups j).start ≤ (nth columns orders leaves groups k).start
order_nth columns orders leaves least [] j k r b h = absurd (omega arith)
order_nth columns orders leaves least (g ∷ groups) zero zero r b h = omega arith
order_nth columns orders leaves least (g ∷ groups) (suc j) zero r b h = absurd (omega arith)
order_nth columns orders leaves least (g ∷ groups) zero (suc k) r b h =
    above columns orders leaves (group_start g) groups k (and_parts (nat_le least (group_start g)) _ r).1 (omega arith)
order_nth columns orders leaves least (g ∷ groups) (suc j) (suc k) r b h =
    order_nth columns orders leaves (group_start g) groups j k (and_parts (nat_le least (group_start g)) _ r).1 (omega arith) (omega arith)

pub footer_sound : (size footer : ℕ) (below : List SchemaElement) (m : FileMetaData) → footer ≤ size → list_all (is_placed footer (leaves_by [] below)) m.groups ≡ true → are_in_order m ≡ true → IsSound (walked_footer size below m)
footer_sound size footer below m within placed order =
    let columns : List Column = columns_by m.groups 0 0 below in
    record {
      order = λ j k b h. order_nth columns m.orders (leaf_number below) 0 (kept m.groups) j k order b h;
      rows = λ k h. rows_nth columns m.orders (leaf_number below) (kept m.groups) k (kept_rows m.groups) h;
      chunks = λ k h. chunks_nth columns m.orders (leaf_number below) (kept m.groups) k h;
      inside = λ k column. inside_nth footer size (leaves_by [] below) columns m.orders (leaf_number below) (kept m.groups) k column within (kept_placed footer (leaves_by [] below) m.groups placed);
    }
