-- The chunks of a group of rows (Apache Parquet). ColumnMetaData: 1 type, 2 encodings, 3 path_in_schema,
-- 4 codec, 5 num_values, 6 total_uncompressed_size, 7 total_compressed_size, 9 data_page_offset,
-- 11 dictionary_page_offset, 12 statistics, of which the last two may be missing. ColumnChunk: 1 file_path, which
-- may be missing, 2 file_offset, 3 meta_data. RowGroup: 1 columns, 2 total_byte_size, 3 num_rows.
use Rattle.std.specs.Prelude.{ℕ, ℤ, pos, Bool, true, false, if◌then◌else◌, List, None, Some, Ok}
use Rattle.std.specs.Ordering.{int_eq}
use Rattle.thrift_compact.specs.declared.kinds.Kind.{Kind}
use Rattle.thrift_compact.specs.declared.kinds.Kind.TheVariants as kind
use Rattle.thrift_compact.specs.Trees.{Datum, number_in, bytes_in}
use Rattle.parquet_metadata.specs.declared.chunk.MetaSlots.{MetaSlots}
use Rattle.parquet_metadata.specs.declared.chunk.ColumnMetaData.{ColumnMetaData}
use Rattle.parquet_metadata.specs.declared.chunk.ChunkSlots.{ChunkSlots}
use Rattle.parquet_metadata.specs.declared.chunk.ColumnChunk.{ColumnChunk}
use Rattle.parquet_metadata.specs.declared.group.GroupSlots.{GroupSlots}
use Rattle.parquet_metadata.specs.declared.group.RowGroup.{RowGroup}
use Rattle.parquet_metadata.specs.Reads.{Read, at_place, unchanged, with_number, with_passed, with_value, struct_of, required, or_before}
use Rattle.parquet_metadata.specs.Members.{list_of, is_int, is_binary, is_struct}
use Rattle.parquet_metadata.specs.ChunkStatistics.{statistics_of}

-- a member that is a number, and one that is a byte list
abbrev pub number_member : Bool → Datum → Read ℤ
number_member first d = at_place (number_in d)

abbrev pub bytes_member : Bool → Datum → Read (List ℕ)
bytes_member first d = at_place (bytes_in d)

abbrev pub no_meta : MetaSlots
no_meta = record {
  physical = None;
  encodings = None;
  path = None;
  codec = None;
  values = None;
  uncompressed = None;
  compressed = None;
  data_page = None;
  dictionary_page = None;
  statistics = None;
}

-- with a number of 64 bits
abbrev pub put_meta_number : MetaSlots → ℤ → Datum → Read MetaSlots
put_meta_number s number d =
    if int_eq number (pos 5) then with_number d (λ z. record s { values = Some z })
    else if int_eq number (pos 6) then with_number d (λ z. record s { uncompressed = Some z })
    else if int_eq number (pos 7) then with_number d (λ z. record s { compressed = Some z })
    else if int_eq number (pos 9) then with_number d (λ z. record s { data_page = Some z })
    else if int_eq number (pos 11) then with_number d (λ z. record s { dictionary_page = Some z })
    else unchanged s d

abbrev pub put_meta : MetaSlots → ℤ → Kind → Datum → Read MetaSlots
put_meta s number kind.I32 d =
    if int_eq number (pos 1) then with_number d (λ z. record s { physical = Some z })
    else if int_eq number (pos 4) then with_number d (λ z. record s { codec = Some z })
    else unchanged s d
put_meta s number kind.I64 d = put_meta_number s number d
put_meta s number kind.List d =
    if int_eq number (pos 2) then
    with_value (list_of is_int number_member d) (λ l. record s { encodings = or_before l s.encodings })
    else if int_eq number (pos 3) then
    with_value (list_of is_binary bytes_member d) (λ l. record s { path = or_before l s.path })
    else unchanged s d
put_meta s number kind.Struct d =
    if int_eq number (pos 12) then
    with_value (statistics_of d) (λ x. record s { statistics = Some x })
    else unchanged s d
put_meta s number _ d = unchanged s d

abbrev pub finish_meta : MetaSlots → ℕ → Read ColumnMetaData
finish_meta s end =
    required s.physical end (λ physical. required s.encodings end (λ encodings. required s.path end (λ path. required s.codec end (λ codec. required s.values end (λ values. required s.uncompressed end (λ uncompressed. required s.compressed end (λ compressed. required s.data_page end (λ data_page. Ok (record { physical = physical; encodings = encodings; path = path; codec = codec; values = values; uncompressed = uncompressed; compressed = compressed; data_page = data_page; dictionary_page = s.dictionary_page; statistics = s.statistics })))))))))

abbrev pub meta_of : Datum → Read ColumnMetaData
meta_of = struct_of put_meta no_meta finish_meta

-- of a file's path only that it is there is kept
abbrev pub put_chunk : ChunkSlots → ℤ → Kind → Datum → Read ChunkSlots
put_chunk s number kind.Binary d =
    if int_eq number (pos 1) then with_passed d (record s { external = true }) else unchanged s d
put_chunk s number kind.I64 d =
    if int_eq number (pos 2) then with_number d (λ z. record s { offset = Some z })
    else unchanged s d
put_chunk s number kind.Struct d =
    if int_eq number (pos 3) then with_value (meta_of d) (λ m. record s { meta = Some m })
    else unchanged s d
put_chunk s number _ d = unchanged s d

abbrev pub finish_chunk : ChunkSlots → ℕ → Read ColumnChunk
finish_chunk s end =
    required s.offset end (λ offset. required s.meta end (λ meta. Ok (record { external = s.external; offset = offset; meta = meta })))

abbrev pub chunk_of : Bool → Datum → Read ColumnChunk
chunk_of first =
    struct_of put_chunk (record { external = false; offset = None; meta = None }) finish_chunk

abbrev pub put_group : GroupSlots → ℤ → Kind → Datum → Read GroupSlots
put_group s number kind.List d =
    if int_eq number (pos 1) then
    with_value (list_of is_struct chunk_of d) (λ l. record s { columns = or_before l s.columns })
    else unchanged s d
put_group s number kind.I64 d =
    if int_eq number (pos 2) then with_number d (λ z. record s { total = Some z })
    else if int_eq number (pos 3) then with_number d (λ z. record s { rows = Some z })
    else unchanged s d
put_group s number _ d = unchanged s d

abbrev pub finish_group : GroupSlots → ℕ → Read RowGroup
finish_group s end =
    required s.columns end (λ columns. required s.total end (λ total. required s.rows end (λ rows. Ok (record { columns = columns; total = total; rows = rows }))))

abbrev pub group_of : Bool → Datum → Read RowGroup
group_of first =
    struct_of put_group (record { columns = None; total = None; rows = None }) finish_group
