-- What a file's footer has (Apache Parquet, struct FileMetaData): 1 version, 2 schema, 3 num_rows, 4 row_groups,
-- and 7 column_orders, which may be missing. ColumnOrder: 1 TYPE_ORDER, which may be missing.
use Rattle.std.specs.Prelude.{ℕ, ℤ, pos, Bool, true, false, ◌&&◌, if◌then◌else◌, None, Ok, Err}
use Rattle.std.specs.Ordering.{int_eq}
use Rattle.thrift_compact.specs.declared.kinds.Kind.{Kind}
use Rattle.thrift_compact.specs.declared.kinds.Kind.TheVariants as kind
use Rattle.thrift_compact.specs.Trees.{Datum, FieldList}
use Rattle.parquet_metadata.specs.declared.metadata.ColumnOrder.{ColumnOrder}
use Rattle.parquet_metadata.specs.declared.metadata.FileSlots.{FileSlots}
use Rattle.parquet_metadata.specs.declared.metadata.FileMetaData.{FileMetaData}
use Rattle.parquet_metadata.specs.Reads.{Read, then_on, unchanged, with_passed, with_value, fields_into, struct_of, required, or_before}
use Rattle.parquet_metadata.specs.Members.{list_of, is_struct}
use Rattle.parquet_metadata.specs.Elements.{element_of}
use Rattle.parquet_metadata.specs.Chunks.{group_of}

abbrev pub put_order : ColumnOrder → ℤ → Kind → Datum → Read ColumnOrder
put_order s number kind.Struct d =
    if int_eq number (pos 1) then with_passed d (record { by_type = true }) else unchanged s d
put_order s number _ d = unchanged s d

abbrev pub order_of : Bool → Datum → Read ColumnOrder
order_of first = struct_of put_order (record { by_type = false }) (λ s _. Ok s)

abbrev pub no_file : FileSlots
no_file = record { version = false; schema = None; rows = false; groups = None; orders = None }

abbrev pub put_file_list : FileSlots → ℤ → Datum → Read FileSlots
put_file_list s number d =
    if int_eq number (pos 2) then
    with_value (list_of is_struct element_of d) (λ l. record s { schema = or_before l s.schema })
    else if int_eq number (pos 4) then
    with_value (list_of is_struct group_of d) (λ l. record s { groups = or_before l s.groups })
    else if int_eq number (pos 7) then
    with_value (list_of is_struct order_of d) (λ l. record s { orders = or_before l s.orders })
    else unchanged s d

-- of the version and the number of rows only that they are there is kept
abbrev pub put_file : FileSlots → ℤ → Kind → Datum → Read FileSlots
put_file s number kind.I32 d =
    if int_eq number (pos 1) then with_passed d (record s { version = true }) else unchanged s d
put_file s number kind.I64 d =
    if int_eq number (pos 3) then with_passed d (record s { rows = true }) else unchanged s d
put_file s number kind.List d = put_file_list s number d
put_file s number _ d = unchanged s d

abbrev pub finish_file : FileSlots → ℕ → Read FileMetaData
finish_file s end =
    if s.version && s.rows then
    required s.schema end (λ schema. required s.groups end (λ groups. Ok (record { schema = schema; groups = groups; orders = s.orders })))
    else Err end

-- a footer of these fields
unfoldable pub metadata_of : FieldList → Read FileMetaData
metadata_of fields = then_on (fields_into put_file no_file fields) (λ s. finish_file s.0 s.1)
