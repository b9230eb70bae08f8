-- What a column's values are, by its physical type and its annotation (Apache Parquet, "Logical Types"). Where
-- a logical type is given it counts, and else the converted type.
use Rattle.std.specs.Prelude.{ℤ, pos, negsuc, int_lt, nat_lt, nat_le, Bool, true, false, not, ◌&&◌, ◌||◌, if◌then◌else◌, Option, None, Some}
use Rattle.std.specs.Ordering.{int_eq}
use Rattle.parquet_metadata.specs.declared.element.SchemaElement.{SchemaElement}
use Rattle.parquet_metadata.specs.declared.logical.LogicalType.{LogicalType}
use Rattle.parquet_metadata.specs.declared.logical.LogicalType.TheVariants as logical
use Rattle.parquet_metadata.specs.declared.logical.TimeUnit.{TimeUnit}
use Rattle.parquet_metadata.specs.declared.logical.TimeUnit.TheVariants as unit
use Rattle.parquet_metadata.specs.declared.kind.Annotation.{Annotation}
use Rattle.parquet_metadata.specs.declared.kind.Annotation.TheVariants as note
use Rattle.parquet_metadata.specs.declared.kind.ColumnKind.{ColumnKind}
use Rattle.parquet_metadata.specs.declared.kind.ColumnKind.TheVariants as column
use Rattle.parquet_metadata.specs.declared.kind.Width.{Width}
use Rattle.parquet_metadata.specs.declared.kind.Width.TheVariants as width
use Rattle.parquet_metadata.specs.declared.kind.Form.{Form}
use Rattle.parquet_metadata.specs.declared.kind.Form.TheVariants as form

-- a number lies between these, both included
abbrev pub between : ℤ → ℤ → ℤ → Bool
between low high z = not (int_lt z low) && not (int_lt high z)

-- a scale that is absent is 0
abbrev pub or_zero : Option ℤ → ℤ
or_zero None = pos 0
or_zero (Some z) = z

abbrev pub timed : Option TimeUnit → Annotation
timed None = note.Unknown
timed (Some unit.Millis) = note.Millis
timed (Some unit.Micros) = note.Micros
timed (Some unit.Nanos) = note.Nanos

abbrev pub signed_as : Option Bool → Annotation
signed_as None = note.Unknown
signed_as (Some true) = note.Signed
signed_as (Some false) = note.Unsigned

-- of a logical type
abbrev pub annotation_of_logical : LogicalType → Annotation
annotation_of_logical logical.Other = note.Unknown
annotation_of_logical logical.Text = note.Text
annotation_of_logical (logical.Decimal scale) = note.Decimal (or_zero scale)
annotation_of_logical logical.Date = note.Date
annotation_of_logical (logical.Timestamp u) = timed u
annotation_of_logical (logical.Integer signed) = signed_as signed

-- of a converted type: 0 UTF8, 4 ENUM, 19 JSON; 5 DECIMAL; 6 DATE; 9 TIMESTAMP_MILLIS; 10 TIMESTAMP_MICROS;
-- 11 to 14 UINT_8 to UINT_64; 15 to 18 INT_8 to INT_64
abbrev pub annotation_of_converted : ℤ → Option ℤ → Annotation
annotation_of_converted converted scale =
    if int_eq converted (pos 0) || (int_eq converted (pos 4) || int_eq converted (pos 19)) then note.Text
    else if int_eq converted (pos 5) then note.Decimal (or_zero scale)
    else if int_eq converted (pos 6) then note.Date
    else if int_eq converted (pos 9) then note.Millis
    else if int_eq converted (pos 10) then note.Micros
    else if between (pos 11) (pos 14) converted then note.Unsigned
    else if between (pos 15) (pos 18) converted then note.Signed
    else note.Unknown

abbrev pub annotated : Option LogicalType → Option ℤ → Option ℤ → Annotation
annotated (Some l) converted scale = annotation_of_logical l
annotated None (Some c) scale = annotation_of_converted c scale
annotated None None scale = note.Absent

-- a decimal has a scale of 0 to 38
abbrev pub decimal_in : Form → ℤ → ColumnKind
decimal_in f (pos scale) = if nat_le scale 38 then column.Decimal f scale else column.Unsupported
decimal_in f (negsuc n) = column.Unsupported

abbrev pub boolean_kind : Annotation → ColumnKind
boolean_kind note.Absent = column.Bool
boolean_kind _ = column.Unsupported

abbrev pub word_kind : Width → Annotation → ColumnKind
word_kind w note.Absent = column.Signed w
word_kind w note.Signed = column.Signed w
word_kind w note.Unsigned = column.Unsigned w
word_kind w (note.Decimal scale) = decimal_in (form.Word w) scale
word_kind width.Bits32 note.Date = column.Date
word_kind width.Bits64 note.Millis = column.Millis
word_kind width.Bits64 note.Micros = column.Micros
word_kind width.Bits64 note.Nanos = column.Nanos
word_kind w _ = column.Unsupported

abbrev pub int96_kind : Annotation → ColumnKind
int96_kind note.Absent = column.Int96
int96_kind _ = column.Unsupported

abbrev pub bytes_kind : Annotation → ColumnKind
bytes_kind note.Absent = column.Text
bytes_kind note.Text = column.Text
bytes_kind (note.Decimal scale) = decimal_in form.Bytes scale
bytes_kind _ = column.Unsupported

-- fixed byte arrays have a length above 0, which is a number of 32 bits
abbrev pub fixed_in : ℤ → ℤ → ColumnKind
fixed_in (pos length) scale =
    if nat_lt 0 length && nat_le length 2147483647 then decimal_in (form.Fixed length) scale
    else column.Unsupported
fixed_in (negsuc n) scale = column.Unsupported

abbrev pub fixed_kind : Option ℤ → Annotation → ColumnKind
fixed_kind None a = column.Unsupported
fixed_kind (Some length) (note.Decimal scale) = fixed_in length scale
fixed_kind (Some length) _ = column.Unsupported

-- by the physical type: 0 BOOLEAN, 1 INT32, 2 INT64, 3 INT96, 6 BYTE_ARRAY, 7 FIXED_LEN_BYTE_ARRAY
abbrev pub physical_kind : ℤ → Option ℤ → Annotation → ColumnKind
physical_kind physical length a =
    if int_eq physical (pos 0) then boolean_kind a
    else if int_eq physical (pos 1) then word_kind width.Bits32 a
    else if int_eq physical (pos 2) then word_kind width.Bits64 a
    else if int_eq physical (pos 3) then int96_kind a
    else if int_eq physical (pos 6) then bytes_kind a
    else if int_eq physical (pos 7) then fixed_kind length a
    else column.Unsupported

-- an element whose number of children is above 0 is a group
abbrev pub is_group : Option ℤ → Bool
is_group None = false
is_group (Some n) = int_lt (pos 0) n

-- the column is REQUIRED (0) or OPTIONAL (1)
abbrev pub occurs_once : Option ℤ → Bool
occurs_once None = false
occurs_once (Some r) = between (pos 0) (pos 1) r

abbrev pub kind_by_type : Option ℤ → Option ℤ → Annotation → ColumnKind
kind_by_type None length a = column.Unsupported
kind_by_type (Some physical) length a = physical_kind physical length a

-- the kind of a column, which a group, and a column of another repetition, doesn't have
abbrev pub kind_of_element : SchemaElement → ColumnKind
kind_of_element e =
    if is_group e.children || not (occurs_once e.repetition) then column.Unsupported
    else kind_by_type e.physical e.length (annotated e.logical e.converted e.scale)
