-- The logical type of a column (Apache Parquet, union LogicalType): 1 STRING, 4 ENUM, 5 DECIMAL with 1 scale,
-- 6 DATE, 8 TIMESTAMP with 2 unit (1 MILLIS, 2 MICROS, 3 NANOS), 10 INTEGER with 2 isSigned, 12 JSON. Of
-- several members the last one counts.
use Rattle.std.specs.Prelude.{ℤ, pos, Bool, true, false, ◌||◌, if◌then◌else◌, Option, None, Some, Ok}
use Rattle.std.specs.Ordering.{int_eq}
use Rattle.thrift_compact.specs.declared.kinds.Kind.{Kind}
use Rattle.thrift_compact.specs.declared.kinds.Kind.TheVariants as kind
use Rattle.thrift_compact.specs.Trees.{Datum}
use Rattle.parquet_metadata.specs.declared.logical.TimeUnit.{TimeUnit}
use Rattle.parquet_metadata.specs.declared.logical.TimeUnit.TheVariants as unit
use Rattle.parquet_metadata.specs.declared.logical.LogicalType.{LogicalType}
use Rattle.parquet_metadata.specs.declared.logical.LogicalType.TheVariants as logical
use Rattle.parquet_metadata.specs.declared.logical.UnitSlots.{UnitSlots}
use Rattle.parquet_metadata.specs.declared.logical.TimestampSlots.{TimestampSlots}
use Rattle.parquet_metadata.specs.declared.logical.DecimalSlots.{DecimalSlots}
use Rattle.parquet_metadata.specs.declared.logical.IntegerSlots.{IntegerSlots}
use Rattle.parquet_metadata.specs.declared.logical.LogicalSlots.{LogicalSlots}
use Rattle.parquet_metadata.specs.Reads.{Read, unchanged, with_number, with_passed, with_value, struct_of}

-- the unit of a timestamp
abbrev pub put_unit : UnitSlots → ℤ → Kind → Datum → Read UnitSlots
put_unit s number kind.Struct d =
    if int_eq number (pos 1) then with_passed d (record { unit = Some unit.Millis })
    else if int_eq number (pos 2) then with_passed d (record { unit = Some unit.Micros })
    else if int_eq number (pos 3) then with_passed d (record { unit = Some unit.Nanos })
    else unchanged s d
put_unit s number _ d = unchanged s d

abbrev pub unit_of : Datum → Read (Option TimeUnit)
unit_of = struct_of put_unit (record { unit = None }) (λ s _. Ok s.unit)

abbrev pub put_timestamp : TimestampSlots → ℤ → Kind → Datum → Read TimestampSlots
put_timestamp s number kind.Struct d =
    if int_eq number (pos 2) then with_value (unit_of d) (λ u. record { unit = u }) else unchanged s d
put_timestamp s number _ d = unchanged s d

abbrev pub timestamp_of : Datum → Read (Option TimeUnit)
timestamp_of = struct_of put_timestamp (record { unit = None }) (λ s _. Ok s.unit)

abbrev pub put_decimal : DecimalSlots → ℤ → Kind → Datum → Read DecimalSlots
put_decimal s number kind.I32 d =
    if int_eq number (pos 1) then with_number d (λ z. record { scale = Some z }) else unchanged s d
put_decimal s number _ d = unchanged s d

abbrev pub decimal_of : Datum → Read (Option ℤ)
decimal_of = struct_of put_decimal (record { scale = None }) (λ s _. Ok s.scale)

-- the header of a truth value has it
abbrev pub put_integer : IntegerSlots → ℤ → Kind → Datum → Read IntegerSlots
put_integer s number kind.True d =
    if int_eq number (pos 2) then with_passed d (record { signed = Some true }) else unchanged s d
put_integer s number kind.False d =
    if int_eq number (pos 2) then with_passed d (record { signed = Some false }) else unchanged s d
put_integer s number _ d = unchanged s d

abbrev pub integer_of : Datum → Read (Option Bool)
integer_of = struct_of put_integer (record { signed = None }) (λ s _. Ok s.signed)

-- the members whose values are texts
abbrev pub is_text : ℤ → Bool
is_text number = int_eq number (pos 1) || (int_eq number (pos 4) || int_eq number (pos 12))

-- the type behind a member of this number, where it was another before
abbrev pub member_of : ℤ → LogicalType → Datum → Read LogicalType
member_of number before d =
    if is_text number then with_passed d logical.Text
    else if int_eq number (pos 5) then with_value (decimal_of d) logical.Decimal
    else if int_eq number (pos 6) then with_passed d logical.Date
    else if int_eq number (pos 8) then with_value (timestamp_of d) logical.Timestamp
    else if int_eq number (pos 10) then with_value (integer_of d) logical.Integer
    else unchanged before d

abbrev pub put_logical : LogicalSlots → ℤ → Kind → Datum → Read LogicalSlots
put_logical s number kind.Struct d =
    with_value (member_of number s.logical d) (λ logical. record { logical = logical })
put_logical s number _ d = unchanged s d

abbrev pub logical_of : Datum → Read LogicalType
logical_of = struct_of put_logical (record { logical = logical.Other }) (λ s _. Ok s.logical)
