-- The elements of a schema (Apache Parquet, struct SchemaElement): 1 type, 2 type_length, 3 repetition_type,
-- 4 name, 5 num_children, 6 converted_type, 7 scale, 10 logicalType. The name must be there, and in every
-- element but the first, the root, the repetition too.
use Rattle.std.specs.Prelude.{ℕ, ℤ, pos, Bool, ◌||◌, is_some, if◌then◌else◌, None, Some, Ok, Err}
use Rattle.std.specs.Ordering.{int_eq}
use Rattle.thrift_compact.specs.declared.kinds.Kind.{Kind}
use Rattle.thrift_compact.specs.declared.kinds.Kind.TheVariants as kind
use Rattle.thrift_compact.specs.Trees.{Datum}
use Rattle.parquet_metadata.specs.declared.element.ElementSlots.{ElementSlots}
use Rattle.parquet_metadata.specs.declared.element.SchemaElement.{SchemaElement}
use Rattle.parquet_metadata.specs.Reads.{Read, unchanged, with_number, with_bytes, with_value, struct_of, required}
use Rattle.parquet_metadata.specs.Logical.{logical_of}

abbrev pub no_element : ElementSlots
no_element = record {
  physical = None;
  length = None;
  repetition = None;
  name = None;
  children = None;
  converted = None;
  scale = None;
  logical = None;
}

-- with a number of 32 bits
abbrev pub put_element_number : ElementSlots → ℤ → Datum → Read ElementSlots
put_element_number s number d =
    if int_eq number (pos 1) then with_number d (λ z. record s { physical = Some z })
    else if int_eq number (pos 2) then with_number d (λ z. record s { length = Some z })
    else if int_eq number (pos 3) then with_number d (λ z. record s { repetition = Some z })
    else if int_eq number (pos 5) then with_number d (λ z. record s { children = Some z })
    else if int_eq number (pos 6) then with_number d (λ z. record s { converted = Some z })
    else if int_eq number (pos 7) then with_number d (λ z. record s { scale = Some z })
    else unchanged s d

abbrev pub put_element : ElementSlots → ℤ → Kind → Datum → Read ElementSlots
put_element s number kind.I32 d = put_element_number s number d
put_element s number kind.Binary d =
    if int_eq number (pos 4) then with_bytes d (λ list. record s { name = Some list })
    else unchanged s d
put_element s number kind.Struct d =
    if int_eq number (pos 10) then with_value (logical_of d) (λ l. record s { logical = Some l })
    else unchanged s d
put_element s number _ d = unchanged s d

abbrev pub finish_element : Bool → ElementSlots → ℕ → Read SchemaElement
finish_element first s end =
    required s.name end (λ name. if first || is_some s.repetition then Ok (record { physical = s.physical; length = s.length; repetition = s.repetition; name = name; children = s.children; converted = s.converted; scale = s.scale; logical = s.logical }) else Err end)

abbrev pub element_of : Bool → Datum → Read SchemaElement
element_of first = struct_of put_element no_element (finish_element first)
