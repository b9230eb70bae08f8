-- The values that any bytes hold, with faults at their leaves. A tree tells each value as it is read from
-- the front on: its items as the item functions give them, and the first fault in place of the value that
-- has it. Nothing stands behind a fault. Beside the tree goes its answer: the place behind the value, or its
-- fault. (Apache Thrift compact protocol, "Struct encoding", "List and Set" and "Map".)
use Rattle.std.specs.Prelude.{◌≡◌, ◌<◌, ℕ, ℤ, pos, ◌+◌, ◌-◌, ◌*◌, Bool, true, false, IsTrue, List, length, drop, Option, None, Some, Result, Ok, Err}
use Rattle.thrift_compact.specs.declared.faults.ThriftFault.{ThriftFault}
use Rattle.thrift_compact.specs.declared.kinds.Kind.{Kind}
use Rattle.thrift_compact.specs.declared.kinds.Kind.TheVariants as kind
use Rattle.thrift_compact.specs.Opens.{in_fields, in_members, last_number}
use Rattle.thrift_compact.specs.Varints.{fault}
use Rattle.thrift_compact.specs.declared.faults.ThriftFaultCode.TheVariants.{BadKind}
use Rattle.thrift_compact.specs.Items.{Item, number_at, header_at, list_header_at, map_header_at, byte_list_at, value_at}
use Rattle.thrift_compact.specs.Runs.{behind}
use Rattle.thrift_compact.specs.States.{State}

-- A value: its first item is faulty; a truth value or a double, which is passed over; a number; a byte list;
-- the members of a list or set of this kind and size; the keys and values of a map in turn, with its header;
-- or the fields of a struct. Members end behind the last one or at a fault. Fields end at the byte 0 at a
-- place, or at a fault: that of a header, or of the value before.
mutual
  pub data Datum : Type 0 where
    cut : ThriftFault → Datum
    passed : Datum
    numeral : ℤ → Datum
    binary : List ℕ → Datum
    sequence : Kind → ℕ → Data → Datum
    mapping : Option (Kind × Kind × ℕ) → Data → Datum
    structure : FieldList → Datum

  pub data Data : Type 0 where
    nothing : Data
    datum : Datum → Data → Data

  pub data FieldList : Type 0 where
    stop : ℕ → FieldList
    field : ℤ → Kind → Datum → FieldList → FieldList
    broken : ThriftFault → FieldList

-- an item from a place on, and the place behind it, or its fault
abbrev pub standing : {X : Type 0} → (List ℕ → Item X) → List ℕ → ℕ → Item X
standing read bytes at = behind at (read (drop at bytes))

-- a value of this kind is passed over whole
abbrev pub is_passed : Kind → Bool
is_passed kind.True = true
is_passed kind.False = true
is_passed kind.Double = true
is_passed _ = false

-- a value of this kind has members of one kind
abbrev pub is_sequence : Kind → Bool
is_sequence kind.List = true
is_sequence kind.Set = true
is_sequence _ = false

-- a value of this kind is a number
abbrev pub is_number : Kind → Bool
is_number kind.I8 = true
is_number kind.I16 = true
is_number kind.I32 = true
is_number kind.I64 = true
is_number _ = false

-- the kinds of a map's keys and values, which a map of no members doesn't tell
abbrev pub key_kind : Option (Kind × Kind × ℕ) → Kind
key_kind None = kind.True
key_kind (Some h) = h.0

abbrev pub value_kind : Option (Kind × Kind × ℕ) → Kind
value_kind None = kind.True
value_kind (Some h) = h.1

-- how many keys and values a map has
abbrev pub entries : Option (Kind × Kind × ℕ) → ℕ
entries None = 0
entries (Some h) = 2 * h.2

-- what holds behind a value: one thing at the place where it ended, and another where it was faulty
abbrev pub Behind : Result ℕ ThriftFault → (ℕ → Type 0) → (ThriftFault → Type 0) → Type 0
Behind (Ok at) more none = more at
Behind (Err f) more none = none f

-- The value of a kind at a place, where so many structs, lists, sets and maps are open around it and it may
-- be a member; so many members of the kinds first and next in turn; and the fields behind the field with
-- number last.
abbrev mutual
  pub IsDatum : List ℕ → ℕ → Bool → Kind → ℕ → Datum → Result ℕ ThriftFault → Type 0
  IsDatum bytes depth member k at (cut f) answer =
      (standing (value_at depth member k) bytes at ≡ Err f) × (answer ≡ Err f)
  IsDatum bytes depth member k at passed answer =
      IsTrue (is_passed k)
      × (end : ℕ) × (standing (value_at depth member k) bytes at ≡ Ok (None, end)) × (answer ≡ Ok end)
  IsDatum bytes depth member k at (numeral z) answer =
      (end : ℕ) × (standing (number_at k) bytes at ≡ Ok (z, end)) × (answer ≡ Ok end)
  IsDatum bytes depth member k at (binary list) answer =
      (k ≡ kind.Binary)
      × (end : ℕ) × (standing byte_list_at bytes at ≡ Ok (list, end)) × (answer ≡ Ok end)
  IsDatum bytes depth member k at (sequence each size items) answer =
      IsTrue (is_sequence k) × (depth < 32)
      × (end : ℕ) × (standing list_header_at bytes at ≡ Ok ((each, size), end))
      × AreData bytes (depth + 1) each each size end items answer
  IsDatum bytes depth member k at (mapping header items) answer =
      (k ≡ kind.Map) × (depth < 32)
      × (end : ℕ) × (standing map_header_at bytes at ≡ Ok (header, end))
      × AreData bytes (depth + 1) (key_kind header) (value_kind header) (entries header) end items answer
  IsDatum bytes depth member k at (structure fields) answer =
      (k ≡ kind.Struct) × (depth < 32) × AreFields bytes (depth + 1) (pos 0) at fields answer

  pub AreData : List ℕ → ℕ → Kind → Kind → ℕ → ℕ → Data → Result ℕ ThriftFault → Type 0
  AreData bytes depth first next left at nothing answer = (left ≡ 0) × (answer ≡ Ok at)
  AreData bytes depth first next left at (datum d items) answer =
      (0 < left)
      × (between : Result ℕ ThriftFault) × IsDatum bytes depth true first at d between
      × Behind between (λ end. AreData bytes depth next first (left - 1) end items answer) (λ f. (items ≡ nothing) × (answer ≡ Err f))

  pub AreFields : List ℕ → ℕ → ℤ → ℕ → FieldList → Result ℕ ThriftFault → Type 0
  AreFields bytes depth last at (stop place) answer =
      (place ≡ at) × (standing (header_at last) bytes at ≡ Ok (None, at + 1)) × (answer ≡ Ok (at + 1))
  AreFields bytes depth last at (broken f) answer =
      (standing (header_at last) bytes at ≡ Err f) × (answer ≡ Err f)
  AreFields bytes depth last at (field number k d fields) answer =
      (begin : ℕ) × (standing (header_at last) bytes at ≡ Ok (Some (number, k), begin))
      × (between : Result ℕ ThriftFault) × IsDatum bytes depth false k begin d between
      × Behind between (λ end. AreFields bytes depth number end fields answer) (λ f. (fields ≡ broken f) × (answer ≡ Err f))

-- the reader, without a fault, stands before a value of this kind
pub record AtDatum (k : Kind) (s : State) (d : Datum) (answer : Result ℕ ThriftFault) : Type 0 where
  pub sound : s.fault ≡ None
  pub is : IsDatum s.bytes (length s.nesting) (in_members s.nesting) k s.at d answer

-- the reader, without a fault, stands before these fields of the innermost struct
pub record AtFields (s : State) (fields : FieldList) (answer : Result ℕ ThriftFault) : Type 0 where
  pub sound : s.fault ≡ None
  pub inside : IsTrue (in_fields s.nesting)
  pub are : AreFields s.bytes (length s.nesting) (last_number s.nesting) s.at fields answer

-- the first fault in a tree
abbrev pub first_of : Option ThriftFault → Option ThriftFault → Option ThriftFault
first_of (Some f) more = Some f
first_of None more = more

abbrev mutual
  pub datum_fault : Datum → Option ThriftFault
  datum_fault (cut f) = Some f
  datum_fault passed = None
  datum_fault (numeral z) = None
  datum_fault (binary list) = None
  datum_fault (sequence each size items) = data_fault items
  datum_fault (mapping header items) = data_fault items
  datum_fault (structure fields) = fields_fault fields

  pub data_fault : Data → Option ThriftFault
  data_fault nothing = None
  data_fault (datum d items) = first_of (datum_fault d) (data_fault items)

  pub fields_fault : FieldList → Option ThriftFault
  fields_fault (stop place) = None
  fields_fault (broken f) = Some f
  fields_fault (field number k d fields) = first_of (datum_fault d) (fields_fault fields)

-- What a call reads of a tree. A value of another form than the call reads doesn't stand before it.
abbrev pub no_value : {X : Type 0} → Result X ThriftFault
no_value = fault BadKind 0

-- the header of the first of the fields, or the end
abbrev pub header_in : FieldList → Result (Option (ℤ × Kind)) ThriftFault
header_in (stop place) = Ok None
header_in (broken f) = Err f
header_in (field number k d fields) = Ok (Some (number, k))

-- a number
abbrev pub number_in : Datum → Result ℤ ThriftFault
number_in (cut f) = Err f
number_in (numeral z) = Ok z
number_in _ = no_value

-- a byte list
abbrev pub bytes_in : Datum → Result (List ℕ) ThriftFault
bytes_in (cut f) = Err f
bytes_in (binary list) = Ok list
bytes_in _ = no_value

-- the kind and number of a list's members
abbrev pub list_in : Datum → Result (Kind × ℕ) ThriftFault
list_in (cut f) = Err f
list_in (sequence each size items) = Ok (each, size)
list_in _ = no_value

-- nothing but that a struct opens
abbrev pub enter_in : Datum → Result (Unit {0}) ThriftFault
enter_in (cut f) = Err f
enter_in (structure fields) = Ok tt
enter_in _ = no_value

-- nothing but the value's first fault
abbrev pub unless_fault : Option ThriftFault → Result (Unit {0}) ThriftFault
unless_fault None = Ok tt
unless_fault (Some f) = Err f

abbrev pub skip_in : Datum → Result (Unit {0}) ThriftFault
skip_in d = unless_fault (datum_fault d)

-- the answer of a value that a call has read whole, or in which it met the fault
abbrev pub answered : {X : Type 0} → Result X ThriftFault → State → Result ℕ ThriftFault
answered (Ok x) new = Ok new.at
answered (Err f) new = Err f

-- what the reader stands at behind the first field's header, or behind the end of the struct
abbrev pub BehindHeader : FieldList → Result ℕ ThriftFault → State → State → Type 0
BehindHeader (stop place) answer old new = (place ≡ old.at) × (answer ≡ Ok new.at)
BehindHeader (broken f) answer old new = answer ≡ Err f
BehindHeader (field number k d fields) answer old new =
    (between : Result ℕ ThriftFault) × AtDatum k new d between
    × Behind between (λ end. AreFields new.bytes (length new.nesting) number end fields answer) (λ f. (fields ≡ broken f) × (answer ≡ Err f))

-- what it stands at behind a list's header, where a list was opened
abbrev pub BehindList : Datum → Result ℕ ThriftFault → State → State → Type 0
BehindList (cut f) answer old new = answer ≡ Err f
BehindList (sequence each size items) answer old new =
    AreData new.bytes (length old.nesting + 1) each each size new.at items answer
BehindList _ answer old new = ⊥

-- what it stands at where a struct was opened
abbrev pub BehindEnter : Datum → Result ℕ ThriftFault → State → Type 0
BehindEnter (cut f) answer new = answer ≡ Err f
BehindEnter (structure fields) answer new = AtFields new fields answer
BehindEnter _ answer new = ⊥

-- the bytes, as the fields of a struct from their front on, have a tree
pub record HasTree (bytes : List ℕ) : Type 0 where
  pub fields : FieldList
  pub answer : Result ℕ ThriftFault
  pub are : AreFields bytes 1 (pos 0) 0 fields answer
