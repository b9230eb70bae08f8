-- How a struct is read from the tree of its fields (Apache Parquet, "Metadata": Thrift structs): field by field
-- in the order of the bytes, so that the last one of a number and the right kind counts. The answer is what
-- was read, or the place of the first fault.
use Rattle.std.specs.Prelude.{◌≡◌, ◌≤◌, ℕ, ℤ, List, length, Option, None, Some, Result, Ok, Err}
use Rattle.thrift_compact.specs.declared.faults.ThriftFault.{ThriftFault}
use Rattle.thrift_compact.specs.declared.kinds.Kind.{Kind}
use Rattle.thrift_compact.specs.Opens.{ended, below_top}
use Rattle.thrift_compact.specs.States.{State}
use Rattle.thrift_compact.specs.Trees.{Datum, FieldList, cut, structure, stop, field, broken, number_in, bytes_in, skip_in}
use Rattle.parquet_metadata.specs.declared.faults.ReadFault.{ReadFault}
use Rattle.parquet_metadata.specs.declared.faults.ReadFault.TheVariants.{OutOfMemory, Faulty}

-- a value, or the place of the first fault
abbrev pub Read : Type 0 → Type 0
Read X = Result X ℕ

-- reading goes on where nothing was wrong so far
abbrev pub then_on : {A B : Type 0} → Read A → (A → Read B) → Read B
then_on (Ok x) next = next x
then_on (Err at) next = Err at

-- a fault's place
abbrev pub at_place : {X : Type 0} → Result X ThriftFault → Read X
at_place (Ok x) = Ok x
at_place (Err f) = Err f.at

-- a value is passed over, which changes nothing
abbrev pub unchanged : {S : Type 0} → S → Datum → Read S
unchanged s d = then_on (at_place (skip_in d)) (λ _. Ok s)

-- a number is put into what was read so far
abbrev pub with_number : {S : Type 0} → Datum → (ℤ → S) → Read S
with_number d set = then_on (at_place (number_in d)) (λ z. Ok (set z))

-- likewise a byte list
abbrev pub with_bytes : {S : Type 0} → Datum → (List ℕ → S) → Read S
with_bytes d set = then_on (at_place (bytes_in d)) (λ list. Ok (set list))

-- likewise any value
abbrev pub with_value : {X S : Type 0} → Read X → (X → S) → Read S
with_value value set = then_on value (λ x. Ok (set x))

-- fields that are put into what was read so far, one after the other, and the place of the byte 0 behind them
abbrev pub fields_into : {S : Type 0} → (S → ℤ → Kind → Datum → Read S) → S → FieldList → Read (S × ℕ)
fields_into put s (stop end) = Ok (s, end)
fields_into put s (broken f) = Err f.at
fields_into put s (field number k d fields) = then_on (put s number k d) (λ s. fields_into put s fields)

-- the fields of a struct, put into slots, and the place of its byte 0
abbrev pub slots_of : {S : Type 0} → (S → ℤ → Kind → Datum → Read S) → S → Datum → Read (S × ℕ)
slots_of put empty (cut f) = Err f.at
slots_of put empty (structure fields) = fields_into put empty fields
slots_of put empty _ = Err 0

-- a struct, whose fields are put into slots that are finished at its byte 0
abbrev pub struct_of : {S X : Type 0} → (S → ℤ → Kind → Datum → Read S) → S → (S → ℕ → Read X) → Datum → Read X
struct_of put empty finish d = then_on (slots_of put empty d) (λ s. finish s.0 s.1)

-- what a call that read this answers; want of memory may come at any time
abbrev pub Gives : {X : Type 0} → Read X → Result X ReadFault → Type 0
Gives read (Ok x) = read ≡ Ok x
Gives read (Err (Faulty at)) = read ≡ Err at
Gives read (Err OutOfMemory) = Unit {0}

-- what a call that put values into slots answers, and the slots behind it
abbrev pub Takes : {S : Type 0} → Read S → Result (Unit {0}) ReadFault → S → Result ℕ ThriftFault → State → Type 0
Takes read (Ok _) slots answer new = (read ≡ Ok slots) × (answer ≡ Ok new.at)
Takes read (Err (Faulty at)) slots answer new = read ≡ Err at
Takes read (Err OutOfMemory) slots answer new = Unit {0}

-- the same of a struct's fields, up to the byte 0 at a place
abbrev pub TakesAll : {S : Type 0} → Read (S × ℕ) → Result ℕ ReadFault → S → Result ℕ ThriftFault → State → Type 0
TakesAll read (Ok end) slots answer new = (read ≡ Ok (slots, end)) × (answer ≡ Ok new.at)
TakesAll read (Err (Faulty at)) slots answer new = read ≡ Err at
TakesAll read (Err OutOfMemory) slots answer new = Unit {0}

-- the answer of the tree that was read whole
abbrev pub EndsAt : {X : Type 0} → Result X ReadFault → Result ℕ ThriftFault → State → Type 0
EndsAt (Ok x) answer new = answer ≡ Ok new.at
EndsAt (Err f) answer new = Unit {0}

-- the reader has passed a value
pub record Passed (old new : State) : Type 0 where
  pub bytes : new.bytes ≡ old.bytes
  pub sound : new.fault ≡ None
  pub nesting : new.nesting ≡ ended old.nesting

-- the reader has passed the rest of a struct
pub record Closed (old new : State) : Type 0 where
  pub bytes : new.bytes ≡ old.bytes
  pub sound : new.fault ≡ None
  pub nesting : new.nesting ≡ ended (below_top old.nesting)

-- a value is passed over, which sets something
abbrev pub with_passed : {S : Type 0} → Datum → S → Read S
with_passed d s = then_on (at_place (skip_in d)) (λ _. Ok s)

-- a field that must be there, in a struct that ends at a place
abbrev pub required : {A X : Type 0} → Option A → ℕ → (A → Read X) → Read X
required None end next = Err end
required (Some a) end next = next a

-- a list of the kind that is asked for, and else the one before
abbrev pub or_before : {A : Type 0} → Option A → Option A → Option A
or_before None before = before
or_before (Some list) before = Some list

-- a fault's place isn't behind the reader
abbrev pub IsBefore : {X : Type 0} → Result X ReadFault → State → Type 0
IsBefore (Ok x) new = Unit {0}
IsBefore (Err (Faulty at)) new = at ≤ new.at
IsBefore (Err OutOfMemory) new = Unit {0}

-- a fault's place is the end of a struct
abbrev pub IsEnd : ℕ → ReadFault → Type 0
IsEnd end (Faulty at) = at ≡ end
IsEnd end OutOfMemory = Unit {0}

-- a fault's place is one in the bytes, or their end
abbrev pub IsIn : List ℕ → ReadFault → Type 0
IsIn bytes (Faulty at) = at ≤ length bytes
IsIn bytes OutOfMemory = Unit {0}
