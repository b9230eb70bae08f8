-- What a reader stands at, and what each of its calls answers and leaves. A call on a reader with a fault
-- answers that fault and leaves the reader as it was. Else it reads what stands at the reader's place: it
-- moves behind that, or keeps the first fault and stands at the fault's place.
use Rattle.std.specs.Prelude.{◌≡◌, ◌≤◌, ℕ, ℤ, pos, ◌+◌, ◌||◌, IsTrue, is_some, nat_le, List, [], ◌∷◌, ◌++◌, length, drop, if◌then◌else◌, Option, None, Some, Result, Ok, Err}
use Rattle.thrift_compact.specs.declared.faults.ThriftFault.{ThriftFault}
use Rattle.thrift_compact.specs.declared.faults.ThriftFaultCode.TheVariants.{TooDeep}
use Rattle.thrift_compact.specs.declared.kinds.Kind.{Kind}
use Rattle.thrift_compact.specs.declared.stack.Open.{Open}
use Rattle.thrift_compact.specs.declared.stack.Open.TheVariants.{Fields}
use Rattle.thrift_compact.specs.Opens.{ended, with_opened, in_members, in_fields, last_number, after_header}
use Rattle.thrift_compact.specs.Varints.{fault}
use Rattle.thrift_compact.specs.Items.{Item, then_read, number_at, header_at, list_header_at, byte_list_at, members}
use Rattle.thrift_compact.specs.Grammar.{Value, print_value, IsValue}
use Rattle.thrift_compact.specs.Runs.{placed, Passes}

-- the bytes that it reads, its place in them, what is open there (the innermost first), and the first fault
pub record State : Type 0 where
  pub bytes : List ℕ
  pub at : ℕ
  pub nesting : List Open
  pub fault : Option ThriftFault

-- the bytes from its place on
abbrev pub left : State → List ℕ
left s = drop s.at s.bytes

-- at the front of the bytes, inside an open struct
abbrev pub over_bytes : List ℕ → State
over_bytes bytes = record { bytes = bytes; at = 0; nesting = Fields (pos 0) ∷ []; fault = None }

-- the innermost open construct is a struct, or a fault came before
abbrev pub CanReadField : State → Type 0
CanReadField s = IsTrue (is_some s.fault || in_fields s.nesting)

-- the state with a fault
abbrev pub faulted : State → ThriftFault → State
faulted s f = record s { at = f.at; fault = Some f }

-- the answer where an item is read, and what is open behind it
abbrev pub moved : {A B : Type 0} → State → (A → B) → (A → List Open) → Item A → Result B ThriftFault × State
moved s value nest (Ok x) = (Ok (value x.0), record s { at = s.at + x.1; nesting = nest x.0 })
moved s value nest (Err f) = (Err (placed s.at f), faulted s (placed s.at f))

-- the same, unless a fault came before
abbrev pub answer : {A B : Type 0} → Option ThriftFault → State → (A → B) → (A → List Open) → Item A → Result B ThriftFault × State
answer (Some f) s value nest item = (Err f, s)
answer None s value nest item = moved s value nest item

-- the next field's number and kind, or none at the end of the struct
unfoldable pub field_answer : State → Result (Option (ℤ × Kind)) ThriftFault × State
field_answer s =
    answer s.fault s (λ h. h) (λ h. after_header h s.nesting) (header_at (last_number s.nesting) (left s))

-- a number
unfoldable pub int_answer : Kind → State → Result ℤ ThriftFault × State
int_answer kind s = answer s.fault s (λ n. n) (λ _. ended s.nesting) (number_at kind (left s))

-- a byte list
unfoldable pub bytes_answer : State → Result (List ℕ) ThriftFault × State
bytes_answer s = answer s.fault s (λ b. b) (λ _. ended s.nesting) (byte_list_at (left s))

-- what is read, if fewer than 32 are open
abbrev pub if_room : {A : Type 0} → ℕ → A × ℕ → Item A
if_room already x = if nat_le 32 already then fault TooDeep 0 else Ok x

-- the kind and number of a list's members
unfoldable pub list_answer : State → Result (Kind × ℕ) ThriftFault × State
list_answer s =
    answer s.fault s (λ h. h) (λ h. with_opened (members h.0 h.0 h.1) s.nesting) (then_read (list_header_at (left s)) (if_room (length s.nesting)))

-- a struct opens, which takes no byte
unfoldable pub enter_answer : State → Result (Unit {0}) ThriftFault × State
enter_answer s =
    answer s.fault s (λ u. u) (λ _. Fields (pos 0) ∷ s.nesting) (if_room (length s.nesting) (tt, 0))

-- a value is passed over, up to a place, or is faulty
abbrev pub skipped : State → Result ℕ ThriftFault → Result (Unit {0}) ThriftFault × State
skipped s (Ok at) = (Ok tt, record s { at = at; nesting = ended s.nesting })
skipped s (Err f) = (Err f, faulted s f)

-- the value of a kind at the reader's place is passed over so
abbrev pub SkipsTo : Kind → State → Result ℕ ThriftFault → Type 0
SkipsTo kind s to = Passes (length s.nesting) (in_members s.nesting) kind s.bytes s.at to

-- passing over a value of a kind answers this, unless a fault came before
abbrev pub SkipGives : Option ThriftFault → Kind → State → Result (Unit {0}) ThriftFault × State → Type 0
SkipGives (Some f) kind s given = given ≡ (Err f, s)
SkipGives None kind s given =
    (to : Result ℕ ThriftFault) × SkipsTo kind s to × (given ≡ skipped s to)

-- passing over a value of a kind answers this
abbrev pub SkipAnswer : Kind → State → Result (Unit {0}) ThriftFault × State → Type 0
SkipAnswer kind s given = SkipGives s.fault kind s given

-- the bytes that an answer lends
abbrev pub given_bytes : {R : Type 0} → (R → List ℕ) → Result R ThriftFault → Result (List ℕ) ThriftFault
given_bytes now (Ok r) = Ok (now r)
given_bytes now (Err f) = Err f

-- the reader has the same bytes, and stands in them at its old place or behind it
pub record MovesOn (old new : State) : Type 0 where
  pub bytes : new.bytes ≡ old.bytes
  pub forward : old.at ≤ new.at
  pub within : new.at ≤ length new.bytes

-- the reader has moved behind one of these
pub record Takes (Spells : List ℕ → Type 0) (old new : State) : Type 0 where
  pub text : List ℕ
  pub spelled : Spells text
  pub front : left old ≡ text ++ left new

-- the bytes are a value of this kind, inside what is open
abbrev pub SpellsValue : Kind → State → List ℕ → Type 0
SpellsValue kind s text =
    (v : Value) × IsValue (length s.nesting) (in_members s.nesting) kind v × (text ≡ print_value v)
