-- The spellings of the compact protocol (Apache Thrift compact protocol): each form is a tree or a value, its
-- bytes, and a fact that says which are valid. Numbers may be spelled with more groups than they need.
use Rattle.std.specs.Prelude.{◌≡◌, ℕ, ℤ, pos, ◌+ℤ◌, ◌≤ℤ◌, ◌+◌, ◌-◌, ◌*◌, ◌^◌, ◌<◌, ◌≤◌, ◌⊎◌, Bool, true, false, MatchBool, List, [], ◌∷◌, ◌++◌, length, Option, None, Some}
use Rattle.std.specs.Int.{cast_signed, w8}
use Rattle.thrift_compact.specs.declared.kinds.Kind.{Kind}
use Rattle.thrift_compact.specs.declared.kinds.Kind.TheVariants as kind
use Rattle.thrift_compact.specs.Codes.{kind_code}
use Rattle.thrift_compact.specs.Varints.{IsVarint, print_varint, varint_number, zigzag}
use Rattle.thrift_compact.specs.Items.{largest_size}

-- no front of the bytes is one of these
abbrev pub NoFront : (List ℕ → Type 0) → List ℕ → Type 0
NoFront Spells bytes = (text rest : List ℕ) → Spells text → bytes ≡ text ++ rest → ⊥

-- the bytes are a varint of this number
pub record SpellsVarint (limit n : ℕ) (text : List ℕ) : Type 0 where
  pub groups : List ℕ
  pub valid : IsVarint limit groups
  pub number : n ≡ varint_number groups
  pub text_is : text ≡ print_varint groups

-- the bytes are a zigzag varint of this number
pub record SpellsSigned (limit : ℕ) (z : ℤ) (text : List ℕ) : Type 0 where
  pub unsigned : ℕ
  pub varint : SpellsVarint limit unsigned text
  pub number : z ≡ zigzag unsigned

-- the bytes are one byte, of this number in two's complement
pub record SpellsByte (z : ℤ) (text : List ℕ) : Type 0 where
  pub byte : ℕ
  pub fits : byte < 256
  pub number : z ≡ cast_signed w8 byte
  pub text_is : text ≡ byte ∷ []

-- the bytes are a number of this kind
abbrev pub SpellsNumber : Kind → ℤ → List ℕ → Type 0
SpellsNumber kind.I8 z text = SpellsByte z text
SpellsNumber kind.I16 z text = SpellsSigned (2 ^ 16 - 1) z text
SpellsNumber kind.I32 z text = SpellsSigned (2 ^ 32 - 1) z text
SpellsNumber kind.I64 z text = SpellsSigned (2 ^ 64 - 1) z text
SpellsNumber _ z text = ⊥

-- short form: the number is 1 to 15 above the last one, and the byte has that and the kind
pub record IsShortHeader (last number : ℤ) (k : Kind) (text : List ℕ) : Type 0 where
  pub delta : ℕ
  pub some : 0 < delta
  pub small : delta ≤ 15
  pub number_is : number ≡ last +ℤ pos delta
  pub fits : number ≤ℤ pos 32767
  pub text_is : text ≡ (delta * 16 + kind_code k) ∷ []

-- long form: the byte has the kind, and the number follows
pub record IsLongHeader (number : ℤ) (k : Kind) (text : List ℕ) : Type 0 where
  pub tail : List ℕ
  pub spelled : SpellsSigned (2 ^ 16 - 1) number tail
  pub text_is : text ≡ kind_code k ∷ tail

-- the bytes are the header of a field behind the field with number last, or the end of the struct
abbrev pub SpellsHeader : ℤ → Option (ℤ × Kind) → List ℕ → Type 0
SpellsHeader last None text = text ≡ 0 ∷ []
SpellsHeader last (Some f) text = IsShortHeader last f.0 f.1 text ⊎ IsLongHeader f.0 f.1 text

-- short form: the byte has the size, up to 14, and the kind
pub record IsShortList (k : Kind) (size : ℕ) (text : List ℕ) : Type 0 where
  pub small : size ≤ 14
  pub text_is : text ≡ (size * 16 + kind_code k) ∷ []

-- long form: the byte has 15 and the kind, and the size follows
pub record IsLongList (k : Kind) (size : ℕ) (text : List ℕ) : Type 0 where
  pub tail : List ℕ
  pub spelled : SpellsVarint largest_size size tail
  pub text_is : text ≡ (15 * 16 + kind_code k) ∷ tail

-- the bytes are the header of a list or set
abbrev pub SpellsListHeader : Kind × ℕ → List ℕ → Type 0
SpellsListHeader h text = IsShortList h.0 h.1 text ⊎ IsLongList h.0 h.1 text

-- the size, and then the kinds of the keys and values
pub record IsMapHeader (key value : Kind) (size : ℕ) (text : List ℕ) : Type 0 where
  pub some : 0 < size
  pub head : List ℕ
  pub spelled : SpellsVarint largest_size size head
  pub text_is : text ≡ head ++ (kind_code key * 16 + kind_code value) ∷ []

-- the bytes are the header of a map
abbrev pub SpellsMapHeader : Option (Kind × Kind × ℕ) → List ℕ → Type 0
SpellsMapHeader None text = SpellsVarint largest_size 0 text
SpellsMapHeader (Some h) text = IsMapHeader h.0 h.1 h.2 text

-- the bytes are the length of a byte list and then that list
pub record SpellsByteList (list text : List ℕ) : Type 0 where
  pub head : List ℕ
  pub spelled : SpellsVarint largest_size (length list) head
  pub text_is : text ≡ head ++ list

-- the bytes are a value that holds no others. A truth value takes no byte in a field, and one as a member
abbrev pub IsSimple : Bool → Kind → List ℕ → Type 0
IsSimple member kind.True text = MatchBool member (length text ≡ 1) (text ≡ [])
IsSimple member kind.False text = MatchBool member (length text ≡ 1) (text ≡ [])
IsSimple member kind.I8 text = (z : ℤ) × SpellsNumber kind.I8 z text
IsSimple member kind.I16 text = (z : ℤ) × SpellsNumber kind.I16 z text
IsSimple member kind.I32 text = (z : ℤ) × SpellsNumber kind.I32 z text
IsSimple member kind.I64 text = (z : ℤ) × SpellsNumber kind.I64 z text
IsSimple member kind.Double text = length text ≡ 8
IsSimple member kind.Binary text = (list : List ℕ) × SpellsByteList list text
IsSimple member _ text = ⊥

-- the bytes are the header of a list or set of n members of the kind first, or of a map of n keys and
-- values, of the kinds first and next in turn
abbrev pub HeadsMembers : Kind → Kind → Kind → ℕ → List ℕ → Type 0
HeadsMembers kind.List first next n text = (next ≡ first) × SpellsListHeader (first, n) text
HeadsMembers kind.Set first next n text = (next ≡ first) × SpellsListHeader (first, n) text
HeadsMembers kind.Map first next n text =
    ((n ≡ 0) × SpellsMapHeader None text)
    ⊎ ((size : ℕ) × (n ≡ 2 * size) × SpellsMapHeader (Some (first, next, size)) text)
HeadsMembers _ first next n text = ⊥

-- a value: its bytes alone, or the members behind its header, or the fields of a struct. A field has the
-- bytes of its header, its number, its kind and its value
mutual
  pub data Value : Type 0 where
    simple : List ℕ → Value
    sequence : List ℕ → Values → Value
    structure : FieldList → Value

  pub data Values : Type 0 where
    no_values : Values
    value : Value → Values → Values

  pub data FieldList : Type 0 where
    stop : FieldList
    field : List ℕ → ℤ → Kind → Value → FieldList → FieldList

-- the bytes of a value, of values one behind the other, and of a struct's fields with the 0 at their end
abbrev mutual
  pub print_value : Value → List ℕ
  print_value (simple text) = text
  print_value (sequence header values) = header ++ print_values values
  print_value (structure fields) = print_fields fields

  pub print_values : Values → List ℕ
  print_values no_values = []
  print_values (value v values) = print_value v ++ print_values values

  pub print_fields : FieldList → List ℕ
  print_fields stop = 0 ∷ []
  print_fields (field header number k v fields) = header ++ (print_value v ++ print_fields fields)

-- A value of this kind, where so many structs, lists, sets and maps are open around it, of which there may
-- be 32 at most with those that it opens; n values of the kinds first and next in turn; and the fields
-- behind the field with number last.
abbrev mutual
  pub IsValue : ℕ → Bool → Kind → Value → Type 0
  IsValue already member k (simple text) = IsSimple member k text
  IsValue already member k (sequence header values) =
      (already < 32)
      × (first : Kind) × (next : Kind) × (n : ℕ)
      × HeadsMembers k first next n header × AreValues (already + 1) first next n values
  IsValue already member k (structure fields) =
      (already < 32) × (k ≡ kind.Struct) × AreFields (already + 1) (pos 0) fields

  pub AreValues : ℕ → Kind → Kind → ℕ → Values → Type 0
  AreValues already first next n no_values = n ≡ 0
  AreValues already first next n (value v values) =
      (0 < n) × IsValue already true first v × AreValues already next first (n - 1) values

  pub AreFields : ℕ → ℤ → FieldList → Type 0
  AreFields already last stop = Unit {0}
  AreFields already last (field header number k v fields) =
      SpellsHeader last (Some (number, k)) header
      × IsValue already false k v × AreFields already number fields
