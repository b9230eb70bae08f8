-- The items of the compact protocol: a number, a field header, a list header, a map header and a byte list
-- (Apache Thrift compact protocol, "Integer encoding", "Struct encoding", "List and Set", "Map" and "Binary
-- encoding"). Each function says what stands at the front of the bytes and how many bytes it takes, or the
-- first fault there, whose place is counted from the front. The causes are tried in this order: the bytes
-- end in the item; a varint is bad; a kind isn't listed; too much would be open.
use Rattle.std.specs.Prelude.{ℕ, ℤ, pos, ◌+ℤ◌, int_lt, ◌+◌, ◌-◌, ◌*◌, ◌/◌, ◌%◌, ◌^◌, ◌==◌, Bool, nat_lt, nat_le, List, [], ◌∷◌, length, take, drop, if◌then◌else◌, Option, None, Some, Result, Ok, Err}
use Rattle.std.specs.Int.{cast_signed, w8}
use Rattle.thrift_compact.specs.declared.faults.ThriftFault.{ThriftFault}
use Rattle.thrift_compact.specs.declared.faults.ThriftFaultCode.TheVariants.{Truncated, BadVarint, BadKind, TooDeep}
use Rattle.thrift_compact.specs.declared.kinds.Kind.{Kind}
use Rattle.thrift_compact.specs.declared.kinds.Kind.TheVariants as kind
use Rattle.thrift_compact.specs.declared.stack.Open.{Open}
use Rattle.thrift_compact.specs.declared.stack.Open.TheVariants.{Fields, Members}
use Rattle.thrift_compact.specs.Codes.{kind_of}
use Rattle.thrift_compact.specs.Varints.{fault, varint_at, zigzag}

-- an item at the front of the bytes and its length, or its fault
abbrev pub Item : Type 0 → Type 0
Item X = Result (X × ℕ) ThriftFault

-- reading goes on where nothing was wrong so far
abbrev pub then_read : {A B : Type 0} → Result A ThriftFault → (A → Result B ThriftFault) → Result B ThriftFault
then_read (Ok x) next = next x
then_read (Err f) next = Err f

-- the largest length of a byte list, and size of a list or map
abbrev pub largest_size : ℕ
largest_size = 2 ^ 31 - 1

-- one byte
abbrev pub byte_at : List ℕ → Item ℕ
byte_at [] = fault Truncated 0
byte_at (b ∷ bytes) = Ok (b, 1)

-- a zigzag varint, where the unsigned number is at most the limit
abbrev pub signed_at : ℕ → List ℕ → Item ℤ
signed_at limit bytes = then_read (varint_at limit bytes) (λ n. Ok (zigzag n.0, n.1))

-- a number: one byte in two's complement, or a zigzag varint of 16, 32 or 64 bits
unfoldable pub number_at : Kind → List ℕ → Item ℤ
number_at kind.I8 bytes = then_read (byte_at bytes) (λ b. Ok (cast_signed w8 b.0, b.1))
number_at kind.I16 bytes = signed_at (2 ^ 16 - 1) bytes
number_at kind.I32 bytes = signed_at (2 ^ 32 - 1) bytes
number_at kind.I64 bytes = signed_at (2 ^ 64 - 1) bytes
number_at _ bytes = fault BadKind 0

-- a field of this number, if its kind is listed
abbrev pub field_of : ℤ → ℕ → Option Kind → Item (Option (ℤ × Kind))
field_of number taken None = fault BadKind 0
field_of number taken (Some k) = Ok (Some (number, k), taken)

-- the number of a field that is so far above the last one
abbrev pub number_after : ℤ → ℕ → Result ℤ ThriftFault
number_after last delta =
    if int_lt (pos 32767) (last +ℤ pos delta) then fault BadVarint 0 else Ok (last +ℤ pos delta)

-- a field header behind the field with number last: 0 ends the struct; else the low four bits are the
-- kind, and the high four bits are how far the number is above the last one, or 0 where the number
-- follows as a zigzag varint of 16 bits
unfoldable pub header_at : ℤ → List ℕ → Item (Option (ℤ × Kind))
header_at last [] = fault Truncated 0
header_at last (b ∷ bytes) =
    if b == 0 then Ok (None, 1)
    else if b / 16 == 0 then
    then_read (signed_at (2 ^ 16 - 1) bytes) (λ n. field_of n.0 (n.1 + 1) (kind_of (b % 16)))
    else then_read (number_after last (b / 16)) (λ n. field_of n 1 (kind_of (b % 16)))

-- a list of this size, if its kind is listed
abbrev pub list_of : ℕ → ℕ → Option Kind → Item (Kind × ℕ)
list_of size taken None = fault BadKind 0
list_of size taken (Some k) = Ok ((k, size), taken)

-- the header of a list or set: the low four bits are the members' kind, and the high four bits are the
-- size, or 15 where the size follows as a varint
unfoldable pub list_header_at : List ℕ → Item (Kind × ℕ)
list_header_at [] = fault Truncated 0
list_header_at (b ∷ bytes) =
    if b / 16 == 15 then
    then_read (varint_at largest_size bytes) (λ n. list_of n.0 (n.1 + 1) (kind_of (b % 16)))
    else list_of (b / 16) 1 (kind_of (b % 16))

-- a map of this size, if its kinds are listed
abbrev pub map_of : ℕ → ℕ → Option Kind → Option Kind → Item (Option (Kind × Kind × ℕ))
map_of size taken (Some key) (Some value) = Ok (Some (key, value, size), taken)
map_of size taken _ _ = fault BadKind 0

-- the kinds of a map of this size: the high four bits are the keys', and the low four the values'
abbrev pub map_kinds_at : ℕ → ℕ → List ℕ → Item (Option (Kind × Kind × ℕ))
map_kinds_at size taken [] = fault Truncated 0
map_kinds_at size taken (b ∷ bytes) = map_of size (taken + 1) (kind_of (b / 16)) (kind_of (b % 16))

-- the header of a map: its size as a varint and, if it isn't 0, its kinds
unfoldable pub map_header_at : List ℕ → Item (Option (Kind × Kind × ℕ))
map_header_at bytes =
    then_read (varint_at largest_size bytes) (λ n. if n.0 == 0 then Ok (None, n.1) else map_kinds_at n.0 n.1 (drop n.1 bytes))

-- a byte list: its length as a varint, and its bytes, whose fault stands behind the length
unfoldable pub byte_list_at : List ℕ → Item (List ℕ)
byte_list_at bytes =
    then_read (varint_at largest_size bytes) (λ n. if nat_lt (length (drop n.1 bytes)) n.0 then fault Truncated n.1 else Ok (take n.0 (drop n.1 bytes), n.1 + n.0))

-- what opens, if fewer than 32 are open
abbrev pub opening : ℕ → Option Open → ℕ → Item (Option Open)
opening already what taken = if nat_le 32 already then fault TooDeep 0 else Ok (what, taken)

-- a list of this many members, or of as many keys and values
abbrev pub members : Kind → Kind → ℕ → Option Open
members k next left = if left == 0 then None else Some (Members k next left)

-- what a map of this header opens
abbrev pub map_members : Option (Kind × Kind × ℕ) → Option Open
map_members None = None
map_members (Some h) = members h.0 h.1 (2 * h.2)

-- nothing opens
abbrev pub whole : {X : Type 0} → X × ℕ → Item (Option Open)
whole x = Ok (None, x.1)

-- a truth value: the header of a field has it, and a member is one byte
abbrev pub truth_at : Bool → List ℕ → Item (Option Open)
truth_at member bytes = if member then then_read (byte_at bytes) whole else Ok (None, 0)

-- a double: eight bytes
abbrev pub double_at : List ℕ → Item (Option Open)
double_at bytes = if nat_lt (length bytes) 8 then fault Truncated 0 else Ok (None, 8)

-- a value of a kind, where so many constructs are open already and it may be a member: what it opens and
-- the bytes up to there, or nothing and all of its bytes
unfoldable pub value_at : ℕ → Bool → Kind → List ℕ → Item (Option Open)
value_at already member kind.True bytes = truth_at member bytes
value_at already member kind.False bytes = truth_at member bytes
value_at already member kind.Double bytes = double_at bytes
value_at already member kind.Binary bytes = then_read (byte_list_at bytes) whole
value_at already member kind.List bytes = then_read (list_header_at bytes) (λ h. opening already (members h.0.0 h.0.0 h.0.1) h.1)
value_at already member kind.Set bytes = then_read (list_header_at bytes) (λ h. opening already (members h.0.0 h.0.0 h.0.1) h.1)
value_at already member kind.Map bytes = then_read (map_header_at bytes) (λ h. opening already (map_members h.0) h.1)
value_at already member kind.Struct bytes = opening already (Some (Fields (pos 0))) 0
value_at already member k bytes = then_read (number_at k bytes) whole
