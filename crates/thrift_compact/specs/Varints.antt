-- Numbers of the compact protocol: ULEB128 varints and zigzag (Apache Thrift compact protocol, "Integer
-- encoding"). A varint is the list of its groups of seven bits, the lowest group first; its bytes are the
-- groups, and every byte but the last has its high bit set.
use Rattle.std.specs.Prelude.{ℕ, ℤ, pos, negsuc, ◌+◌, ◌*◌, ◌/◌, ◌%◌, ◌<◌, ◌≤◌, ◌==◌, Bool, nat_lt, nat_le, List, [], ◌∷◌, length, take, slice_index_or, if◌then◌else◌, Option, None, Some, Result, Ok, Err}
use Rattle.std.specs.List.{position, AllByRecursion}
use Rattle.thrift_compact.specs.declared.faults.ThriftFault.{ThriftFault}
use Rattle.thrift_compact.specs.declared.faults.ThriftFaultCode.{ThriftFaultCode}
use Rattle.thrift_compact.specs.declared.faults.ThriftFaultCode.TheVariants.{Truncated, BadVarint}

-- each element is a byte
abbrev pub IsBytes : List ℕ → Type 0
IsBytes bytes = (i : ℕ) → slice_index_or bytes i 0 < 256

-- the bytes of a varint
abbrev pub print_varint : List ℕ → List ℕ
print_varint [] = []
print_varint (g ∷ []) = g ∷ []
print_varint (g ∷ h ∷ groups) = (128 + g) ∷ print_varint (h ∷ groups)

-- the number of a varint
abbrev pub varint_number : List ℕ → ℕ
varint_number [] = 0
varint_number (g ∷ groups) = g + 128 * varint_number groups

-- one to ten groups of seven bits, whose number is at most the limit
pub record IsVarint (limit : ℕ) (groups : List ℕ) : Type 0 where
  pub some : 0 < length groups
  pub ten : length groups ≤ 10
  pub seven_bits : AllByRecursion (λ g. g < 128) groups
  pub within : varint_number groups ≤ limit

-- the signed number that an unsigned one stands for: 0, -1, 1, -2, 2 and so on
abbrev pub zigzag : ℕ → ℤ
zigzag n = if n % 2 == 0 then pos (n / 2) else negsuc (n / 2)

-- a byte below 128 is the last of its varint
abbrev pub is_last : ℕ → Bool
is_last b = nat_lt b 128

-- a fault of an item, in its bytes at a place
abbrev pub fault : {X : Type 0} → ThriftFaultCode → ℕ → Result X ThriftFault
fault code at = Err (record { code = code; at = at })

-- the groups that bytes carry in their low seven bits
abbrev pub low_groups : List ℕ → List ℕ
low_groups [] = []
low_groups (b ∷ bytes) = b % 128 ∷ low_groups bytes

-- the same, where the first last byte, if there is one, stands at a place
abbrev pub varint_to : ℕ → List ℕ → Option ℕ → Result (ℕ × ℕ) ThriftFault
varint_to limit bytes None = fault Truncated 0
varint_to limit bytes (Some last) =
    let number = varint_number (low_groups (take (last + 1) bytes)) in
    if nat_le 10 last then fault BadVarint 0
    else if nat_lt limit number then fault BadVarint 0
    else Ok (number, last + 1)

-- the number of the varint at the front of the bytes and its length: truncated where no byte of them is
-- a last one, and else bad where it has over ten bytes or its number is over the limit
unfoldable pub varint_at : ℕ → List ℕ → Result (ℕ × ℕ) ThriftFault
varint_at limit bytes = varint_to limit bytes (position is_last bytes)
