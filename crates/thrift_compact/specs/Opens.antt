-- What is open at a place, the innermost first.
use Rattle.std.specs.Prelude.{ℕ, zero, suc, ◌-◌, ℤ, pos, Bool, true, false, nat_le, List, [], ◌∷◌, slice_index_or, if◌then◌else◌, Option, Some, None}
use Rattle.thrift_compact.specs.declared.kinds.Kind.{Kind}
use Rattle.thrift_compact.specs.declared.stack.Open.{Open}
use Rattle.thrift_compact.specs.declared.stack.Open.TheVariants.{Fields, Members}

-- the innermost
abbrev pub top_of : List Open → Option Open
top_of [] = None
top_of (o ∷ nest) = Some o

-- what is open around it
abbrev pub below_top : List Open → List Open
below_top [] = []
below_top (o ∷ nest) = nest

-- a value has ended: where it was a member, its list has one member fewer left, and is closed by its last
-- one, which ends a value in turn
abbrev pub ended : List Open → List Open
ended [] = []
ended (Fields last ∷ nest) = Fields last ∷ nest
ended (Members kind next left ∷ nest) =
    if nat_le left 1 then ended nest else Members next kind (left - 1) ∷ nest

-- a value here is a member of a list, set or map
abbrev pub in_members : List Open → Bool
in_members [] = false
in_members (Fields last ∷ nest) = false
in_members (Members kind next left ∷ nest) = true

-- a value has ended that opened nothing, or this is now open in it
abbrev pub with_opened : Option Open → List Open → List Open
with_opened None nest = ended nest
with_opened (Some o) nest = o ∷ nest

-- the first n of the frames, the last of them first
abbrev pub innermost_first : List Open → ℕ → List Open
innermost_first frames zero = []
innermost_first frames (suc n) = slice_index_or frames n (Fields (pos 0)) ∷ innermost_first frames n

-- the innermost is a struct
abbrev pub in_fields : List Open → Bool
in_fields [] = false
in_fields (Fields last ∷ nest) = true
in_fields (Members kind next left ∷ nest) = false

-- the number of its last field
abbrev pub last_number : List Open → ℤ
last_number [] = pos 0
last_number (Fields last ∷ nest) = last
last_number (Members kind next left ∷ nest) = pos 0

-- behind a field's header, or behind the end of the struct
abbrev pub after_header : Option (ℤ × Kind) → List Open → List Open
after_header None nest = ended (below_top nest)
after_header (Some f) nest = Fields f.0 ∷ below_top nest
