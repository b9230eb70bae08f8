-- The kinds of values and their codes (Apache Thrift compact protocol, "Struct encoding" and "List and
-- Set"): a field header, a list header and a map header name a kind by these four bits.
use Rattle.std.specs.Prelude.{ℕ, ◌==◌, if◌then◌else◌, Option, Some, None}
use Rattle.thrift_compact.specs.declared.kinds.Kind.{Kind}
use Rattle.thrift_compact.specs.declared.kinds.Kind.TheVariants.{True, False, I8, I16, I32, I64, Double, Binary, List, Set, Map, Struct}

-- the code of a kind
abbrev pub kind_code : Kind → ℕ
kind_code True = 1
kind_code False = 2
kind_code I8 = 3
kind_code I16 = 4
kind_code I32 = 5
kind_code I64 = 6
kind_code Double = 7
kind_code Binary = 8
kind_code List = 9
kind_code Set = 10
kind_code Map = 11
kind_code Struct = 12

-- the kind that has a code, if one has it
abbrev pub kind_of : ℕ → Option Kind
kind_of code =
    if code == 1 then Some True
    else if code == 2 then Some False
    else if code == 3 then Some I8
    else if code == 4 then Some I16
    else if code == 5 then Some I32
    else if code == 6 then Some I64
    else if code == 7 then Some Double
    else if code == 8 then Some Binary
    else if code == 9 then Some List
    else if code == 10 then Some Set
    else if code == 11 then Some Map
    else if code == 12 then Some Struct
    else None
