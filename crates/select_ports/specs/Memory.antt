-- The values of the forms in memory.
use Rattle.std.specs.Prelude.{◌≡◌, ℕ, ◌+◌, ◌-◌, ◌<◌, List, [], ◌∷◌, length, if◌then◌else◌, Option, None, Some, option_and_then, Result, MatchResult}
use Rattle.std.specs.Option.{option_map}
use Rattle.std.specs.List.{slice_get}
use Rattle.std.specs.Str.{bytes_eq}
use Rattle.select_ports.specs.Causes.{RoseBy}
use Rattle.select_ports.specs.Stored.{Objects, Opened}
use Rattle.select_ports.specs.Turns.{Script}

-- an object: the bytes of its name, and its own
pub record NamedBytes : Type 0 where
  pub name : List ℕ
  pub bytes : List ℕ

-- the bytes of each name's first object
abbrev pub first_of : List NamedBytes → Objects
first_of [] name = None
first_of (object ∷ objects) name = if bytes_eq object.name name then Some object.bytes else first_of objects name

-- the object of these bytes, open
abbrev pub opened : NamedBytes → ℕ × Option (List ℕ)
opened object = (length object.bytes, Some object.bytes)

-- the object at this place of the list, open
abbrev pub opened_at : List NamedBytes → Option ℕ → Opened
opened_at objects place = option_map opened (option_and_then (λ i. slice_get objects i) place)

-- how many bytes the open object has from the place on
abbrev pub size_left : Opened → ℕ → ℕ
size_left None at = 0
size_left (Some object) at = object.0 - at

-- a store in memory
pub record StoreState : Type 0 where
  pub objects : List NamedBytes
  pub current : Opened
  pub script : Script
  pub faults : ℕ
  pub taken : ℕ
  pub absent : ℕ

-- an input in memory: the bytes still to come
pub record SourceState : Type 0 where
  pub left : List ℕ
  pub script : Script
  pub faults : ℕ
  pub taken : ℕ

-- an output in memory: the bytes written so far, and for how many there is memory
pub record SinkState : Type 0 where
  pub written : List ℕ
  pub capacity : ℕ
  pub script : Script
  pub faults : ℕ

-- so many bytes more want more memory
abbrev pub LacksRoom : SinkState → ℕ → Type 0
LacksRoom s n = s.capacity < length s.written + n

-- the count rose by one at a failure, and at nothing else
abbrev pub CountsFailure : {A E : Type 0} → ℕ → ℕ → Result A E → Type 0
CountsFailure before now result = MatchResult result (λ _. now ≡ before) (λ _. RoseBy 1 before now)

-- the object at this place is the first of its name
pub record IsFirst (objects : List NamedBytes) (name : List ℕ) (place : ℕ) : Type 0 where
  pub object : NamedBytes
  pub here : slice_get objects place ≡ Some object
  pub bytes : first_of objects name ≡ Some object.bytes
