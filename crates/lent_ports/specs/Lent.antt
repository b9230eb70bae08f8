-- What a store of one object holds.
use Rattle.std.specs.Prelude.{ℕ, Bool, true, false, List, length, Option, None, Some, if◌then◌else◌}
use Rattle.std.specs.Str.{bytes_eq}
use Rattle.select_ports.specs.Stored.{Objects, Opened}

-- the one object, under its name
abbrev pub only : List ℕ → List ℕ → Objects
only name bytes other = if bytes_eq name other then Some bytes else None

-- it is open, or nothing is
abbrev pub opened : Bool → List ℕ → Opened
opened false bytes = None
opened true bytes = Some (length bytes, Some bytes)
