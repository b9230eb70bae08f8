-- What a store holds, which of its objects is open, and what its calls say of them.
use Rattle.std.specs.Prelude.{◌≡◌, ℕ, ◌<◌, ◌≤◌, List, length, take, drop, Option, None, Some, IfSome, Result, Ok, Err}
use Rattle.select_ports.specs.Causes.{RoseBy}
use Rattle.select_ports.specs.declared.outcome.Failed.{Failed}
use Rattle.select_ports.specs.declared.store.Found.{Found}
use Rattle.select_ports.specs.declared.store.Found.TheVariants.{Missing, Size}

-- the bytes of each object by its name's bytes
abbrev pub Objects : Type 0
Objects = List ℕ → Option (List ℕ)

-- the open object: its size, and its bytes where they are told
abbrev pub Opened : Type 0
Opened = Option (ℕ × Option (List ℕ))

-- an object of this size is open, and its told bytes are so many
abbrev pub IsOpen : Opened → ℕ → Type 0
IsOpen None size = ⊥
IsOpen (Some object) size = (object.0 ≡ size) × IfSome object.1 (λ bytes. length bytes ≡ size)

-- an object is open, and the place isn't past its end
abbrev pub IsWithin : Opened → ℕ → Type 0
IsWithin None at = ⊥
IsWithin (Some object) at = at ≤ object.0

-- the open object goes on behind the place
abbrev pub GoesOn : Opened → ℕ → Type 0
GoesOn None at = ⊥
GoesOn (Some object) at = at < object.0

-- the told bytes of the open object from the place on begin with these
abbrev pub Begins : Opened → ℕ → List ℕ → Type 0
Begins None at bytes = ⊥
Begins (Some object) at bytes = IfSome object.1 (λ told. bytes ≡ take (length bytes) (drop at told))

-- the told objects have none of this name
abbrev pub LacksName : Option Objects → List ℕ → Type 0
LacksName None name = Unit {0}
LacksName (Some objects) name = objects name ≡ None

-- an object of the name and of this size was opened, with its bytes where they are told
abbrev pub OpensName : Option Objects → List ℕ → ℕ → Opened → Type 0
OpensName None name size now = now ≡ Some (size, None)
OpensName (Some objects) name size now =
    (bytes : List ℕ) × (objects name ≡ Some bytes) × (length bytes ≡ size) × (now ≡ Some (size, Some bytes))

-- what `open` found: nothing is open after `Missing` and after a failure
abbrev pub Opens : Option Objects → List ℕ → Result Found Failed → Opened → Type 0
Opens held name (Ok Missing) now = LacksName held name × (now ≡ None)
Opens held name (Ok (Size size)) now = OpensName held name size now
Opens held name (Err failed) now = now ≡ None

-- the count of names that weren't found rises at `Missing` and at nothing else
abbrev pub CountsMissing : ℕ → ℕ → Result Found Failed → Type 0
CountsMissing before now (Ok Missing) = RoseBy 1 before now
CountsMissing before now (Ok (Size size)) = now ≡ before
CountsMissing before now (Err failed) = now ≡ before

-- what `read_at` gave: at most the buffer's length; below the size and with a buffer that isn't empty at least one byte;
-- the object's bytes where they are told
pub record ReadsAt (object : Opened) (at n : ℕ) (buffer : List ℕ) : Type 0 where
  pub within : n ≤ length buffer
  pub some : GoesOn object at → 0 < length buffer → 0 < n
  pub told : Begins object at (take n buffer)
