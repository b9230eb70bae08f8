-- Passing over a value: what is open is read on, item by item, until nothing is open or an item is faulty.
use Rattle.std.specs.Prelude.{◌≡◌, ℕ, ◌+◌, Bool, true, false, List, [], ◌∷◌, length, drop, Option, None, Some, Result, Ok, Err, ℤ}
use Rattle.thrift_compact.specs.declared.faults.ThriftFault.{ThriftFault}
use Rattle.thrift_compact.specs.declared.kinds.Kind.{Kind}
use Rattle.thrift_compact.specs.declared.stack.Open.{Open}
use Rattle.thrift_compact.specs.declared.stack.Open.TheVariants.{Fields, Members}
use Rattle.thrift_compact.specs.Opens.{ended, with_opened}
use Rattle.thrift_compact.specs.Items.{Item, then_read, header_at, value_at}

-- a fault of bytes that begin at a place
abbrev pub placed : ℕ → ThriftFault → ThriftFault
placed at f = record { code = f.code; at = at + f.at }

-- an item that begins behind so many bytes
abbrev pub behind : {X : Type 0} → ℕ → Item X → Item X
behind taken (Ok x) = Ok (x.0, taken + x.1)
behind taken (Err f) = Err (placed taken f)

-- a value of a kind, inside what is open: what is open then, and the bytes that are taken
unfoldable pub value_step : ℕ → Bool → Kind → List Open → List ℕ → Item (List Open)
value_step already member kind nest bytes =
    then_read (value_at (already + length nest) member kind bytes) (λ v. Ok (with_opened v.0 nest, v.1))

-- behind a field's header its value, or the end of the struct
abbrev pub field_step : ℕ → List Open → List ℕ → Option (ℤ × Kind) × ℕ → Item (List Open)
field_step already below bytes (None, taken) = Ok (ended below, taken)
field_step already below bytes (Some f, taken) =
    behind taken (value_step already false f.1 (Fields f.0 ∷ below) (drop taken bytes))

-- the next field or member of what is open, beside so many constructs that are open around it
unfoldable pub step : ℕ → List Open → List ℕ → Item (List Open)
step already [] bytes = Ok ([], 0)
step already (Fields last ∷ below) bytes =
    then_read (header_at last bytes) (field_step already below bytes)
step already (Members kind next left ∷ below) bytes =
    value_step already true kind (Members kind next left ∷ below) bytes

-- from a place on, with this open, the answer is the place behind it all, or the first fault
pub data Runs (already : ℕ) (bytes : List ℕ) (answer : Result ℕ ThriftFault) : List Open → ℕ → Type 0 where
  nothing_open : (at : ℕ) → answer ≡ Ok at → Runs already bytes answer [] at
  faulty : (o : Open) (nest : List Open) (at : ℕ) (f : ThriftFault) → step already (o ∷ nest) (drop at bytes) ≡ Err f → answer ≡ Err (placed at f) → Runs already bytes answer (o ∷ nest) at
  goes_on : (o : Open) (nest : List Open) (at : ℕ) (next : List Open) (taken : ℕ) → step already (o ∷ nest) (drop at bytes) ≡ Ok (next, taken) → Runs already bytes answer next (at + taken) → Runs already bytes answer (o ∷ nest) at

-- a value is passed over from a place on, where its front was read so
abbrev pub PassesFrom : ℕ → List ℕ → ℕ → Result ℕ ThriftFault → Item (Option Open) → Type 0
PassesFrom already bytes at answer (Err f) = answer ≡ Err (placed at f)
PassesFrom already bytes at answer (Ok (None, taken)) = answer ≡ Ok (at + taken)
PassesFrom already bytes at answer (Ok (Some o, taken)) =
    Runs already bytes answer (o ∷ []) (at + taken)

-- a value of a kind is passed over from a place on
abbrev pub Passes : ℕ → Bool → Kind → List ℕ → ℕ → Result ℕ ThriftFault → Type 0
Passes already member kind bytes at answer =
    PassesFrom already bytes at answer (value_at already member kind (drop at bytes))

-- members come before the first field of a struct that they open
abbrev pub weight : List Open → ℕ
weight [] = 0
weight (Fields last ∷ nest) = 0
weight (Members kind next left ∷ nest) = 1

-- a struct that opens
abbrev pub fresh : Option Open → ℕ
fresh None = 0
fresh (Some (Fields last)) = 1
fresh (Some (Members kind next left)) = 0
