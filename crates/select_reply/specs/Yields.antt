-- What the records of an object yield under a query.
use Rattle.std.specs.Prelude.{ℕ, Bool, true, false, List, [], ◌++◌, sum_by, Option, None, Some, ◌∷◌, if◌then◌else◌}
use Rattle.std.specs.List.{flat_map, list_any}
use Rattle.select_reply.specs.declared.code.Code.{Code}

-- a record gives nothing, its output bytes with their delimiter, or one code
pub data Yield : Type 0 where
  silent : Yield
  writes : List ℕ → Yield
  fails : Code → Yield

-- a record: the place of its first byte, its length in bytes, and what it yields
pub record Yielded : Type 0 where
  pub start : ℕ
  pub len : ℕ
  pub gives : Yield

abbrev pub is_output : Yield → Bool
is_output silent = false
is_output (writes bytes) = true
is_output (fails code) = false

abbrev pub is_fault : Yield → Bool
is_fault silent = false
is_fault (writes bytes) = false
is_fault (fails code) = true

abbrev pub bytes_of : Yield → List ℕ
bytes_of silent = []
bytes_of (writes bytes) = bytes
bytes_of (fails code) = []

-- how many of the records have an output
abbrev pub outputs : List Yielded → ℕ
outputs ys = sum_by (λ y. if is_output y.gives then 1 else 0) ys

-- some record yields a code
abbrev pub has_fault : List Yielded → Bool
has_fault ys = list_any (λ y. is_fault y.gives) ys

-- the outputs of the records, joined
abbrev pub output : List Yielded → List ℕ
output ys = flat_map (λ y. bytes_of y.gives) ys

-- the lengths of the records together
abbrev pub total_len : List Yielded → ℕ
total_len ys = sum_by (λ y. y.len) ys

abbrev pub fault_on : ℕ → Yield → Option (Code × ℕ) → Option (Code × ℕ)
fault_on start silent later = later
fault_on start (writes bytes) later = later
fault_on start (fails code) later = Some (code, start)

-- the first code that a record yields, and the record's place
abbrev pub fault : List Yielded → Option (Code × ℕ)
fault [] = None
fault (y ∷ rest) = fault_on y.start y.gives (fault rest)
