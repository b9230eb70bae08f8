-- The values of the forms over real things.
use Rattle.std.specs.Prelude.{ℕ, List, Option}
use Rattle.select_ports.specs.Stored.{Opened}

-- a store over a folder
pub record FileState : Type 0 where
  pub current : Opened
  pub faults : ℕ
  pub taken : ℕ
  pub absent : ℕ

-- an input over a reader: what the reader tells of the bytes still to come, which a real one doesn't
pub record ReaderState : Type 0 where
  pub left : Option (List ℕ)
  pub faults : ℕ
  pub taken : ℕ

-- an output over a writer: what the writer tells of the bytes written, which a real one doesn't
pub record WriterState : Type 0 where
  pub written : Option (List ℕ)
  pub faults : ℕ
