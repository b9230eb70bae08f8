-- What a contract sees of an output buffer.
use Rattle.std.specs.Prelude.{ℕ, List}

-- how many bytes fit in all, and the bytes so far
pub record Room : Type 0 where
  pub room : ℕ
  pub bytes : List ℕ
