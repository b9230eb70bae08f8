use Rattle.std.proofs.Common.{◌≤◌, ◌+◌, ◌*◌, ◌-◌, ℕ, List, [], ◌∷◌, length, Result}
use Rattle.thrift_compact.specs.declared.faults.ThriftFault.{ThriftFault}
use Rattle.thrift_compact.specs.declared.stack.Open.{Open}
use Rattle.thrift_compact.specs.Runs.{Runs, weight}
use Rattle.thrift_compact.proofs.skipping.skip_opened.Given as goal

-- what passing on from here answers, passing over the whole answers
pub record IsHere (bytes : List ℕ) (already from : ℕ) (first : Open) (at : ℕ) (nest : List Open) : Type 0 where
  pub forward : from ≤ at
  pub within : at ≤ length bytes
  pub room : already + length nest ≤ 32
  pub answers : (answer : Result ℕ ThriftFault) → Runs already bytes answer nest at → Runs already bytes answer (first ∷ []) from

abbrev pub invariant-loop-stack : goal.invariant-loop-stack
invariant-loop-stack l = IsHere l.bytes l.already l.at l.fn.first l.place l.stack

abbrev pub decreases-loop-stack : goal.decreases-loop-stack
decreases-loop-stack l = 2 * (length l.bytes - l.place) + weight l.stack
