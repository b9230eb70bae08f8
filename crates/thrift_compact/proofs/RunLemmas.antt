-- Lemmas on passing over what is open.
use Rattle.std.proofs.Common.{◌≡◌, ◌≤◌, ◌<◌, ◌+◌, ℕ, List, [], ◌∷◌, length, drop, Result, Ok, Err, refl, arith}
use Rattle.thrift_compact.specs.declared.faults.ThriftFault.{ThriftFault}
use Rattle.thrift_compact.specs.declared.stack.Open.{Open}
use Rattle.thrift_compact.specs.Runs.{Runs, nothing_open, faulty, goes_on, step, placed}

pub ends_here : (already : ℕ) (bytes : List ℕ) (nest : List Open) (at : ℕ) → length nest ≤ 0 → Runs already bytes (Ok at) nest at
ends_here already bytes [] at h = nothing_open at refl
ends_here already bytes (o ∷ nest) at h = absurd (omega arith)

pub faults_here : (already : ℕ) (bytes : List ℕ) (nest : List Open) (at : ℕ) (f : ThriftFault) → 0 < length nest → step already nest (drop at bytes) ≡ Err f → Runs already bytes (Err (placed at f)) nest at
faults_here already bytes [] at f h e = absurd (omega arith)
faults_here already bytes (o ∷ nest) at f h e = faulty o nest at f e refl

pub steps_here : (already : ℕ) (bytes : List ℕ) (nest : List Open) (at : ℕ) (next : List Open) (taken : ℕ) → 0 < length nest → step already nest (drop at bytes) ≡ Ok (next, taken) → (answer : Result ℕ ThriftFault) → Runs already bytes answer next (at + taken) → Runs already bytes answer nest at
steps_here already bytes [] at next taken h e answer r = absurd (omega arith)
steps_here already bytes (o ∷ nest) at next taken h e answer r = goes_on o nest at next taken e r
