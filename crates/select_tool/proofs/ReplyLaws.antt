-- Facts of the told object and body.
use Rattle.std.proofs.Common.{ℕ, List, Option, None, Some, IfSome}
use Rattle.select_ports.specs.Stored.{Objects}
use Rattle.select_tool.specs.Replies.{IfTold}

body_told : (left : Option (List ℕ)) (P : List ℕ → Type 0) → ((body : List ℕ) → P body) → IfSome left P
body_told None P each = tt
body_told (Some body) P each = each body

object_told : (object left : Option (List ℕ)) (P : List ℕ → List ℕ → Type 0) → ((object body : List ℕ) → P object body)
    → IfSome object (λ object. IfSome left (λ body. P object body))
object_told None left P each = tt
object_told (Some object) left P each = body_told left (P object) (each object)

-- what holds of every object and body holds of those that are told
pub all_told : (held : Option Objects) (left : Option (List ℕ)) (name : List ℕ) (P : List ℕ → List ℕ → Type 0)
    → ((object body : List ℕ) → P object body) → IfTold held left name P
all_told None left name P each = tt
all_told (Some objects) left name P each = object_told (objects name) left P each
