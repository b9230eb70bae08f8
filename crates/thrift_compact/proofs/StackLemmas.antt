-- Lemmas on the stack of what is open.
use Rattle.std.proofs.Common.{◌≡◌, ℕ, zero, suc, ◌+◌, ◌<◌, ◌≤◌, ◌≢◌, List, ◌∷◌, length, refl, arith, add-one, get_or-set_other, get_or-set_same}
use Rattle.std.proofs.Math.ListN.{set}
use Rattle.thrift_compact.specs.declared.stack.Open.{Open}
use Rattle.thrift_compact.specs.Opens.{innermost_first}

pub stack_len : (frames : List Open) (n : ℕ) → length (innermost_first frames n) ≡ n
stack_len frames zero = refl
stack_len frames (suc n) = omega (arith, stack_len frames n)

-- a write above the frames leaves them
pub stack_above : (frames : List Open) (i n : ℕ) (x : Open) → n ≤ i → innermost_first (set frames i x) n ≡ innermost_first frames n
stack_above frames i zero x h = refl
stack_above frames i (suc n) x h =
    let below : n ≤ i = omega arith in
    let other : n ≢ i = omega arith in
    rw (stack_above frames i n x below, get_or-set_other) refl

pub stack_push : (frames : List Open) (i : ℕ) (x : Open) → i < length frames → innermost_first (set frames i x) (i + 1) ≡ x ∷ innermost_first frames i
stack_push frames i x h =
    let same : i ≤ i = omega arith in
    rw (add-one, stack_above frames i i x same, get_or-set_same) refl
