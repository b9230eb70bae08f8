-- Sizes of runs.
use Rattle.std.proofs.Common.{◌≡◌, ℕ, Bool, true, false, ◌+◌, ◌-◌, ◌*◌, ◌^◌, ◌<◌, ◌≤◌, List, None, Some, Option, if◌then◌else◌, arith, ap, ◌∙◌}
use Rattle.std.specs.Prelude.{min, nat_le, Result, Ok, Err}
use Rattle.std.specs.List.{position}
use Rattle.thrift_compact.specs.declared.faults.ThriftFault.{ThriftFault}
use Rattle.thrift_compact.specs.Varints.{varint_at, varint_to, is_last}
use Rattle.std.proofs.Math.Nat.{mul_assoc, mul_comm, mul-le-mul_right}

-- a product that is below the largest number of 64 bits is what it is kept as
pub product : (p room : ℕ) → min p (2 ^ 64 - 1) ≤ room → room < 2 ^ 32 → min p (2 ^ 64 - 1) ≡ p
product p room within few = omega (arith, within, few)

-- the wanted numbers of packed groups have no more bits than the groups have bytes
pub few_enough : (count groups width head len : ℕ) → count ≤ groups * 8 → groups * width ≤ len - head → head ≤ len
    → 8 * head + count * width ≤ 8 * len
few_enough count groups width head len few fits within =
    let more : count * width ≤ groups * 8 * width = mul-le-mul_right width few in
    let turned : groups * 8 * width ≡ 8 * (groups * width) = ap (λ x. x * width) (mul_comm groups 8) ∙ mul_assoc 8 groups width in
    omega (arith, more, turned, fits, within)

ok_same : {A E : Type 0} (z y : A) → ◌≡◌ {A = Result A E} (Ok z) (Ok y) → z ≡ y
ok_same z y is = cc

err_no : {A E : Type 0} (e : E) (y : A) → ◌≡◌ {A = Result A E} (Err e) (Ok y) → ⊥
err_no e y is = cc

some_when : (a b : Bool) (n last : ℕ) (f g : ThriftFault) (x : ℕ × ℕ) → (if a then Err f else if b then Err g else Ok (n, last + 1)) ≡ Ok x → 0 < x.1
some_when true b n last f g x is = absurd (err_no f x is)
some_when false true n last f g x is = absurd (err_no g x is)
some_when false false n last f g x is =
    let e : last + 1 ≡ x.1 = ap (λ y. y.1) (ok_same (n, last + 1) x is) in
    omega (arith, e)

some_to : (limit : ℕ) (bytes : List ℕ) (last : Option ℕ) (x : ℕ × ℕ) → varint_to limit bytes last ≡ Ok x → 0 < x.1
some_to limit bytes None x is = absurd (err_no _ x is)
some_to limit bytes (Some last) x is = some_when (nat_le 10 last) _ _ last _ _ x is

-- a varint has a byte at least
pub some_taken : (limit : ℕ) (bytes : List ℕ) (x : ℕ × ℕ) → varint_at limit bytes ≡ Ok x → 0 < x.1
unfolding varint_at
some_taken limit bytes x is = some_to limit bytes (position is_last bytes) x is
