-- Lemmas on varints.
use Rattle.std.proofs.Common.{◌≡◌, ℕ, ◌+◌, ◌-◌, ◌*◌, ◌%◌, ◌^◌, ◌<◌, ◌≤◌, List, [], ◌∷◌, length, drop, get_or, arith, lit<, suc, zero, drop-cons}
use Rattle.std.proofs.Math.Nat.{one-le-pow, pow-succ'}
use Rattle.thrift_compact.specs.Varints.{varint_number, low_groups}

-- k groups stand for a number below 128 ^ k
pub group_bound : (k : ℕ) (bytes : List ℕ) → length bytes ≤ k → varint_number (low_groups bytes) < 128 ^ k
group_bound k [] h = one-le-pow k 128 (lit< tt)
group_bound zero (b ∷ bytes) h = absurd (omega arith)
group_bound (suc k) (b ∷ bytes) h =
    rw pow-succ' (omega (arith, group_bound k bytes (omega arith)))

-- ten groups stand for a number below 2 ^ 70
pub ten_groups : (bytes : List ℕ) → length bytes ≤ 10 → varint_number (low_groups bytes) < 2 ^ 70
ten_groups bytes h = group_bound 10 bytes h

-- the number of the groups from one place earlier
pub number_from_before : (bytes : List ℕ) (index number : ℕ) → 0 < index → index ≤ length bytes → number ≡ varint_number (low_groups (drop index bytes)) → number * 128 + get_or bytes (index - 1) 0 % 128 ≡ varint_number (low_groups (drop (index - 1) bytes))
number_from_before bytes zero number some within e = absurd (omega arith)
number_from_before bytes (suc i) number some within e =
    let here : suc i - 1 ≡ i = omega arith in
    let inside : i < length bytes = omega arith in
    rw (here, drop-cons bytes i 0 inside) (omega (arith, e))
