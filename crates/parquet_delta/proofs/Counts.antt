-- Values that are still to come.
use Rattle.std.proofs.Common.{◌≡◌, ℕ, zero, suc, ◌+◌, ◌-◌, ◌*◌, ◌%◌, ◌^◌, ◌<◌, ◌≤◌, List, [], ◌∷◌, length, drop, Some, refl, sym, ap, ◌∙◌, subst, arith}
use Rattle.std.specs.Int.{div_ceil}
use Rattle.std.proofs.lemmas.Grind.{div_ceil_times}
use Rattle.parquet_delta.specs.declared.word.Word.{Word}
use Rattle.parquet_delta.specs.Numbers.{signed_of, next_sum}
use Rattle.parquet_delta.specs.Blocks.{Place, end_of, deltas_of}
use Rattle.parquet_delta.specs.Lists.{values_from}
use Rattle.parquet_delta.proofs.Behind.{length_deltas}

pub none_left : (word : Word) (n sum : ℕ) (deltas : List ℕ) → n ≡ 0 → values_from word n sum deltas ≡ []
unfolding values_from
none_left word n sum deltas none = ap (λ k. values_from word k sum deltas) none

-- the next value, and others behind it
pub one_left : (word : Word) (n sum : ℕ) (d : ℕ) (old new : List ℕ) → 0 < n → old ≡ d ∷ new
    → values_from word n sum old ≡ signed_of word sum ∷ values_from word (n - 1) ((sum + d) % 2 ^ 64) new
unfolding values_from
one_left word zero sum d old new some is = absurd (omega (arith, some))
one_left word (suc n) sum d old new some is =
    let e : suc n - 1 ≡ n = omega arith in
    rw e (rw is refl)

-- the last value
pub last_left : (word : Word) (n sum : ℕ) (deltas : List ℕ) → 0 < n → n - 1 ≡ 0
    → values_from word n sum deltas ≡ signed_of word sum ∷ values_from word (n - 1) sum deltas
unfolding values_from
last_left word zero sum deltas some last = absurd (omega (arith, some))
last_left word (suc n) sum deltas some last =
    let e : n ≡ 0 = omega (arith, last) in
    rw last (ap (λ k. signed_of word sum ∷ values_from word k (next_sum sum deltas) (drop 1 deltas)) e)

-- the miniblocks have a delta for each value but the first
pub enough_deltas : (count minis values : ℕ) (p : Place) (rest deltas : List ℕ) → 0 < values → values ≡ p.values → minis ≡ div_ceil (count - 1) values
    → end_of minis p ≡ Some rest → deltas ≡ deltas_of minis p → count ≤ length deltas + 1
enough_deltas count minis values p rest deltas some same ceil is made =
    let all : length deltas ≡ minis * values = ap length made ∙ length_deltas minis p rest is ∙ ap (λ v. minis * v) (sym same) in
    let bound : count - 1 ≤ minis * values = subst (λ m. count - 1 ≤ m * values) (sym ceil) (div_ceil_times (count - 1) values some).0 in
    omega (arith, all, bound)
