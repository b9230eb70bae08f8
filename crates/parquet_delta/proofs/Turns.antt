-- One miniblock more, and one delta more.
use Rattle.std.proofs.Common.{◌≡◌, ℕ, true, false, zero, suc, ◌+◌, ◌-◌, ◌/◌, ◌%◌, ◌^◌, ◌<◌, ◌≤◌, List, ◌∷◌, ◌++◌, length, None, Some, IsSome, refl, sym, ap, ◌∙◌, arith}
use Rattle.std.specs.Option.{option_and_then}
use Rattle.packed_bits.specs.Packed.{unpacked}
use Rattle.parquet_delta.specs.Blocks.{Mini, Place, mini_at, end_of, mini_deltas, deltas_of, joined_deltas}

-- no delta of a miniblock and then others
pub emptied : (inside : ℕ) (x : Mini) (more deltas : List ℕ) → inside ≡ 0 → mini_deltas inside x ++ more ≡ deltas → mini_deltas 0 x ++ more ≡ deltas
emptied inside x more deltas none is = ap (λ n. mini_deltas n x ++ more) (sym none) ∙ is

-- where no delta is left inside, but one is to come, a miniblock is
pub some_left : (minis : ℕ) (p : Place) (m : Mini) → 0 < length (mini_deltas 0 m ++ deltas_of minis p) → 1 ≤ minis
unfolding mini_deltas deltas_of unpacked
some_left zero p m some = absurd (omega (arith, some))
some_left (suc n) p m some = omega arith

pub not_none : (minis : ℕ) (p : Place) → 1 ≤ minis → IsSome (end_of minis p) → mini_at p ≡ None → ⊥
unfolding end_of
not_none zero p some there none = absurd (omega (arith, some))
not_none (suc n) p some there none =
    let no : false ≡ true = rw none at there in
    cc

pub rest_there : (minis : ℕ) (p : Place) (m : Mini × Place) → 1 ≤ minis → mini_at p ≡ Some m → IsSome (end_of minis p) → IsSome (end_of (minis - 1) m.1)
unfolding end_of
rest_there zero p m some is there = absurd (omega (arith, some))
rest_there (suc n) p m some is there =
    let e : suc n - 1 ≡ n = omega arith in
    rw e (rw is at there)

pub none_inside : (x : Mini) (deltas : List ℕ) → mini_deltas 0 x ++ deltas ≡ deltas
unfolding mini_deltas unpacked
none_inside x deltas = refl

pub entered : (minis values : ℕ) (p : Place) (m : Mini × Place) (x : Mini) → 1 ≤ minis → values ≡ p.values → mini_at p ≡ Some m
    → mini_deltas values m.0 ++ deltas_of (minis - 1) m.1 ≡ mini_deltas 0 x ++ deltas_of minis p
unfolding deltas_of
entered zero values p m x some same is = absurd (omega (arith, some))
entered (suc n) values p m x some same is =
    let e : suc n - 1 ≡ n = omega arith in
    rw e
    (rw same (sym (none_inside x (joined_deltas p.values (deltas_of n) (mini_at p)) ∙ ap (joined_deltas p.values (deltas_of n)) is)))

-- a delta of a miniblock was read
pub taken : (inside least width bits : ℕ) (more : List ℕ) → 0 < inside
    → mini_deltas inside (record { least = least; width = width; bits = bits }) ++ more
    ≡ (least + bits % 2 ^ width) % 2 ^ 64 ∷ (mini_deltas (inside - 1) (record { least = least; width = width; bits = bits / 2 ^ width }) ++ more)
unfolding mini_deltas unpacked
taken zero least width bits more some = absurd (omega (arith, some))
taken (suc n) least width bits more some =
    let e : suc n - 1 ≡ n = omega arith in
    rw e refl

-- a miniblock was passed
pub passed : (minis at : ℕ) (p : Place) (m : Mini × Place) → at < minis → mini_at p ≡ Some m → end_of (minis - at) p ≡ end_of (minis - (at + 1)) m.1
unfolding end_of
passed minis at p m below is =
    let e : minis - at ≡ suc (minis - (at + 1)) = omega arith in
    ap (λ n. end_of n p) e ∙ ap (option_and_then (λ x. end_of (minis - (at + 1)) x.1)) is

pub stopped : (minis at : ℕ) (p : Place) → at < minis → mini_at p ≡ None → end_of (minis - at) p ≡ None
unfolding end_of
stopped minis at p below is =
    let e : minis - at ≡ suc (minis - (at + 1)) = omega arith in
    ap (λ n. end_of n p) e ∙ ap (option_and_then (λ x. end_of (minis - (at + 1)) x.1)) is

pub ended : (minis at : ℕ) (p : Place) → minis ≡ at → end_of (minis - at) p ≡ Some p.bytes
unfolding end_of
ended minis at p is =
    let e : minis - at ≡ 0 = omega arith in
    ap (λ n. end_of n p) e
