-- Counts of numbers.
use Rattle.std.proofs.Common.{◌≡◌, ℕ, Bool, true, false, zero, suc, ◌+◌, ◌/◌, ◌^◌, List, [], ◌∷◌, ◌++◌, drop, refl, sym, ap, ◌∙◌, arith}
use Rattle.std.specs.Prelude.{nat_le, if◌then◌else◌}
use Rattle.packed_bits.specs.Packed.{little}
use Rattle.parquet_runs.specs.Hybrid.{run_numbers, numbers, copies_from, count_from}
use Rattle.parquet_runs.specs.Cursors.{numbers_left}
use Rattle.parquet_runs.specs.declared.cursor.RunCursor.{RunCursor}
use Rattle.parquet_runs.proofs.Turns.{behind_it}

more_copies : (b : Bool) (n : ℕ) → (if b then 1 else 0) + (if b then n else 0) ≡ (if b then suc n else 0)
more_copies true n = omega arith
more_copies false n = refl

no_copies : (b : Bool) → ◌≡◌ {A = ℕ} (if b then 0 else 0) 0
no_copies true = refl
no_copies false = refl

copies_count : (least n number step bits : ℕ) (rest : List ℕ) → step ≡ 0
    → count_from least (run_numbers n number step bits ++ rest) ≡ copies_from number n least + count_from least rest
unfolding count_from
copies_count least n number (suc step) bits rest copies = absurd (omega (arith, copies))
copies_count least zero number zero bits rest copies =
    let none : copies_from number 0 least ≡ 0 = no_copies (nat_le least number) in
    omega (arith, none)
copies_count least (suc n) number zero bits rest copies =
    let more : copies_from number 1 least + copies_from number n least ≡ copies_from number (suc n) least = more_copies (nat_le least number) n in
    let others = copies_count least n number zero bits rest refl in
    ap (λ k. copies_from number 1 least + k) others ∙ omega (arith, more)

-- copies were counted
pub counted_copies : (c : RunCursor) (bytes : List ℕ) (least : ℕ) → c.step ≡ 0
    → count_from least (numbers_left c bytes)
    ≡ copies_from c.number c.inside least + count_from least (numbers_left (record c { inside = 0 }) bytes)
unfolding numbers_left
counted_copies c bytes least copies =
    copies_count least c.inside c.number c.step (little bytes / 2 ^ c.bit) (numbers c.width c.behind 0 (drop c.at bytes)) copies
    ∙ ap (λ ns. copies_from c.number c.inside least + count_from least ns) (sym (behind_it (record c { inside = 0 }) bytes refl))

-- a number was counted
pub counted_one : (least number : ℕ) (old new : List ℕ) → old ≡ number ∷ new
    → count_from least old ≡ copies_from number 1 least + count_from least new
unfolding count_from
counted_one least number old new is = ap (count_from least) is

pub none_counted : (least : ℕ) (ns : List ℕ) → ns ≡ [] → count_from least ns ≡ 0
unfolding count_from
none_counted least ns is = ap (count_from least) is
