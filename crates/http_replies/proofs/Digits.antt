-- Hexadecimal digits by a table, and digits written before others.
use Rattle.std.proofs.Common.{◌≡◌, ℕ, zero, suc, ◌+◌, ◌-◌, ◌<◌, ◌≤◌, List, ◌∷◌, length, set, take, drop, get_or, refl, ap, ◌∙◌, arith, add-one}
use Rattle.std.specs.Prelude.{codes, slice_range}
use Rattle.std.specs.Char.{digit_char}
use Rattle.std.proofs.lemmas.List.{drop-set}

pub digit_at : (d : ℕ) → d < 16 → get_or (codes "0123456789abcdef") d 0 ≡ digit_char d
digit_at zero small = refl
digit_at (suc zero) small = refl
digit_at (suc (suc zero)) small = refl
digit_at (suc (suc (suc zero))) small = refl
digit_at (suc (suc (suc (suc zero)))) small = refl
digit_at (suc (suc (suc (suc (suc zero))))) small = refl
digit_at (suc (suc (suc (suc (suc (suc zero)))))) small = refl
digit_at (suc (suc (suc (suc (suc (suc (suc zero))))))) small = refl
digit_at (suc (suc (suc (suc (suc (suc (suc (suc zero)))))))) small = refl
digit_at (suc (suc (suc (suc (suc (suc (suc (suc (suc zero))))))))) small = refl
digit_at (suc (suc (suc (suc (suc (suc (suc (suc (suc (suc zero)))))))))) small = refl
digit_at (suc (suc (suc (suc (suc (suc (suc (suc (suc (suc (suc zero))))))))))) small = refl
digit_at (suc (suc (suc (suc (suc (suc (suc (suc (suc (suc (suc (suc zero)))))))))))) small = refl
digit_at (suc (suc (suc (suc (suc (suc (suc (suc (suc (suc (suc (suc (suc zero))))))))))))) small = refl
digit_at (suc (suc (suc (suc (suc (suc (suc (suc (suc (suc (suc (suc (suc (suc zero)))))))))))))) small = refl
digit_at (suc (suc (suc (suc (suc (suc (suc (suc (suc (suc (suc (suc (suc (suc (suc zero))))))))))))))) small = refl
digit_at (suc (suc (suc (suc (suc (suc (suc (suc (suc (suc (suc (suc (suc (suc (suc (suc d)))))))))))))))) small = absurd (omega arith)

-- a byte written before a range that reaches the end makes the range longer
pub range_set : (xs : List ℕ) (start y : ℕ) → 1 ≤ start → start ≤ 16 → length xs ≡ 16
    → slice_range (set xs (start - 1) y) (start - 1) 16 ≡ y ∷ slice_range xs start 16
range_set xs start y some low len =
    let back : start - 1 + 1 ≡ start = omega arith in
    let count : 16 - (start - 1) ≡ 16 - start + 1 = omega arith in
    ap (take (16 - (start - 1))) (drop-set xs (start - 1) y (omega arith) ∙ ap (λ k. y ∷ drop k xs) back)
    ∙ ap (λ k. take k (y ∷ drop start xs)) (count ∙ add-one (16 - start))
