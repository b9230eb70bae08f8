-- A trimmed text as a part of the text.
use Rattle.std.proofs.Common.{◌≡◌, ℕ, suc, ◌-◌, ◌≤◌, Bool, true, false, if◌then◌else◌, List, [], ◌∷◌, ◌++◌, take, drop, length, reverse, refl, sym, ◌∙◌, ap, arith}
use Rattle.std.proofs.lemmas.List.{reverse-append, reverse-reverse, take-append-drop}
use Rattle.std.proofs.Math.Seq.{take-length, take-append_seam}
use Rattle.text_view.specs.Trimmed.{contains, without_leading, without_trailing, trimmed}
use Rattle.text_view.specs.declared.view.Side.{Side}
use Rattle.text_view.specs.declared.view.Side.TheVariants.{Leading, Trailing, Both}
use Rattle.value_text.specs.Cuts.{passed}

-- how many characters go in front
step : (b : Bool) (c : ℕ) (cs rest : List ℕ) → rest ≡ drop (length cs - length rest) cs → length rest ≤ length cs → (if b then rest else c ∷ cs) ≡ drop (suc (length cs) - length (if b then rest else c ∷ cs)) (c ∷ cs)
step true c cs rest e h =
    let n : suc (length cs) - length rest ≡ suc (length cs - length rest) = omega arith in rw n e
step false c cs rest e h =
    let n : suc (length cs) - suc (length cs) ≡ 0 = omega arith in rw n refl

shorter : (b : Bool) (c : ℕ) (cs rest : List ℕ) → length rest ≤ length cs → length (if b then rest else c ∷ cs) ≤ suc (length cs)
shorter true c cs rest h = omega arith
shorter false c cs rest h = omega arith

pub leading_shorter : (set cs : List ℕ) → length (without_leading set cs) ≤ length cs
leading_shorter set [] = omega arith
leading_shorter set (c ∷ cs) = shorter (contains set c) c cs (without_leading set cs) (leading_shorter set cs)

leading_part : (set cs : List ℕ) → without_leading set cs ≡ drop (length cs - length (without_leading set cs)) cs
leading_part set [] = refl
leading_part set (c ∷ cs) = step (contains set c) c cs (without_leading set cs) (leading_part set cs) (leading_shorter set cs)

-- the front of a list whose end was taken off behind
front_of_reverse : (n : ℕ) (cs : List ℕ) → take (length (reverse (drop n (reverse cs)))) cs ≡ reverse (drop n (reverse cs))
front_of_reverse n cs =
    let r = reverse cs in
    let split : cs ≡ reverse (drop n r) ++ reverse (take n r) =
    sym (reverse-reverse cs) ∙ ap reverse (sym (take-append-drop n r)) ∙ reverse-append (take n r) (drop n r) in
    ap (λ l. take (length (reverse (drop n r))) l) split ∙ take-append_seam (reverse (drop n r)) (reverse (take n r))

trailing_part : (set cs : List ℕ) → take (length (without_trailing set cs)) cs ≡ without_trailing set cs
unfolding without_trailing
trailing_part set cs =
    let r = reverse cs in
    let n = length r - length (without_leading set r) in
    let e : reverse (without_leading set r) ≡ reverse (drop n r) = ap reverse (leading_part set r) in
    rw e (front_of_reverse n cs)

drop_none : (cs : List ℕ) → drop 0 cs ≡ cs
drop_none [] = refl
drop_none (c ∷ cs) = refl

pub trimmed_part : (side : Side) (set cs : List ℕ) → take (length (trimmed side set cs)) (drop (passed side set cs) cs) ≡ trimmed side set cs
trimmed_part Leading set cs = rw (← leading_part set cs) (take-length (without_leading set cs))
trimmed_part Trailing set cs = rw (drop_none cs) (trailing_part set cs)
trimmed_part Both set cs = rw (← leading_part set cs) (trailing_part set (without_leading set cs))
