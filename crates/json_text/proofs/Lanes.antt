-- A run of bytes that pass a test, seen a vector at a time through the mask of those that fail it.
use Rattle.std.proofs.Common.{◌≡◌, ℕ, ◌+◌, ◌*◌, ◌%◌, ◌^◌, ◌<◌, ◌≤◌, Bool, true, false, not, cond, ◌||◌, nat_lt, ◌==◌, eqb, ltb, List, [], ◌∷◌, map, length, take, drop, replicate, bit_or, refl, sym, ap, ap₂, ◌∙◌, arith}
use Rattle.std.proofs.lemmas.Simd.{chunk-drop, length-chunk, leading_from_mask_l, trailing_mask_l, mask_l-mod, zip2_splat, zip2_of_maps, map-map}
use Rattle.std.proofs.lemmas.List.{length-drop, length-map}
use Rattle.std.proofs.lemmas.List.Folds.{prefix_len-append}
use Rattle.std.proofs.lemmas.List.Sums.{prefix_len-le-length}
use Rattle.std.proofs.lemmas.Bool.{eq-eqb, ne_eqb}
use Rattle.std.specs.List.{prefix_len}
use Rattle.std.specs.Simd.Lanes.{mask_l, zip2, top}
use Rattle.std.specs.Int.Count.{count_trailing_zeros}
use Rattle.json_text.specs.Runs.{is_special, is_plain}

pub run_bound : (q : ℕ → Bool) (d : List ℕ) (i : ℕ) → i ≤ length d → i + prefix_len q (drop i d) ≤ length d
run_bound q d i h = omega (arith, prefix_len-le-length q (drop i d), length-drop i d)

none_fails : (b : Bool) (n l m : ℕ) → n ≤ l → cond (not b) (1 + n) 0 ≡ 1 + l → (n ≡ l → m ≡ 0) → cond b 1 0 + 2 * m ≡ 0
none_fails true n l m le e ih = absurd (omega arith)
none_fails false n l m le e ih = let z = ih (omega arith) in omega arith

all_pass : (p : ℕ → Bool) (xs : List ℕ) → prefix_len (λ x. not (p x)) xs ≡ length xs → mask_l (map p xs) ≡ 0
all_pass p [] e = refl
all_pass p (x ∷ xs) e = none_fails (p x) _ (length xs) _ (prefix_len-le-length (λ y. not (p y)) xs) (omega arith) (all_pass p xs)

split : (p : ℕ → Bool) (d : List ℕ) (i n : ℕ)
    → prefix_len (λ x. not (p x)) (drop i d)
    ≡ cond (eqb (prefix_len (λ x. not (p x)) (take n (drop i d))) (length (take n (drop i d)))) (length (take n (drop i d)) + prefix_len (λ x. not (p x)) (drop (i + n) d)) (prefix_len (λ x. not (p x)) (take n (drop i d)))
split p d i n = ap (prefix_len (λ x. not (p x))) (chunk-drop i n d) ∙ prefix_len-append (λ x. not (p x)) (take n (drop i d)) (drop (i + n) d)

pub run_through : (p : ℕ → Bool) (d : List ℕ) (i n : ℕ) → i + n ≤ length d → mask_l (map p (take n (drop i d))) ≡ 0
    → prefix_len (λ x. not (p x)) (drop i d) ≡ n + prefix_len (λ x. not (p x)) (drop (i + n) d)
run_through p d i n room none =
    let c = take n (drop i d) in
    split p d i n ∙ ap (λ b. cond b (length c + prefix_len (λ x. not (p x)) (drop (i + n) d)) (prefix_len (λ x. not (p x)) c)) (eq-eqb _ _ (leading_from_mask_l p c none))
    ∙ ap (λ k. k + prefix_len (λ x. not (p x)) (drop (i + n) d)) (length-chunk i n d room)

pub run_stops : (p : ℕ → Bool) (d : List ℕ) (i n : ℕ) → i + n ≤ length d → n ≤ 64 → 0 < mask_l (map p (take n (drop i d)))
    → prefix_len (λ x. not (p x)) (drop i d) ≡ count_trailing_zeros 64 (mask_l (map p (take n (drop i d))))
run_stops p d i n room short some =
    let c = take n (drop i d) in
    split p d i n ∙ ap (λ b. cond b (length c + prefix_len (λ x. not (p x)) (drop (i + n) d)) (prefix_len (λ x. not (p x)) c))
    (ne_eqb _ _ (λ (e : prefix_len (λ x. not (p x)) c ≡ length c). omega (arith, all_pass p c e)))
    ∙ sym (trailing_mask_l p 64 c (omega (arith, length-chunk i n d room)) some)

pub plain_stops : (d : List ℕ) (i n found : ℕ) → i + n ≤ length d → n ≤ 64 → found ≡ mask_l (map is_special (take n (drop i d))) → (found ≡ 0 → ⊥)
    → prefix_len is_plain (drop i d) ≡ count_trailing_zeros 64 found
plain_stops d i n found room short e some =
    run_stops is_special d i n room short (omega (arith, e)) ∙ ap (count_trailing_zeros 64) (sym e)

pub plain_through : (d : List ℕ) (i n found : ℕ) → i + n ≤ length d → found ≡ mask_l (map is_special (take n (drop i d))) → found ≡ 0
    → prefix_len is_plain (drop i d) ≡ n + prefix_len is_plain (drop (i + n) d)
plain_through d i n found room e none = run_through is_special d i n room (sym e ∙ none)

-- ---- the mask of the special bytes

abbrev hit : ℕ → ℕ → ℕ
hit a b = cond (eqb a b) 255 0

abbrev below : ℕ → ℕ → ℕ
below a b = cond (ltb a b) 255 0

tops : (a b c : Bool) → top 7 (bit_or (bit_or (cond a 255 0) (cond b 255 0)) (cond c 255 0)) ≡ ((a || b) || c)
tops true true true = refl
tops true true false = refl
tops true false true = refl
tops true false false = refl
tops false true true = refl
tops false true false = refl
tops false false true = refl
tops false false false = refl

each_top : (v : List ℕ) → map (λ x. top 7 (bit_or (bit_or (hit x 34) (hit x 92)) (below x 32))) v ≡ map is_special v
each_top [] = refl
each_top (x ∷ xs) = ap₂ (λ b bs. b ∷ bs) (tops (x == 34) (x == 92) (nat_lt x 32)) (each_top xs)

pub special_mask : (v : List ℕ) (n : ℕ) → length v ≡ n → n ≤ 64
    → mask_l (map (top 7) (zip2 bit_or (zip2 bit_or (zip2 hit v (replicate n 34)) (zip2 hit v (replicate n 92))) (zip2 below v (replicate n 32)))) % 2 ^ 64 ≡ mask_l (map is_special v)
special_mask v n long short =
    let either = zip2_of_maps bit_or (λ x. hit x 34) (λ x. hit x 92) v (zip2_splat hit v n 34 long) (zip2_splat hit v n 92 long) in
    let all = zip2_of_maps bit_or (λ x. bit_or (hit x 34) (hit x 92)) (λ x. below x 32) v either (zip2_splat below v n 32 long) in
    ap (λ l. mask_l l % 2 ^ 64) (ap (map (top 7)) all ∙ map-map (top 7) (λ x. bit_or (bit_or (hit x 34) (hit x 92)) (below x 32)) v ∙ each_top v)
    ∙ mask_l-mod (map is_special v) 64 (omega (arith, length-map v is_special))
