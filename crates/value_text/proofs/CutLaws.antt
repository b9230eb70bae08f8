-- Cuts of a text.
use Rattle.std.proofs.Common.{◌≡◌, ℕ, zero, suc, ◌+◌, ◌-◌, ◌≤◌, min, List, [], ◌∷◌, Option, Some, None, map, take, drop, length, refl, sym, ◌∙◌, ap, arith, length-drop}
use Rattle.std.proofs.lemmas.Bool.Decides.{nat_tests}
use Rattle.std.proofs.lemmas.List.{take_all, take-map, drop-map, drop-drop, drop-take, length-map, length-take}
use Rattle.std.proofs.lemmas.Str.{encodes-chars, length-le-encodes}
use Rattle.std.proofs.lemmas.Str.Ascii.{uppercase-uppercase, lowercase-lowercase, lowercase-uppercase}
use Rattle.std.specs.Str.{chars, IsUtf8}
use Rattle.std.specs.Char.{to_ascii_uppercase, to_ascii_lowercase}
use Rattle.value_text.specs.declared.cut.Case.{Case}
use Rattle.value_text.specs.declared.cut.Case.TheVariants.{Kept, Upper, Lower}
use Rattle.value_text.specs.declared.cut.Cut.{Cut}
use Rattle.value_text.specs.Cuts.{cased, at_most, cut_of}

-- ---- all characters

pub map_same : (cs : List ℕ) → map (λ c. c) cs ≡ cs
map_same [] = refl
map_same (c ∷ cs) = ap (λ t. c ∷ t) (map_same cs)

drop_none : (cs : List ℕ) → drop 0 cs ≡ cs
drop_none [] = refl
drop_none (c ∷ cs) = refl

pub cut_whole : (cs : List ℕ) → cut_of (record { from = 0; limit = None; case = Kept }) cs ≡ cs
unfolding cut_of
cut_whole cs = rw (drop_none cs) (map_same cs)

-- ---- a text without a limit

pub length-chars : (bs : List ℕ) → IsUtf8 bs → length (chars bs) ≤ length bs
length-chars bs u = omega (arith, length-le-encodes (chars bs), ap length (encodes-chars bs u))

pub take_rest : (bs : List ℕ) (n : ℕ) → IsUtf8 bs → take (length bs) (drop n (chars bs)) ≡ drop n (chars bs)
take_rest bs n u = take_all (length bs) (drop n (chars bs)) (omega (arith, length-drop n (chars bs), length-chars bs u))

-- ---- letter case

uppercase_lowercase : (c : ℕ) → to_ascii_uppercase (to_ascii_lowercase c) ≡ to_ascii_uppercase c
uppercase_lowercase c = grind (arith, nat_tests)

upper_cased : (k : Case) (c : ℕ) → to_ascii_uppercase c ≡ to_ascii_uppercase (cased k c)
upper_cased Kept c = refl
upper_cased Upper c = sym (uppercase-uppercase c)
upper_cased Lower c = sym (uppercase_lowercase c)

lower_cased : (k : Case) (c : ℕ) → to_ascii_lowercase c ≡ to_ascii_lowercase (cased k c)
lower_cased Kept c = refl
lower_cased Upper c = sym (lowercase-uppercase c)
lower_cased Lower c = sym (lowercase-lowercase c)

map_map : (f g h : ℕ → ℕ) → ((c : ℕ) → f c ≡ g (h c)) → (cs : List ℕ) → map f cs ≡ map g (map h cs)
map_map f g h e [] = refl
map_map f g h e (c ∷ cs) = rw (e c, map_map f g h e cs) refl

pub cut_upper : (cut : Cut) (cs : List ℕ) → cut_of (record cut { case = Upper }) cs ≡ map to_ascii_uppercase (cut_of cut cs)
unfolding cut_of
cut_upper cut cs =
    map_map to_ascii_uppercase to_ascii_uppercase (cased cut.case) (upper_cased cut.case) (at_most cut.limit (drop cut.from cs))

pub cut_lower : (cut : Cut) (cs : List ℕ) → cut_of (record cut { case = Lower }) cs ≡ map to_ascii_lowercase (cut_of cut cs)
unfolding cut_of
cut_lower cut cs =
    map_map to_ascii_lowercase to_ascii_lowercase (cased cut.case) (lower_cased cut.case) (at_most cut.limit (drop cut.from cs))

-- ---- fewer characters

take_length : (n : ℕ) (xs : List ℕ) → take (min n (length xs)) xs ≡ take n xs
take_length zero xs = let e : min zero (length xs) ≡ zero = omega arith in rw e refl
take_length (suc n) [] = let e : min (suc n) 0 ≡ 0 = omega arith in rw e refl
take_length (suc n) (x ∷ xs) =
    let e : min (suc n) (suc (length xs)) ≡ suc (min n (length xs)) = omega arith in rw e (ap (λ t. x ∷ t) (take_length n xs))

drop_length : (n : ℕ) (xs : List ℕ) → drop (min n (length xs)) xs ≡ drop n xs
drop_length zero xs = let e : min zero (length xs) ≡ zero = omega arith in rw e refl
drop_length (suc n) [] = let e : min (suc n) 0 ≡ 0 = omega arith in rw e refl
drop_length (suc n) (x ∷ xs) =
    let e : min (suc n) (suc (length xs)) ≡ suc (min n (length xs)) = omega arith in rw e (drop_length n xs)

take_fewer : (n m : ℕ) (xs : List ℕ) → n ≤ m → take n (take m xs) ≡ take n xs
take_fewer zero m xs h = refl
take_fewer (suc n) zero xs h = absurd (omega arith)
take_fewer (suc n) (suc m) [] h = refl
take_fewer (suc n) (suc m) (x ∷ xs) h = ap (λ t. x ∷ t) (take_fewer n m xs (omega arith))

length_at_most : (limit : Option ℕ) (cs : List ℕ) → length (at_most limit cs) ≤ length cs
length_at_most None cs = omega arith
length_at_most (Some n) cs = omega (arith, length-take n cs)

at_most_sub : (limit : Option ℕ) (cs : List ℕ) (skip keep : ℕ) → skip + keep ≤ length (at_most limit cs) → take keep (drop skip (at_most limit cs)) ≡ take keep (drop skip cs)
at_most_sub None cs skip keep h = refl
at_most_sub (Some n) cs skip keep h =
    let within : skip + keep ≤ n = omega (arith, length-take n cs) in
    let whole : n ≡ skip + (n - skip) = omega arith in
    let cut : drop skip (take n cs) ≡ take (n - skip) (drop skip cs) = ap (λ m. drop skip (take m cs)) whole ∙ drop-take skip (n - skip) cs in
    ap (λ l. take keep l) cut ∙ take_fewer keep (n - skip) (drop skip cs) (omega arith)

-- the same of what a cut leaves, before the letter case
left_sub : (limit : Option ℕ) (cs : List ℕ) (first from count skip keep : ℕ) → skip ≡ min from (length (at_most limit (drop first cs))) → keep ≡ min count (length (at_most limit (drop first cs)) - skip) → take count (drop from (at_most limit (drop first cs))) ≡ take keep (drop (first + skip) cs)
left_sub limit cs first from count skip keep s k =
    let xs = at_most limit (drop first cs) in
    let front : drop from xs ≡ drop skip xs = sym (drop_length from xs) ∙ ap (λ n. drop n xs) (sym s) in
    let rest : length (drop skip xs) ≡ length xs - skip = length-drop skip xs in
    let kept : keep ≡ min count (length (drop skip xs)) = k ∙ ap (λ n. min count n) (sym rest) in
    let fewer : take count (drop skip xs) ≡ take keep (drop skip xs) = sym (take_length count (drop skip xs)) ∙ ap (λ n. take n (drop skip xs)) (sym kept) in
    ap (λ l. take count l) front ∙ fewer ∙ at_most_sub limit (drop first cs) skip keep (omega arith) ∙ ap (λ l. take keep l) (drop-drop skip first cs)

-- `skip` characters fewer in front, and `keep` of those behind them
pub cut_sub : (cut : Cut) (cs : List ℕ) (from count skip keep : ℕ) → skip ≡ min from (length (cut_of cut cs)) → keep ≡ min count (length (cut_of cut cs) - skip) → cut_of (record { from = cut.from + skip; limit = Some keep; case = cut.case }) cs ≡ take count (drop from (cut_of cut cs))
unfolding cut_of
cut_sub cut cs from count skip keep s k =
    let f = cased cut.case in
    let xs = at_most cut.limit (drop cut.from cs) in
    let n : length (map f xs) ≡ length xs = length-map xs f in
    let s' : skip ≡ min from (length xs) = s ∙ ap (λ m. min from m) n in
    let k' : keep ≡ min count (length xs - skip) = k ∙ ap (λ m. min count (m - skip)) n in
    let moved : take count (drop from (map f xs)) ≡ map f (take count (drop from xs)) = ap (λ l. take count l) (drop-map f from xs) ∙ take-map f count (drop from xs) in
    sym (moved ∙ ap (λ l. map f l) (left_sub cut.limit cs cut.from from count skip keep s' k'))

-- a cut that has characters left begins within them
pub cut_begins : (cut : Cut) (cs : List ℕ) → length (cut_of cut cs) ≤ length cs - cut.from
unfolding cut_of
cut_begins cut cs =
    omega (arith, length-map (at_most cut.limit (drop cut.from cs)) (cased cut.case), length_at_most cut.limit (drop cut.from cs), length-drop cut.from cs)
