-- The names of some fields, and of one more.
use Rattle.std.proofs.Common.{◌≡◌, ℕ, zero, suc, ◌+◌, List, [], ◌∷◌, ◌++◌, map, drop, slice_get, Some, append_assoc, sym, ◌∙◌, ap, arith}
use Rattle.std.specs.Str.{encode_utf8_all}

drop_here : (xs : List (List ℕ)) (i : ℕ) (x : List ℕ) → slice_get xs i ≡ Some x → drop i xs ≡ x ∷ drop (suc i) xs
drop_here [] i x e = absurd (cc)
drop_here (y ∷ ys) zero x e = let same : y ≡ x = cc in ap (λ l. l ∷ ys) same
drop_here (y ∷ ys) (suc i) x e = drop_here ys i x e

pub named_more : (texts names : List (List ℕ)) (i : ℕ) (text : List ℕ) → slice_get texts i ≡ Some text
    → names ++ map encode_utf8_all (drop i texts) ≡ map encode_utf8_all texts
    → (names ++ encode_utf8_all text ∷ []) ++ map encode_utf8_all (drop (i + 1) texts) ≡ map encode_utf8_all texts
named_more texts names i text e h =
    let next : suc i ≡ i + 1 = omega arith in
    append_assoc names (encode_utf8_all text ∷ []) (map encode_utf8_all (drop (i + 1) texts))
    ∙ ap (λ n. names ++ encode_utf8_all text ∷ map encode_utf8_all (drop n texts)) (sym next)
    ∙ ap (λ l. names ++ map encode_utf8_all l) (sym (drop_here texts i text e)) ∙ h
