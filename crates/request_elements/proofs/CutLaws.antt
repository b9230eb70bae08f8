-- Cutting goes piece by piece.
use Rattle.std.proofs.Common.{◌≡◌, ℕ, zero, suc, ◌+◌, ◌==◌, Bool, true, false, List, [], ◌∷◌, ◌++◌, length, drop, refl, ap, ◌∙◌, arith, eqb-true}
use Rattle.request_elements.specs.Pieces.{char_data, unfit, has, up_to, tag, piece_from, further, cut_behind, cut}

cut_skips : (k at : ℕ) (bs : List ℕ) → cut_behind k at bs ≡ cut_behind 0 (at + k) (drop k bs)
cut_skips zero at bs = let e : at + 0 ≡ at = omega arith in rw e refl
cut_skips (suc k) at [] = refl
cut_skips (suc k) at (b ∷ bs) =
    let e : at + suc k ≡ at + 1 + k = omega arith in rw e (cut_skips k (at + 1) bs)

pub cut_nil : (at : ℕ) → cut at [] ≡ []
unfolding cut
cut_nil at = refl

pub cut_cons : (at b : ℕ) (bs : List ℕ) → cut at (b ∷ bs) ≡ record { at = at; piece = piece_from b bs } ∷ cut (at + 1 + further b bs) (drop (further b bs) bs)
unfolding cut
cut_cons at b bs = ap (λ l. record { at = at; piece = piece_from b bs } ∷ l) (cut_skips (further b bs) (at + 1) bs)

-- a `<` with no `>` behind it
pub cut_unfit : (at : ℕ) (bs : List ℕ) → has 62 bs ≡ false → cut at (60 ∷ bs) ≡ record { at = at; piece = unfit } ∷ cut (at + 1) bs
cut_unfit at bs e =
    let z : at + 1 + 0 ≡ at + 1 = omega arith in
    cut_cons at 60 bs ∙ rw (e, z) refl

-- a tag, with the bytes behind it
pub cut_tag_at : (at : ℕ) (bs : List ℕ) → has 62 bs ≡ true
    → cut at (60 ∷ bs) ≡ record { at = at; piece = tag (up_to 62 bs) } ∷ cut (at + length (up_to 62 bs) + 2) (drop (length (up_to 62 bs) + 1) bs)
cut_tag_at at bs e =
    let z : at + 1 + (length (up_to 62 bs) + 1) ≡ at + length (up_to 62 bs) + 2 = omega arith in
    cut_cons at 60 bs ∙ rw (e, z) refl

-- a text, with the bytes behind it
pub cut_text_at : (at b : ℕ) (bs : List ℕ) → (b == 60) ≡ false
    → cut at (b ∷ bs) ≡ record { at = at; piece = char_data (up_to 60 (b ∷ bs)) } ∷ cut (at + length (up_to 60 (b ∷ bs))) (drop (length (up_to 60 (b ∷ bs))) (b ∷ bs))
cut_text_at at b bs e =
    let z : at + 1 + length (up_to 60 bs) ≡ at + suc (length (up_to 60 bs)) = omega arith in
    cut_cons at b bs ∙ rw (e, z) refl

pub drop_behind : (pre : List ℕ) (x : ℕ) (rest : List ℕ) → drop (length pre + 1) (pre ++ x ∷ rest) ≡ rest
drop_behind [] x rest = refl
drop_behind (p ∷ pre) x rest = let e : suc (length pre) + 1 ≡ suc (length pre + 1) = omega arith in rw e (drop_behind pre x rest)

-- ---- as the cursor asks

pub cut_no_bytes : (at : ℕ) (bs : List ℕ) → length bs ≡ 0 → cut at bs ≡ []
cut_no_bytes at [] e = cut_nil at
cut_no_bytes at (b ∷ bs) e = absurd (omega arith)

other : (a b : ℕ) (t : Bool) → (a == b) ≡ t → (a ≡ b → ⊥) → t ≡ false
other a b true e n = absurd (n (eqb-true a b e))
other a b false e n = refl

pub cut_text_of : (at first : ℕ) (rest bs : List ℕ) → bs ≡ first ∷ rest → (first ≡ 60 → ⊥)
    → cut at bs ≡ record { at = at; piece = char_data (up_to 60 bs) } ∷ cut (at + length (up_to 60 bs)) (drop (length (up_to 60 bs)) bs)
cut_text_of at first rest bs e n = rw e (cut_text_at at first rest (other first 60 (first == 60) refl n))
