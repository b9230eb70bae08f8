-- A buffer that is filled piece by piece.
use Rattle.std.proofs.Common.{◌≡◌, ℕ, ◌+◌, ◌-◌, ◌≤◌, List, ◌++◌, length, take, drop, sym, ap, ◌∙◌, arith, length-take, length-append, length-drop}
use Rattle.std.proofs.lemmas.List.{take-append-le}
use Rattle.std.proofs.Math.Seq.{take-append-add}
use borrow.Rule.Slice.PartMut.{put_mid}

-- what stands at the front after a part from place a on was written
pub take-filled : (a k n : ℕ) (xs ys : List ℕ) → a ≤ length xs → n ≤ length ys → take (a + n) (put_mid a k xs ys) ≡ take a xs ++ take n ys
take-filled a k n xs ys within some =
    let rest = ys ++ drop k (drop a xs) in
    let front : length (take a xs) ≡ a = rw length-take (omega arith) in
    ap (λ m. take (m + n) (take a xs ++ rest)) (sym front) ∙ take-append-add (take a xs) rest n
    ∙ ap (λ l. take a xs ++ l) (take-append-le n ys (drop k (drop a xs)) some)

pub length-filled : (a k : ℕ) (xs ys : List ℕ) → a ≤ length xs → k ≡ length xs - a → length ys ≡ k → length (put_mid a k xs ys) ≡ length xs
length-filled a k xs ys within all len = simp (length-append, length-take, length-drop) (omega arith)
