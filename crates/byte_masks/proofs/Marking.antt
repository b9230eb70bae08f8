-- What a mask says of the bytes that it was made from.
use Rattle.std.proofs.Common.{◌≡◌, ◌↔◌, ℕ, zero, suc, ◌+◌, ◌<◌, ◌≤◌, cond, Bool, true, false, List, [], ◌∷◌, ◌++◌, length, map, get_or, leb, replicate, w8, ◌%◌, ◌^◌, refl, sym, ap, ◌∙◌, arith, ◌⊎◌, inl, inr, ⊎_elim}
use Rattle.std.proofs.lemmas.Bool.{cases_lt}
use Rattle.std.proofs.lemmas.List.{get_or-map, get_or_past, length-map}
use Rattle.std.proofs.lemmas.Simd.{bit_mask_l, tops_compared, mask_l-mod}
use Rattle.std.specs.Simd.Lanes.{mask_l, zip2, top}
use Rattle.std.specs.Int.{bit_at}
use Rattle.byte_masks.specs.Masks.{Marks, is_high, Passes, set_places, places_of, marked}
use Rattle.byte_masks.proofs.SetBits.{bit_cases, set_places-yes, set_places-no, set_places-nil}

cond_tells : (b : Bool) → (cond {A = ℕ} b 1 0 ≡ 1) ↔ (b ≡ true)
cond_tells true = (λ h. refl, λ h. refl)
cond_tells false = (λ h. absurd (omega arith), λ h. absurd (cc))

-- the mask of the lanes that pass
pub Marks-lanes : (test : ℕ → Bool) (bytes : List ℕ) → Marks test bytes (mask_l (map test bytes))
Marks-lanes test bytes = record {
  each = λ k.
      let bit = bit_mask_l (map test bytes) k in
      ⊎_elim
      (λ l.
      let e : bit_at (mask_l (map test bytes)) k ≡ cond (test (get_or bytes k 0)) 1 0 = bit ∙ ap (λ b. cond b 1 0) (get_or-map test bytes k 0 false l) in
      let t = cond_tells (test (get_or bytes k 0)) in
      (λ h. (l, t.0 (sym e ∙ h)), λ h. e ∙ t.1 h.1))
      (λ past.
      let out : length (map test bytes) ≤ k = omega (arith, length-map bytes test) in
      let e : bit_at (mask_l (map test bytes)) k ≡ 0 = bit ∙ ap (λ b. cond b 1 0) (get_or_past (map test bytes) k false out) in
      (λ h. absurd (omega arith), λ h. absurd (omega (arith, h.0))))
      (cases_lt k (length bytes));
}

splat_zip2 : {Z : Type 0} (f : ℕ → ℕ → Z) (x : ℕ) (ys : List ℕ) → zip2 f (replicate (length ys) x) ys ≡ map (f x) ys
splat_zip2 f x [] = refl
splat_zip2 f x (y ∷ ys) = ap (λ rest. f x y ∷ rest) (splat_zip2 f x ys)

-- `to_bitmask` of `simd_ge` with 128
pub high_bitmask : (v : List ℕ) (n : ℕ) → length v ≡ n → n ≤ 64
    → mask_l (map (top 7) (zip2 (λ a b. cond (leb a b) 255 0) (replicate n 128) v)) % 2 ^ 64 ≡ mask_l (map is_high v)
high_bitmask v n long small =
    ap (λ ms. mask_l ms % 2 ^ 64) (tops_compared w8 leb (replicate n 128) v ∙ ap (λ m. zip2 leb (replicate m 128) v) (sym long) ∙ splat_zip2 leb 128 v)
    ∙ mask_l-mod (map is_high v) 64 (omega (arith, length-map v is_high))

-- the bits of m from bit k on say which bytes pass
Agrees : (ℕ → Bool) → ℕ → ℕ → List ℕ → Type 0
Agrees test m k bytes = (j : ℕ) → (bit_at m (k + j) ≡ 1) ↔ ((j < length bytes) × Passes test bytes j)

pub places_of-yes : (test : ℕ → Bool) (i b : ℕ) (bs : List ℕ) → test b ≡ true → places_of test i (b ∷ bs) ≡ i ∷ places_of test (i + 1) bs
unfolding places_of
places_of-yes test i b bs h = rw h refl

pub places_of-no : (test : ℕ → Bool) (i b : ℕ) (bs : List ℕ) → test b ≡ false → places_of test i (b ∷ bs) ≡ places_of test (i + 1) bs
unfolding places_of
places_of-no test i b bs h = rw h refl

pub places_of-nil : (test : ℕ → Bool) (i : ℕ) → places_of test i [] ≡ []
unfolding places_of
places_of-nil test i = refl

Agrees-next : (test : ℕ → Bool) (m k b : ℕ) (bs : List ℕ) → Agrees test m k (b ∷ bs) → Agrees test m (k + 1) bs
unfolding Agrees
Agrees-next test m k b bs agrees j =
    let t = agrees (suc j) in
    let e : k + suc j ≡ k + 1 + j = omega arith in (
      λ h. let u = t.0 (ap (bit_at m) e ∙ h) in (omega (arith, u.0), u.1),
      λ h. sym (ap (bit_at m) e) ∙ t.1 (omega (arith, h.0), h.1),
    )

Agrees-here : (test : ℕ → Bool) (m k : ℕ) (bytes : List ℕ) → Agrees test m k bytes → (bit_at m k ≡ 1) ↔ ((0 < length bytes) × Passes test bytes 0)
unfolding Agrees
Agrees-here test m k bytes agrees =
    let t = agrees 0 in
    let e : k + 0 ≡ k = omega arith in
    (λ h. t.0 (ap (bit_at m) e ∙ h), λ h. sym (ap (bit_at m) e) ∙ t.1 h)

Agrees-still : (test : ℕ → Bool) (m k : ℕ) → Agrees test m k [] → Agrees test m (k + 1) []
unfolding Agrees
Agrees-still test m k agrees j =
    let t = agrees (suc j) in
    let e : k + suc j ≡ k + 1 + j = omega arith in
    (λ h. absurd (omega (arith, (t.0 (ap (bit_at m) e ∙ h)).0)), λ h. absurd (omega (arith, h.0)))

Agrees-none : (test : ℕ → Bool) (s m k n : ℕ) → Agrees test m k [] → set_places s m k n ≡ []
Agrees-none test s m k zero agrees = set_places-nil s m k
Agrees-none test s m k (suc n) agrees =
    ⊎_elim
    (λ no. set_places-no s m k n no ∙ Agrees-none test s m (k + 1) n (Agrees-still test m k agrees))
    (λ yes. absurd (omega (arith, ((Agrees-here test m k [] agrees).0 yes).0)))
    (bit_cases m k)

pub test_cases : (b : Bool) → (b ≡ true) ⊎ (b ≡ false)
test_cases true = inl refl
test_cases false = inr refl

Agrees-places : (test : ℕ → Bool) (s m k n : ℕ) (bytes : List ℕ) → length bytes ≤ n → Agrees test m k bytes → set_places s m k n ≡ places_of test (s + k) bytes
Agrees-places test s m k zero [] short agrees = set_places-nil s m k ∙ sym (places_of-nil test (s + k))
Agrees-places test s m k zero (b ∷ bs) short agrees = absurd (omega arith)
Agrees-places test s m k (suc n) [] short agrees = Agrees-none test s m k (suc n) agrees ∙ sym (places_of-nil test (s + k))
Agrees-places test s m k (suc n) (b ∷ bs) short agrees =
    let here = Agrees-here test m k (b ∷ bs) agrees in
    let e : s + (k + 1) ≡ s + k + 1 = omega arith in
    let later : set_places s m (k + 1) n ≡ places_of test (s + k + 1) bs =
    Agrees-places test s m (k + 1) n bs (omega arith) (Agrees-next test m k b bs agrees) ∙ ap (λ i. places_of test i bs) e in
    ⊎_elim
    (λ yes. set_places-yes s m k n (here.1 (omega arith, yes)) ∙ ap (λ ps. (s + k) ∷ ps) later ∙ sym (places_of-yes test (s + k) b bs yes))
    (λ no.
    ⊎_elim
    (λ clear. set_places-no s m k n clear ∙ later ∙ sym (places_of-no test (s + k) b bs no))
    (λ set. let h : test b ≡ true = (here.0 set).1 in absurd (cc))
    (bit_cases m k))
    (test_cases (test b))

-- the set bits of a mask are the places of the bytes that it marks
pub Marks-places : (test : ℕ → Bool) (s m : ℕ) (bytes : List ℕ) → length bytes ≤ 64 → Marks test bytes m → marked s m ≡ places_of test s bytes
unfolding Agrees
Marks-places test s m bytes short marks =
    let e : s + 0 ≡ s = omega arith in
    let all : Agrees test m 0 bytes = λ j.
    let z : 0 + j ≡ j = omega arith in
    (λ h. (marks.each j).0 (sym (ap (bit_at m) z) ∙ h), λ h. ap (bit_at m) z ∙ (marks.each j).1 h) in
    Agrees-places test s m 0 64 bytes short all ∙ ap (λ i. places_of test i bytes) e

pub places_of-append : (test : ℕ → Bool) (i n : ℕ) (xs ys : List ℕ) → length xs ≡ n → places_of test i (xs ++ ys) ≡ places_of test i xs ++ places_of test (i + n) ys
places_of-append test i n [] ys e =
    let z : i ≡ i + n = omega arith in
    ap (λ j. places_of test j ys) z ∙ ap (λ ps. ps ++ places_of test (i + n) ys) (sym (places_of-nil test i))
places_of-append test i n (x ∷ xs) ys e =
    let z : i + 1 + length xs ≡ i + n = omega arith in
    let later : places_of test (i + 1) (xs ++ ys) ≡ places_of test (i + 1) xs ++ places_of test (i + n) ys =
    places_of-append test (i + 1) (length xs) xs ys refl ∙ ap (λ j. places_of test (i + 1) xs ++ places_of test j ys) z in
    ⊎_elim
    (λ yes. places_of-yes test i x (xs ++ ys) yes ∙ ap (λ ps. i ∷ ps) later ∙ ap (λ ps. ps ++ places_of test (i + n) ys) (sym (places_of-yes test i x xs yes)))
    (λ no. places_of-no test i x (xs ++ ys) no ∙ later ∙ ap (λ ps. ps ++ places_of test (i + n) ys) (sym (places_of-no test i x xs no)))
    (test_cases (test x))
