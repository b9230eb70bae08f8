-- One more byte behind the bytes of a mask.
use Rattle.std.proofs.Common.{◌≡◌, ◌≢◌, ◌↔◌, ℕ, ◌+◌, ◌*◌, ◌%◌, ◌^◌, ◌<◌, Bool, true, false, List, [], ◌∷◌, ◌++◌, length, get_or, bit_or, refl, sym, ap, ◌∙◌, arith, ⊎_elim, length-append, w64}
use Rattle.std.proofs.lemmas.Bool.{cases_lt}
use Rattle.std.proofs.Math.ListN.{get_or-append}
use Rattle.std.proofs.Math.Seq.{get_or-append_seam}
use Rattle.std.proofs.lemmas.Nat.Bits.{bit_at_set_same, bit_at_set_other}
use Rattle.std.specs.Int.{bit_at}
use Rattle.byte_masks.specs.Masks.{Marks}

-- the bits of a mask below place n and at place n, seen as the mask of one byte more
Marks-one_more : (test : ℕ → Bool) (bytes : List ℕ) (b n m m' : ℕ) → length bytes ≡ n → Marks test bytes m
    → ((k : ℕ) → k ≢ n → bit_at m' k ≡ bit_at m k) → (bit_at m' n ≡ 1) ↔ (test b ≡ true) → Marks test (bytes ++ b ∷ []) m'
Marks-one_more test bytes b n m m' long marks others here =
    let more : length (bytes ++ b ∷ []) ≡ n + 1 = omega (arith, length-append bytes (b ∷ [])) in
    let last : get_or (bytes ++ b ∷ []) n 0 ≡ b = ap (λ j. get_or (bytes ++ b ∷ []) j 0) (sym long) ∙ get_or-append_seam bytes b [] 0 in
    record {
      each = λ k.
          let t = marks.each k in
          ⊎_elim
          (λ low.
          let l : k < length bytes = omega arith in
          let apart : k ≢ n = λ e. absurd (omega arith) in
          let same = ap test (get_or-append bytes (b ∷ []) 0 k l) in
          (λ h. (omega arith, same ∙ (t.0 (sym (others k apart) ∙ h)).1), λ h. others k apart ∙ t.1 (l, sym same ∙ h.1)))
          (λ ge.
          ⊎_elim
          (λ above.
          let apart : k ≢ n = λ e. absurd (omega arith) in
          (λ h. absurd (omega (arith, (t.0 (sym (others k apart) ∙ h)).0)), λ h. absurd (omega (arith, h.0))))
          (λ le.
          let e : k ≡ n = omega arith in
          let byte : get_or (bytes ++ b ∷ []) k 0 ≡ b = ap (λ j. get_or (bytes ++ b ∷ []) j 0) e ∙ last in
          (λ h. (omega arith, ap test byte ∙ here.0 (sym (ap (bit_at m') e) ∙ h)), λ h. ap (bit_at m') e ∙ here.1 (sym (ap test byte) ∙ h.1)))
          (cases_lt n k))
          (cases_lt k n);
    }

pub Marks-yes : (test : ℕ → Bool) (bytes : List ℕ) (b n m : ℕ) → n < 64 → length bytes ≡ n → test b ≡ true → Marks test bytes m
    → Marks test (bytes ++ b ∷ []) (bit_or m (1 * 2 ^ n % 2 ^ 64))
Marks-yes test bytes b n m short long passes marks =
    Marks-one_more test bytes b n m _ long marks (λ k apart. bit_at_set_other w64 m n short k apart)
    (λ h. passes, λ h. bit_at_set_same w64 m n short)

pub Marks-no : (test : ℕ → Bool) (bytes : List ℕ) (b n m : ℕ) → length bytes ≡ n → test b ≡ false → Marks test bytes m
    → Marks test (bytes ++ b ∷ []) m
Marks-no test bytes b n m long fails marks =
    Marks-one_more test bytes b n m m long marks (λ k apart. refl)
    (λ h. absurd (omega (arith, ((marks.each n).0 h).0)), λ h. absurd (cc))
