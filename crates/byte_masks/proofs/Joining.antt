-- A mask of a line joined from the masks of its front and its back, which may overlap.
use Rattle.std.proofs.Common.{get_or, true, false, ◌||◌, refl, inl, inr, Bool, subst, ◌≡◌, ◌↔◌, ℕ, ◌+◌, ◌-◌, ◌*◌, ◌/◌, ◌%◌, ◌^◌, ◌<◌, ◌≤◌, List, length, take, drop, bit_or, sym, ap, ◌∙◌, arith, pow_pos, ⊎_elim, ◌⊎◌, inl, inr}
use Rattle.std.proofs.lemmas.Bool.{cases_lt}
use Rattle.std.proofs.lemmas.List.{get_or-take, get_or-drop, length-take, length-drop}
use Rattle.std.proofs.lemmas.Nat.Bits.{bit_at-lt, bit_at-zero, bit_at_or, bit_at_above, bit_at_cat_low, bit_at_cat_high}
use Rattle.std.specs.Int.{bit_at}
use Rattle.byte_masks.specs.Masks.{Marks, Passes, is_byte, is_either}
use Rattle.byte_masks.proofs.SetBits.{bit_cases}

-- `m << by` at 64 bits
abbrev pub shifted : ℕ → ℕ → ℕ
shifted m by = m * 2 ^ by % 2 ^ 64

shifted-bit : (m by k : ℕ) → k < 64 → bit_at (shifted m by) k ≡ bit_at (m * 2 ^ by + 0) k
shifted-bit m by k l =
    let x = m * 2 ^ by in
    let e : x / 2 ^ 64 * 2 ^ 64 + x % 2 ^ 64 ≡ x + 0 = omega arith in
    sym (bit_at_cat_low (x / 2 ^ 64) 64 (x % 2 ^ 64) k l) ∙ ap (λ n. bit_at n k) e

shifted-below : (m by k : ℕ) → k < by → k < 64 → bit_at (shifted m by) k ≡ 0
shifted-below m by k l short = shifted-bit m by k short ∙ bit_at_cat_low m by 0 k l ∙ bit_at-zero k

shifted-inside : (m by k : ℕ) → by ≤ k → k < 64 → bit_at (shifted m by) k ≡ bit_at m (k - by)
shifted-inside m by k l short = shifted-bit m by k short ∙ bit_at_cat_high m by 0 k (pow_pos by) l

shifted-past : (m by k : ℕ) → 64 ≤ k → bit_at (shifted m by) k ≡ 0
shifted-past m by k l = bit_at_above (shifted m by) 64 k (omega arith) l

-- bit k of m says whether the byte at place i + k passes, for the w bytes from place i on
abbrev pub MarksFrom : (ℕ → Type 0) → ℕ → ℕ → ℕ → Type 0
MarksFrom P i w m = (k : ℕ) → (bit_at m k ≡ 1) ↔ ((k < w) × P (i + k))

Marks-from : (test : ℕ → Bool) (line : List ℕ) (i w m : ℕ) → i + w ≤ length line → Marks test (take w (drop i line)) m → MarksFrom (Passes test line) i w m
Marks-from test line i w m fits marks k =
    let t = marks.each k in
    let long : length (take w (drop i line)) ≡ w = omega (arith, length-take w (drop i line), length-drop i line) in
    let same = λ (l : k < w). ap test (get_or-take w (drop i line) k 0 l ∙ get_or-drop i line k 0) in (
      λ h. let u = t.0 h in let l : k < w = omega (arith, u.0) in (l, sym (same l) ∙ u.1),
      λ (l, h). t.1 (omega arith, same l ∙ h),
    )

either_bit : (a b k : ℕ) → bit_at (bit_or a b) k ≡ 1 → (bit_at a k ≡ 1) ⊎ (bit_at b k ≡ 1)
either_bit a b k h = ⊎_elim (λ no. ⊎_elim (λ no2. absurd (omega (arith, bit_at_or a b k))) inr (bit_cases b k)) inl (bit_cases a k)

left_bit : (a b k : ℕ) → bit_at a k ≡ 1 → bit_at (bit_or a b) k ≡ 1
left_bit a b k h = omega (arith, bit_at_or a b k, bit_at-lt b k)

right_bit : (a b k : ℕ) → bit_at b k ≡ 1 → bit_at (bit_or a b) k ≡ 1
right_bit a b k h = omega (arith, bit_at_or a b k, bit_at-lt a k)

-- of a shifted mask: a set bit stands for a byte that passes, and each byte that passes behind the shift has its bit
shifted-tells : (P : ℕ → Type 0) (by w m : ℕ) → MarksFrom P by w m → (k : ℕ) → bit_at (shifted m by) k ≡ 1 → (k < by + w) × P k
shifted-tells P by w m marks k h =
    ⊎_elim
    (λ l.
    ⊎_elim (λ below. absurd (omega (arith, shifted-below m by k below l)))
    (λ ge.
    let u = (marks (k - by)).0 (sym (shifted-inside m by k ge l) ∙ h) in
    let e : by + (k - by) ≡ k = omega arith in
    (omega (arith, u.0), subst P e u.1))
    (cases_lt k by))
    (λ past. absurd (omega (arith, shifted-past m by k past)))
    (cases_lt k 64)

shifted-told : (P : ℕ → Type 0) (by w m : ℕ) → MarksFrom P by w m → by + w ≤ 64 → (k : ℕ) → by ≤ k → k < by + w → P k → bit_at (shifted m by) k ≡ 1
shifted-told P by w m marks fits k low high here =
    let e : k ≡ by + (k - by) = omega arith in
    shifted-inside m by k low (omega arith) ∙ (marks (k - by)).1 (omega arith, subst P e here)

pub Marks-join : (test : ℕ → Bool) (line : List ℕ) (w by a b : ℕ) → by + w ≡ length line → by ≤ w → length line ≤ 64
    → Marks test (take w (drop 0 line)) a → Marks test (take w (drop by line)) b → Marks test line (bit_or a (shifted b by))
Marks-join test line w by a b long near short front back =
    let P : ℕ → Type 0 = Passes test line in
    let ahead : MarksFrom P 0 w a = Marks-from test line 0 w a (omega arith) front in
    let behind : MarksFrom P by w b = Marks-from test line by w b (omega arith) back in
    record {
      each = λ k.
          let z : 0 + k ≡ k = omega arith in (
            λ h.
                ⊎_elim
                (λ x. let u = (ahead k).0 x in let l : k < length line = omega (arith, u.0) in (l, subst P z u.1))
                (λ x. let u = shifted-tells P by w b behind k x in let l : k < length line = omega (arith, u.0) in (l, u.1))
                (either_bit a (shifted b by) k h),
            λ (l, h).
                ⊎_elim
                (λ lower. left_bit a (shifted b by) k ((ahead k).1 (lower, subst P (sym z) h)))
                (λ upper. right_bit a (shifted b by) k (shifted-told P by w b behind (omega arith) k (omega arith) (omega arith) h))
                (cases_lt k w),
          );
    }

or_tells : (a b : Bool) → (a || b ≡ true) ↔ ((a ≡ true) ⊎ (b ≡ true))
or_tells true b = (λ h. inl refl, λ h. refl)
or_tells false b = (λ h. inr h, ⊎_elim (λ h. absurd (cc)) (λ h. h))

-- the bits of two masks of the same bytes
pub Marks-either : (bytes : List ℕ) (x y a b : ℕ) → Marks (is_byte x) bytes a → Marks (is_byte y) bytes b → Marks (is_either x y) bytes (bit_or a b)
Marks-either bytes x y a b left right = record {
  each = λ k.
      let c : ℕ = get_or bytes k 0 in
      let t = or_tells (is_byte x c) (is_byte y c) in (
        λ h.
            ⊎_elim (λ l. let u = (left.each k).0 l in (u.0, t.1 (inl u.1))) (λ r. let u = (right.each k).0 r in (u.0, t.1 (inr u.1)))
            (either_bit a b k h),
        λ (l, h). ⊎_elim (λ p. left_bit a b k ((left.each k).1 (l, p))) (λ q. right_bit a b k ((right.each k).1 (l, q))) (t.0 h),
      );
}
