-- The set bits of a mask as a list of places.
use Rattle.std.proofs.Common.{◌≡◌, ◌≢◌, ℕ, zero, suc, ◌+◌, ◌<◌, ◌≤◌, ◌-◌, ◌*◌, ◌/◌, ◌%◌, pow_pos, ◌^◌, bit_and, w64, [], ◌∷◌, refl, sym, ap, ◌∙◌, arith, ◌⊎◌, inl, inr, ⊎_elim}
use Rattle.std.proofs.lemmas.Bool.{cases_lt}
use Rattle.std.proofs.lemmas.Nat.Bits.{bit_at-lt, bit_at-zero, bit_at-trailing_zeros, bit_at_and, bit_at_above, bit_at_ones_above, bit_at_cat_low, bit_at_cat_high, same_from_bits}
use Rattle.std.proofs.Math.Nat.{two-pow-succ}
use Rattle.std.specs.Int.{bit_at, trailing_zeros}
use Rattle.byte_masks.specs.Masks.{set_places, marked}

pub bit_cases : (m k : ℕ) → (bit_at m k ≡ 0) ⊎ (bit_at m k ≡ 1)
bit_cases m k = ⊎_elim (λ l. inl (omega arith)) (λ g. inr (omega (arith, bit_at-lt m k))) (cases_lt (bit_at m k) 1)

pub set_places-yes : (s m k n : ℕ) → bit_at m k ≡ 1 → set_places s m k (suc n) ≡ (s + k) ∷ set_places s m (k + 1) n
unfolding set_places
set_places-yes s m k n h = rw h refl

pub set_places-no : (s m k n : ℕ) → bit_at m k ≡ 0 → set_places s m k (suc n) ≡ set_places s m (k + 1) n
unfolding set_places
set_places-no s m k n h = rw h refl

pub set_places-nil : (s m k : ℕ) → set_places s m k zero ≡ []
unfolding set_places
set_places-nil s m k = refl

-- two masks agree on the n bits from bit k on
abbrev pub SameBits : ℕ → ℕ → ℕ → ℕ → Type 0
SameBits m m' k n = (i : ℕ) → k ≤ i → i < k + n → bit_at m' i ≡ bit_at m i

SameBits-next : (m m' k n : ℕ) → SameBits m m' k (suc n) → SameBits m m' (k + 1) n
SameBits-next m m' k n same i low high = same i (omega arith) (omega arith)

pub set_places-same : (s m m' k n : ℕ) → SameBits m m' k n → set_places s m' k n ≡ set_places s m k n
set_places-same s m m' k zero same = set_places-nil s m' k ∙ sym (set_places-nil s m k)
set_places-same s m m' k (suc n) same =
    let here : bit_at m' k ≡ bit_at m k = same k (omega arith) (omega arith) in
    let later = set_places-same s m m' (k + 1) n (SameBits-next m m' k n same) in
    ⊎_elim
    (λ no. set_places-no s m' k n (here ∙ no) ∙ later ∙ sym (set_places-no s m k n no))
    (λ yes. set_places-yes s m' k n (here ∙ yes) ∙ ap (λ ps. (s + k) ∷ ps) later ∙ sym (set_places-yes s m k n yes))
    (bit_cases m k)

-- m' is m without bit l, the lowest that is set
pub record DropsLowest (m m' l : ℕ) : Type 0 where
  pub set : bit_at m l ≡ 1
  pub below : (i : ℕ) → i < l → bit_at m i ≡ 0
  pub gone : bit_at m' l ≡ 0
  pub kept : (i : ℕ) → i < 64 → i ≢ l → bit_at m' i ≡ bit_at m i

-- every walk over set bits: the lowest comes first, and the others stay
pub set_places-lowest : (s m m' l k n : ℕ) → DropsLowest m m' l → k ≤ l → l < k + n → k + n ≤ 64
    → set_places s m k n ≡ (s + l) ∷ set_places s m' k n
set_places-lowest s m m' l k zero drops low high fits = absurd (omega arith)
set_places-lowest s m m' l k (suc n) drops low high fits =
    ⊎_elim
    (λ before.
    set_places-no s m k n (drops.below k before)
    ∙ set_places-lowest s m m' l (k + 1) n drops (omega arith) (omega arith) (omega arith)
    ∙ ap (λ ps. (s + l) ∷ ps) (sym (set_places-no s m' k n (drops.kept k (omega arith) (omega arith) ∙ drops.below k before))))
    (λ ge.
    let e : k ≡ l = omega arith in
    set_places-yes s m k n (ap (bit_at m) e ∙ drops.set)
    ∙ ap (λ p. (s + p) ∷ set_places s m (k + 1) n) e
    ∙ ap (λ ps. (s + l) ∷ ps)
    (sym (set_places-same s m m' (k + 1) n (λ i from to. drops.kept i (omega arith) (omega arith)))
    ∙ sym (set_places-no s m' k n (ap (bit_at m') e ∙ drops.gone))))
    (cases_lt k l)

pub set_places-none : (s k n : ℕ) → set_places s 0 k n ≡ []
set_places-none s k zero = set_places-nil s 0 k
set_places-none s k (suc n) = set_places-no s 0 k n (bit_at-zero k) ∙ set_places-none s (k + 1) n

doubled : (a b : ℕ) → (a * 2 + 1) * b ≡ a * (b + b) + b
doubled a b = grind arith

-- a number whose lowest set bit is l, in two parts
lowest-parts : (m l : ℕ) → bit_at m l ≡ 1 → ((i : ℕ) → i < l → bit_at m i ≡ 0) → m ≡ m / 2 ^ l / 2 * 2 ^ suc l + 2 ^ l
lowest-parts m l set below =
    let p = pow_pos l in
    let e : m / 2 ^ l * 2 ^ l + m % 2 ^ l ≡ m = omega arith in
    let low : m % 2 ^ l ≡ 0 =
    same_from_bits (m % 2 ^ l) 0 (λ k.
    ⊎_elim (λ h. sym (bit_at_cat_low (m / 2 ^ l) l (m % 2 ^ l) k h) ∙ ap (λ n. bit_at n k) e ∙ below k h ∙ sym (bit_at-zero k))
    (λ h. bit_at_above (m % 2 ^ l) l k (omega arith) h ∙ sym (bit_at-zero k)) (cases_lt k l)) in
    let h = m / 2 ^ l in
    let odd : h ≡ h / 2 * 2 + 1 = omega (arith, set) in
    let whole : m ≡ h * 2 ^ l = omega arith in
    whole ∙ ap (λ n. n * 2 ^ l) odd ∙ doubled (h / 2) (2 ^ l) ∙ ap (λ n. h / 2 * n + 2 ^ l) (sym (two-pow-succ l))

-- taking 1 away turns the lowest set bit and those below it
DropsLowest-and : (m l : ℕ) → bit_at m l ≡ 1 → ((i : ℕ) → i < l → bit_at m i ≡ 0) → DropsLowest m (bit_and m (m - 1)) l
DropsLowest-and m l set below =
    let q = m / 2 ^ l / 2 in
    let p = pow_pos l in
    let wide = two-pow-succ l in
    let whole : m ≡ q * 2 ^ suc l + 2 ^ l = lowest-parts m l set below in
    let less : m - 1 ≡ q * 2 ^ suc l + (2 ^ l - 1) = omega arith in
    let above = λ (i : ℕ) (h : suc l ≤ i).
    let x : bit_at (m - 1) i ≡ bit_at m i =
    ap (λ n. bit_at n i) less
    ∙ bit_at_cat_high q (suc l) (2 ^ l - 1) i (omega arith) h
    ∙ sym (bit_at_cat_high q (suc l) (2 ^ l) i (omega arith) h)
    ∙ sym (ap (λ n. bit_at n i) whole) in
    x in
    let here : bit_at (m - 1) l ≡ 0 = ap (λ n. bit_at n l) less ∙ bit_at_cat_low q (suc l) (2 ^ l - 1) l (omega arith) ∙ bit_at_ones_above l l (omega arith) in
    record {
      set = set;
      below = below;
      gone = omega (arith, bit_at_and m (m - 1) l, here);
      kept = λ i h apart.
          ⊎_elim (λ lower. omega (arith, bit_at_and m (m - 1) i, below i lower))
          (λ ge. omega (arith, bit_at_and m (m - 1) i, above i (omega arith))) (cases_lt i l);
    }

pub marked-lowest : (s m : ℕ) → m ≢ 0 → m < 2 ^ 64 → marked s m ≡ (s + trailing_zeros w64 m) ∷ marked s (bit_and m (m - 1))
marked-lowest s m some small =
    let low = bit_at-trailing_zeros w64 m (omega (arith, some)) small in
    let l = trailing_zeros w64 m in
    set_places-lowest s m (bit_and m (m - 1)) l 0 64 (DropsLowest-and m l low.1 low.2) (omega arith) (omega (arith, low.0)) (omega arith)

pub marked-zero : (s : ℕ) → marked s 0 ≡ []
marked-zero s = set_places-none s 0 64

pub marked-some : (s m : ℕ) → m ≢ 0 → m < 2 ^ 64 → marked s m ≢ []
marked-some s m some small e = let l = marked-lowest s m some small in absurd (cc)
