-- Numbers split at a bit.
use Rattle.std.proofs.Common.{◌≡◌, ℕ, ◌+◌, ◌-◌, ◌*◌, ◌/◌, ◌%◌, ◌^◌, ◌<◌, ◌≤◌, sym, ap, ◌∙◌, subst, arith}
use Rattle.std.specs.Int.Bits.{bit_and}
use Rattle.std.proofs.Math.Pow.{shl_exact}
use Rattle.std.proofs.Math.Nat.{mul_assoc, mul_comm, mul-add, add-mul-div_left, add-mul-mod_self_left, mod-lt, mul-le-mul_left}
use Rattle.std.proofs.lemmas.Nat.{pow-add, pow_pos, shr_below, shr-shr, mod-pow-add, and_mask}

-- so many bits are held, more than are asked for, and are followed by those of what is left
pub record Enough (held count left n width : ℕ) : Type 0 where
  pub asked : width ≤ count
  pub few : count ≤ 63
  pub small : held < 2 ^ count
  pub all : held + 2 ^ count * left ≡ n

-- 32 bits more
pub filled : (held count word rest left n width : ℕ) → count < width → width ≤ 32 → held < 2 ^ count → word < 2 ^ 32
    → rest ≡ word + 2 ^ 32 * left → held + 2 ^ count * rest ≡ n → Enough (held + word * 2 ^ count % 2 ^ 64) (count + 32) left n width
filled held count word rest left n width below within small fits split all =
    let whole : word * 2 ^ count % 2 ^ 64 ≡ word * 2 ^ count = shl_exact {a = word} 32 count 64 fits (omega arith) in
    let power : 2 ^ (count + 32) ≡ 2 ^ count * 2 ^ 32 = pow-add 2 count 32 in
    let more : 2 ^ count * (word + 1) ≤ 2 ^ count * 2 ^ 32 = mul-le-mul_left (2 ^ count) (omega arith) in
    let parts : 2 ^ count * (word + 1) ≡ 2 ^ count * word + 2 ^ count * 1 = mul-add (2 ^ count) word 1 in
    let turned : word * 2 ^ count ≡ 2 ^ count * word = mul_comm word (2 ^ count) in
    let spread : 2 ^ count * rest ≡ 2 ^ count * word + 2 ^ count * 2 ^ 32 * left =
    ap (λ r. 2 ^ count * r) split ∙ mul-add (2 ^ count) word (2 ^ 32 * left)
    ∙ ap (λ r. 2 ^ count * word + r) (sym (mul_assoc (2 ^ count) (2 ^ 32) left)) in
    record {
      asked = omega arith;
      few = omega arith;
      small = rw whole (rw power (omega (arith, more, parts, turned, small)));
      all = rw whole (rw power (omega (arith, spread, turned, all)));
    }

-- the bits asked for, and what is left of those held and of all
pub low_part : (held count left n width : ℕ) → Enough held count left n width → bit_and held (2 ^ width - 1) ≡ n % 2 ^ width
low_part held count left n width e =
    let power : 2 ^ count ≡ 2 ^ width * 2 ^ (count - width) = ap (λ k. 2 ^ k) (omega (arith, e.asked)) ∙ pow-add 2 width (count - width) in
    let apart : held + 2 ^ width * (2 ^ (count - width) * left) ≡ n =
    ap (λ r. held + r) (sym (mul_assoc (2 ^ width) (2 ^ (count - width)) left) ∙ ap (λ p. p * left) (sym power)) ∙ e.all in
    and_mask held width ∙ sym (add-mul-mod_self_left held (2 ^ width) (2 ^ (count - width) * left)) ∙ ap (λ m. m % 2 ^ width) apart

pub high_part : (held count left n width : ℕ) → Enough held count left n width → held / 2 ^ width + 2 ^ (count - width) * left ≡ n / 2 ^ width
high_part held count left n width e =
    let power : 2 ^ count ≡ 2 ^ width * 2 ^ (count - width) = ap (λ k. 2 ^ k) (omega (arith, e.asked)) ∙ pow-add 2 width (count - width) in
    let apart : held + 2 ^ width * (2 ^ (count - width) * left) ≡ n =
    ap (λ r. held + r) (sym (mul_assoc (2 ^ width) (2 ^ (count - width)) left) ∙ ap (λ p. p * left) (sym power)) ∙ e.all in
    sym (add-mul-div_left held (2 ^ (count - width) * left) (pow_pos width)) ∙ ap (λ m. m / 2 ^ width) apart

pub still_small : (held count left n width : ℕ) → Enough held count left n width → held / 2 ^ width < 2 ^ (count - width)
still_small held count left n width e =
    shr_below held (count - width) width (subst (λ k. held < 2 ^ k) (omega (arith, e.asked)) e.small)

-- a mask of at most 32 bits
pub mask_fits : (width : ℕ) → width ≤ 32 → 1 * 2 ^ width % 2 ^ 64 ≡ 2 ^ width
mask_fits width within = shl_exact {a = 1} 1 width 64 (omega arith) (omega arith) ∙ omega arith

-- 32 bits and then the rest
pub joined : (n width low high : ℕ) → 32 < width → width ≤ 64 → low ≡ n % 2 ^ 32 → high ≡ n / 2 ^ 32 % 2 ^ (width - 32)
    → low + high * 2 ^ 32 % 2 ^ 64 ≡ n % 2 ^ width
joined n width low high more within low_is high_is =
    let whole : high * 2 ^ 32 % 2 ^ 64 ≡ high * 2 ^ 32 =
    shl_exact {a = high} (width - 32) 32 64 (rw high_is (mod_small (n / 2 ^ 32) (width - 32))) (omega arith) in
    let split : n % 2 ^ (width - 32 + 32) ≡ (n / 2 ^ 32 % 2 ^ (width - 32)) * 2 ^ 32 + n % 2 ^ 32 = mod-pow-add n (width - 32) 32 in
    let same : width - 32 + 32 ≡ width = omega (arith, more) in
    rw whole (sym (subst (λ w. n % 2 ^ w ≡ low + high * 2 ^ 32) same (split ∙ omega (arith, low_is, high_is))))
  where
    mod_small : (m k : ℕ) → m % 2 ^ k < 2 ^ k
    mod_small m k = mod-lt m (pow_pos k)

pub passed : (n width : ℕ) → 32 < width → n / 2 ^ 32 / 2 ^ (width - 32) ≡ n / 2 ^ width
passed n width more = shr-shr n 32 (width - 32) ∙ ap (λ w. n / 2 ^ w) (omega (arith, more))
