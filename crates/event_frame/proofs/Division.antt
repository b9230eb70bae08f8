-- Long division over bits is what the register does.
use Rattle.std.proofs.Common.{◌≡◌, ℕ, zero, suc, ◌-◌, ◌*◌, ◌/◌, ◌%◌, ◌^◌, ◌<◌, List, [], ◌∷◌, ◌++◌, length, map, replicate, Bool, true, false, not, eqb, cond, refl, sym, ap, ◌∙◌, arith, bit_xor}
use Rattle.std.proofs.lemmas.Nat.{xor_shr, xor_mod, div-add-mod', xor_lt}
use Rattle.std.proofs.Math.Nat.{pow-suc}
use Rattle.std.proofs.lemmas.Bool.{eqb-true}
use lib.Bits.{xor_zero_r, xor_assoc, xor_comm, xor_shifted}
use Rattle.event_frame.specs.Crc.{plus_coefficient, plus, remainder, low_bits, message_bits, number_of, dividend, generator, crc_of}
use Rattle.event_frame.specs.Register.{times_x, times_power, absorbed}
use Rattle.event_frame.proofs.RegisterLaws.{AreBytes, times_x-xor, times_x-even}

-- a coefficient and its number
bit_of : Bool → ℕ
bit_of a = cond a 1 0

bit_of-small : (a : Bool) → bit_of a < 2
unfolding bit_of
bit_of-small true = omega arith
bit_of-small false = omega arith

bit_of-eqb : (n : ℕ) → n < 2 → bit_of (eqb n 1) ≡ n
unfolding bit_of
bit_of-eqb zero h = refl
bit_of-eqb (suc zero) h = refl
bit_of-eqb (suc (suc n)) h = absurd (omega arith)

eqb-bit_of : (a : Bool) → eqb (bit_of a) 1 ≡ a
unfolding bit_of
eqb-bit_of true = refl
eqb-bit_of false = refl

-- the register after these bits
run : ℕ → List Bool → ℕ
run r [] = r
run r (a ∷ bits) = run (times_x (bit_xor r (bit_of a))) bits

run-append : (r : ℕ) (front back : List Bool) → run r (front ++ back) ≡ run (run r front) back
unfolding run
run-append r [] back = refl
run-append r (a ∷ front) back = run-append (times_x (bit_xor r (bit_of a))) front back

-- the sum of two bits
sum_of_bits : (a b : ℕ) → a < 2 → b < 2 → eqb (bit_xor a b) 1 ≡ plus_coefficient (eqb a 1) (eqb b 1)
sum_of_bits zero zero h k = refl
sum_of_bits zero (suc zero) h k = refl
sum_of_bits (suc zero) zero h k = refl
sum_of_bits (suc zero) (suc zero) h k = refl
sum_of_bits zero (suc (suc b)) h k = absurd (omega arith)
sum_of_bits (suc zero) (suc (suc b)) h k = absurd (omega arith)
sum_of_bits (suc (suc a)) b h k = absurd (omega arith)

low_bit-xor : (x y : ℕ) → eqb (bit_xor x y % 2) 1 ≡ plus_coefficient (eqb (x % 2) 1) (eqb (y % 2) 1)
low_bit-xor x y = ap (λ n. eqb n 1) (xor_mod x y 1) ∙ sum_of_bits (x % 2) (y % 2) (omega arith) (omega arith)

plus_coefficient-assoc : (a b c : Bool) → plus_coefficient (plus_coefficient a b) c ≡ plus_coefficient a (plus_coefficient b c)
plus_coefficient-assoc true true true = refl
plus_coefficient-assoc true true false = refl
plus_coefficient-assoc true false true = refl
plus_coefficient-assoc true false false = refl
plus_coefficient-assoc false true true = refl
plus_coefficient-assoc false true false = refl
plus_coefficient-assoc false false true = refl
plus_coefficient-assoc false false false = refl

plus-nil : (p : List Bool) → plus p [] ≡ p
unfolding plus
plus-nil [] = refl
plus-nil (a ∷ p) = refl

-- two numbers added to a polynomial, one after the other
plus-xor : (k x y : ℕ) (p : List Bool) → plus (plus p (low_bits k x)) (low_bits k y) ≡ plus p (low_bits k (bit_xor x y))
unfolding plus low_bits
plus-xor zero x y p = plus-nil (plus p [])
plus-xor (suc k) x y [] = refl
plus-xor (suc k) x y (a ∷ p) =
    ap (λ (b : Bool). b ∷ plus (plus p (low_bits k (x / 2))) (low_bits k (y / 2)))
    (plus_coefficient-assoc a (eqb (x % 2) 1) (eqb (y % 2) 1) ∙ ap (plus_coefficient a) (sym (low_bit-xor x y)))
    ∙ ap (λ (q : List Bool). plus_coefficient a (eqb (bit_xor x y % 2) 1) ∷ q)
    (plus-xor k (x / 2) (y / 2) p ∙ ap (λ n. plus p (low_bits k n)) (sym (xor_shr x y 1)))

-- one more bit, which is zero
low_bits-more : (k n : ℕ) → n < 2 ^ k → (p : List Bool) → plus p (low_bits k n) ≡ plus p (low_bits (suc k) n)
unfolding plus low_bits
low_bits-more zero n h [] = refl
low_bits-more zero n h (a ∷ p) =
    let none : n ≡ 0 = omega arith in
    sym (ap (λ m. plus_coefficient a (eqb (m % 2) 1) ∷ plus p []) none ∙ ap (λ (q : List Bool). a ∷ q) (plus-nil p))
low_bits-more (suc k) n h [] = refl
low_bits-more (suc k) n h (a ∷ p) =
    let half : n / 2 < 2 ^ k = omega (arith, pow-suc 2 k) in
    ap (λ (q : List Bool). plus_coefficient a (eqb (n % 2) 1) ∷ q) (low_bits-more k (n / 2) half p)

-- zeros plus a number are its bits
plus-zeros : (k n : ℕ) → plus (replicate k false) (low_bits k n) ≡ low_bits k n
unfolding plus low_bits
plus-zeros zero n = refl
plus-zeros (suc k) n =
    ap (λ (b : Bool). b ∷ plus (replicate k false) (low_bits k (n / 2))) (plus_coefficient-false (eqb (n % 2) 1))
    ∙ ap (λ (q : List Bool). eqb (n % 2) 1 ∷ q) (plus-zeros k (n / 2))
  where
    plus_coefficient-false : (b : Bool) → plus_coefficient false b ≡ b
    plus_coefficient-false true = refl
    plus_coefficient-false false = refl

generator-bits : generator ≡ low_bits 32 0xEDB88320
unfolding low_bits
generator-bits = refl

ones-bits : replicate 32 true ≡ low_bits 32 0xFFFFFFFF
unfolding low_bits
ones-bits = refl

-- the head of such a sum
plus-head : (k r : ℕ) (a : Bool) (p : List Bool)
    → plus (a ∷ p) (low_bits (suc k) r) ≡ plus_coefficient a (eqb (r % 2) 1) ∷ plus p (low_bits k (r / 2))
unfolding plus low_bits
plus-head k r a p = refl

-- the generator is subtracted where the leading coefficient is 1
subtracted : (c : Bool) (s : ℕ) (p : List Bool) → c ≡ eqb (s % 2) 1
    → cond c (plus (plus p (low_bits 32 (s / 2))) (low_bits 32 0xEDB88320)) (plus p (low_bits 32 (s / 2)))
    ≡ plus p (low_bits 32 (times_x s))
unfolding times_x
subtracted true s p e =
    let odd : s % 2 ≡ 1 = eqb-true (s % 2) 1 (sym e) in
    plus-xor 32 (s / 2) 0xEDB88320 p
    ∙ ap (λ n. plus p (low_bits 32 (bit_xor (s / 2) (n * 0xEDB88320)))) (sym odd)
subtracted false s p e =
    let even : s % 2 ≡ 0 = low_zero (s % 2) (omega arith) (sym e) in
    ap (λ n. plus p (low_bits 32 n)) (sym (xor_zero_r (s / 2)))
    ∙ ap (λ n. plus p (low_bits 32 (bit_xor (s / 2) (n * 0xEDB88320)))) (sym even)
  where
    low_zero : (n : ℕ) → n < 2 → eqb n 1 ≡ false → n ≡ 0
    low_zero zero h e = refl
    low_zero (suc zero) h e = absurd (cc)
    low_zero (suc (suc n)) h e = absurd (omega arith)

-- one step of the division is one step of the register
division-step : (a : Bool) (r : ℕ) (p : List Bool) → r < 2 ^ 32
    → cond (plus_coefficient a (eqb (r % 2) 1)) (plus (plus p (low_bits 31 (r / 2))) generator) (plus p (low_bits 31 (r / 2)))
    ≡ plus p (low_bits 32 (times_x (bit_xor r (bit_of a))))
division-step a r p small =
    let s = bit_xor r (bit_of a) in
    let b_small : bit_of a < 2 = bit_of-small a in
    let alone : bit_of a / 2 ≡ 0 = omega arith in
    let whole : bit_of a % 2 ≡ bit_of a = omega arith in
    let half : r / 2 ≡ s / 2 = sym (xor_shr r (bit_of a) 1 ∙ ap (bit_xor (r / 2)) alone ∙ xor_zero_r (r / 2)) in
    let lead : plus_coefficient a (eqb (r % 2) 1) ≡ eqb (s % 2) 1 =
    sym (ap (λ n. eqb (n % 2) 1) (xor_comm r (bit_of a)) ∙ low_bit-xor (bit_of a) r
    ∙ ap (λ n. plus_coefficient (eqb n 1) (eqb (r % 2) 1)) whole
    ∙ ap (λ (c : Bool). plus_coefficient c (eqb (r % 2) 1)) (eqb-bit_of a)) in
    let rest : plus p (low_bits 31 (r / 2)) ≡ plus p (low_bits 32 (s / 2)) =
    low_bits-more 31 (r / 2) (omega arith) p ∙ ap (λ n. plus p (low_bits 32 n)) half in
    ap (λ (q : List Bool). cond (plus_coefficient a (eqb (r % 2) 1)) (plus q generator) q) rest
    ∙ ap (λ (g : List Bool). cond (plus_coefficient a (eqb (r % 2) 1)) (plus (plus p (low_bits 32 (s / 2))) g) (plus p (low_bits 32 (s / 2)))) generator-bits
    ∙ subtracted (plus_coefficient a (eqb (r % 2) 1)) s p lead

times_x-small : (r : ℕ) → r < 2 ^ 32 → times_x r < 2 ^ 32
unfolding times_x
times_x-small r h = xor_lt 32 (r / 2) (r % 2 * 0xEDB88320) (omega arith) (omega arith)

-- the division of a message is a run of the register
divided : (m : List Bool) (r : ℕ) → r < 2 ^ 32
    → remainder (length m) (plus (m ++ replicate 32 false) (low_bits 32 r)) ≡ low_bits 32 (run r m)
unfolding remainder run
divided [] r h = plus-zeros 32 r
divided (a ∷ m) r h =
    let bit : bit_of a < 2 = bit_of-small a in
    ap (remainder (suc (length m))) (plus-head 31 r a (m ++ replicate 32 false))
    ∙ ap (remainder (length m)) (division-step a r (m ++ replicate 32 false) h)
    ∙ divided m (times_x (bit_xor r (bit_of a)))
    (times_x-small (bit_xor r (bit_of a)) (xor_lt 32 r (bit_of a) h (omega arith)))

-- the bits of one number
run-low_bits : (k r b : ℕ) → b < 2 ^ k → run r (low_bits k b) ≡ times_power k (bit_xor r b)
unfolding run low_bits times_power
run-low_bits zero r b h =
    let none : 0 ≡ b = omega arith in
    sym (xor_zero_r r) ∙ ap (bit_xor r) none
run-low_bits (suc k) r b h =
    let half : b / 2 < 2 ^ k = omega (arith, pow-suc 2 k) in
    let spread : bit_xor (b % 2) (b / 2 * 2) ≡ b =
    xor_comm (b % 2) (b / 2 * 2) ∙ xor_shifted (b / 2) 1 (b % 2) (omega arith) ∙ div-add-mod' b 2 in
    run-low_bits k (times_x (bit_xor r (bit_of (eqb (b % 2) 1)))) (b / 2) half
    ∙ ap (times_power k)
    (ap (λ n. bit_xor (times_x (bit_xor r n)) (b / 2)) (bit_of-eqb (b % 2) (omega arith))
    ∙ ap (bit_xor (times_x (bit_xor r (b % 2)))) (sym (times_x-even (b / 2)))
    ∙ sym (times_x-xor (bit_xor r (b % 2)) (b / 2 * 2))
    ∙ ap times_x (xor_assoc r (b % 2) (b / 2 * 2) ∙ ap (bit_xor r) spread))

-- the bits of a message
run-message_bits : (bytes : List ℕ) (r : ℕ) → AreBytes bytes → run r (message_bits bytes) ≡ absorbed r bytes
unfolding run message_bits absorbed
run-message_bits [] r h = refl
run-message_bits (b ∷ bytes) r h =
    run-append r (low_bits 8 b) (message_bits bytes)
    ∙ ap (λ n. run n (message_bits bytes)) (run-low_bits 8 r b (h 0))
    ∙ run-message_bits bytes (times_power 8 (bit_xor r b)) (λ i. h (suc i))

-- the complement of a bit
complement-bit : (m : ℕ) → m < 2 → cond (not (eqb m 1)) 1 0 ≡ 1 - m
complement-bit zero h = refl
complement-bit (suc zero) h = refl
complement-bit (suc (suc m)) h = absurd (omega arith)

-- the complement of all bits
number_of-complement : (k n : ℕ) → n < 2 ^ k → number_of (map not (low_bits k n)) ≡ 2 ^ k - 1 - n
unfolding number_of low_bits
number_of-complement zero n h = omega arith
number_of-complement (suc k) n h =
    let half : n / 2 < 2 ^ k = omega (arith, pow-suc 2 k) in
    let first : cond (not (eqb (n % 2) 1)) 1 0 ≡ 1 - n % 2 = complement-bit (n % 2) (omega arith) in
    let others : number_of (map not (low_bits k (n / 2))) ≡ 2 ^ k - 1 - n / 2 = number_of-complement k (n / 2) half in
    omega (arith, pow-suc 2 k)

-- the CRC is the complement of the register that begins with ones
pub crc_of-absorbed : (bytes : List ℕ) → AreBytes bytes → absorbed 0xFFFFFFFF bytes < 2 ^ 32
    → 0xFFFFFFFF - absorbed 0xFFFFFFFF bytes ≡ crc_of bytes
unfolding crc_of dividend
crc_of-absorbed bytes h small =
    sym (ap (λ (l : List Bool). number_of (map not (remainder (length (message_bits bytes)) (plus (message_bits bytes ++ replicate 32 false) l)))) ones-bits
    ∙ ap (λ (l : List Bool). number_of (map not l)) (divided (message_bits bytes) 0xFFFFFFFF (omega arith))
    ∙ ap (λ n. number_of (map not (low_bits 32 n))) (run-message_bits bytes 0xFFFFFFFF h)
    ∙ number_of-complement 32 (absorbed 0xFFFFFFFF bytes) small)
