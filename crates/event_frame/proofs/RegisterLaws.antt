-- The register is linear, and a multiple of x^k goes down k places.
use Rattle.std.proofs.Common.{◌≡◌, ℕ, zero, suc, ◌+◌, ◌*◌, ◌/◌, ◌%◌, ◌^◌, ◌<◌, List, [], ◌∷◌, length, get_or, take, drop, ◌++◌, ◌≤◌, refl, sym, ap, ◌∙◌, arith, bit_xor}
use Rattle.std.proofs.lemmas.Nat.{xor_shr, xor_mod, shr-shr, div-add-mod', xor_lt}
use Rattle.std.proofs.Math.Nat.{zero-mul, suc-mul, add_comm, pow-suc, mul_assoc}
use Rattle.std.proofs.Math.Seq.{drop-cons}
use Rattle.std.proofs.lemmas.List.{drop_all, drop-drop, take-append-drop}
use Rattle.std.specs.Simd.{first_chunks}
use lib.Bits.{xor_assoc, xor_zero_r, xor_comm, xor_self, xor_shifted, xor_block}
use Rattle.event_frame.specs.Register.{times_x, times_power, times_bytes, absorbed, absorbed_blocks}

-- a sum of four in the other order of its middle
pub xor_middle : (a b c d : ℕ) → bit_xor (bit_xor a b) (bit_xor c d) ≡ bit_xor (bit_xor a c) (bit_xor b d)
xor_middle a b c d =
    xor_assoc a b (bit_xor c d)
    ∙ ap (bit_xor a) (sym (xor_assoc b c d) ∙ ap (λ e. bit_xor e d) (xor_comm b c) ∙ xor_assoc c b d)
    ∙ sym (xor_assoc a c (bit_xor b d))

-- a product by a bit
bit_times : (a b p : ℕ) → a < 2 → b < 2 → bit_xor a b * p ≡ bit_xor (a * p) (b * p)
bit_times zero b p h k = rw (zero-mul p) refl
bit_times (suc zero) zero p h k = rw (zero-mul p) (sym (xor_zero_r (1 * p)))
bit_times (suc zero) (suc zero) p h k = zero-mul p ∙ sym (xor_self (1 * p))
bit_times (suc zero) (suc (suc b)) p h k = absurd (omega arith)
bit_times (suc (suc a)) b p h k = absurd (omega arith)

pub times_x-xor : (a b : ℕ) → times_x (bit_xor a b) ≡ bit_xor (times_x a) (times_x b)
unfolding times_x
times_x-xor a b =
    rw (xor_shr a b 1, xor_mod a b 1, bit_times (a % 2) (b % 2) 0xEDB88320 (omega arith) (omega arith))
    (xor_middle (a / 2) (b / 2) (a % 2 * 0xEDB88320) (b % 2 * 0xEDB88320))

pub times_power-xor : (k a b : ℕ) → times_power k (bit_xor a b) ≡ bit_xor (times_power k a) (times_power k b)
unfolding times_power
times_power-xor zero a b = refl
times_power-xor (suc k) a b = ap (times_power k) (times_x-xor a b) ∙ times_power-xor k (times_x a) (times_x b)

pub times_bytes-xor : (k a b : ℕ) → times_bytes k (bit_xor a b) ≡ bit_xor (times_bytes k a) (times_bytes k b)
unfolding times_bytes
times_bytes-xor zero a b = refl
times_bytes-xor (suc k) a b =
    ap (times_bytes k) (times_power-xor 8 a b) ∙ times_bytes-xor k (times_power 8 a) (times_power 8 b)

-- a register without the coefficient of x^31
pub times_x-even : (n : ℕ) → times_x (n * 2) ≡ n
unfolding times_x
times_x-even n =
    let whole : n * 2 / 2 ≡ n = omega arith in
    let even : n * 2 % 2 ≡ 0 = omega arith in
    rw (whole, even) (xor_zero_r n)

pub times_power-high : (k n : ℕ) → times_power k (n * 2 ^ k) ≡ n
unfolding times_power
times_power-high zero n = omega arith
times_power-high (suc k) n =
    let doubled : n * 2 ^ suc k ≡ n * 2 ^ k * 2 = ap (λ m. n * m) (pow-suc 2 k) ∙ sym (mul_assoc n (2 ^ k) 2) in
    ap (λ m. times_power k (times_x m)) doubled ∙ ap (times_power k) (times_x-even (n * 2 ^ k)) ∙ times_power-high k n

pub times_byte-high : (n : ℕ) → times_power 8 (n * 256) ≡ n
times_byte-high n = times_power-high 8 n

-- the number of these bytes, the first the least significant
unfoldable pub little : List ℕ → ℕ
little [] = 0
little (byte ∷ bytes) = little bytes * 256 + byte

-- the numbers are bytes
abbrev pub AreBytes : List ℕ → Type 0
AreBytes bytes = (i : ℕ) → get_or bytes i 0 < 256

-- a whole message is taken in at once
pub absorbed-little : (r : ℕ) (bytes : List ℕ) → AreBytes bytes
    → absorbed r bytes ≡ times_bytes (length bytes) (bit_xor r (little bytes))
unfolding absorbed little times_bytes
absorbed-little r [] h = sym (xor_zero_r r)
absorbed-little r (b ∷ bytes) h =
    absorbed-little (times_power 8 (bit_xor r b)) bytes (λ i. h (suc i))
    ∙ ap (times_bytes (length bytes))
    (ap (λ n. bit_xor (times_power 8 (bit_xor r b)) n) (sym (times_byte-high (little bytes)))
    ∙ sym (times_power-xor 8 (bit_xor r b) (little bytes * 256))
    ∙ ap (times_power 8)
    (xor_assoc r b (little bytes * 256)
    ∙ ap (bit_xor r) (xor_comm b (little bytes * 256) ∙ xor_shifted (little bytes) 8 b (h 0))))

-- what the bytes of a block make of the register, each by itself
unfoldable pub shares : List ℕ → ℕ
shares [] = 0
shares (byte ∷ bytes) = bit_xor (times_bytes (length bytes + 1) byte) (shares bytes)

pub times_bytes-little : (bytes : List ℕ) → AreBytes bytes → times_bytes (length bytes) (little bytes) ≡ shares bytes
unfolding shares little times_bytes
times_bytes-little [] h = refl
times_bytes-little (b ∷ bytes) h =
    let apart : little bytes * 256 + b ≡ bit_xor b (little bytes * 256) =
    sym (xor_comm b (little bytes * 256) ∙ xor_shifted (little bytes) 8 b (h 0)) in
    let more : length bytes + 1 ≡ suc (length bytes) = omega arith in
    ap (λ n. times_bytes (length bytes) (times_power 8 n)) apart
    ∙ ap (times_bytes (length bytes)) (times_power-xor 8 b (little bytes * 256) ∙ ap (bit_xor (times_power 8 b)) (times_byte-high (little bytes)))
    ∙ times_bytes-xor (length bytes) (times_power 8 b) (little bytes)
    ∙ ap (bit_xor (times_bytes (length bytes) (times_power 8 b))) (times_bytes-little bytes (λ i. h (suc i)))
    ∙ ap (λ k. bit_xor (times_bytes k b) (shares bytes)) (sym more)

-- the low byte of a register meets the first byte
xor-little : (r b : ℕ) (bytes : List ℕ) → b < 256
    → bit_xor r (little (b ∷ bytes)) ≡ bit_xor (r / 256) (little bytes) * 256 + bit_xor (r % 256) b
unfolding little
xor-little r b bytes h =
    ap (λ n. bit_xor n (little bytes * 256 + b)) (sym (div-add-mod' r 256))
    ∙ xor_block 8 (r / 256) (little bytes) (r % 256) b (omega arith) h

-- the four bytes of a register meet the first four bytes
pub register-little : (r b0 b1 b2 b3 : ℕ) (bytes : List ℕ) → r < 2 ^ 32 → b0 < 256 → b1 < 256 → b2 < 256 → b3 < 256
    → bit_xor r (little (b0 ∷ b1 ∷ b2 ∷ b3 ∷ bytes))
    ≡ little
    (bit_xor (r % 256) b0 ∷ bit_xor (r / 256 % 256) b1 ∷ bit_xor (r / 65536 % 256) b2
    ∷ bit_xor (r / 16777216 % 256) b3 ∷ bytes)
unfolding little
register-little r b0 b1 b2 b3 bytes h h0 h1 h2 h3 =
    let two : r / 256 / 256 ≡ r / 65536 = shr-shr r 8 8 in
    let three : r / 65536 / 256 ≡ r / 16777216 = shr-shr r 16 8 in
    let four : r / 16777216 / 256 ≡ 0 = omega arith in
    xor-little r b0 (b1 ∷ b2 ∷ b3 ∷ bytes) h0
    ∙ ap (λ n. n * 256 + bit_xor (r % 256) b0)
    (xor-little (r / 256) b1 (b2 ∷ b3 ∷ bytes) h1
    ∙ ap (λ n. n * 256 + bit_xor (r / 256 % 256) b1)
    (ap (λ q. bit_xor q (little (b2 ∷ b3 ∷ bytes))) two
    ∙ xor-little (r / 65536) b2 (b3 ∷ bytes) h2
    ∙ ap (λ n. n * 256 + bit_xor (r / 65536 % 256) b2)
    (ap (λ q. bit_xor q (little (b3 ∷ bytes))) three
    ∙ xor-little (r / 16777216) b3 bytes h3
    ∙ ap (λ q. bit_xor q (little bytes) * 256 + bit_xor (r / 16777216 % 256) b3) four)))

-- a register, its low byte apart
pub times_byte-split : (q s : ℕ) → s < 256 → times_power 8 (q * 256 + s) ≡ bit_xor (times_power 8 s) q
times_byte-split q s h =
    ap (times_power 8) (sym (xor_comm s (q * 256) ∙ xor_shifted q 8 s h))
    ∙ times_power-xor 8 s (q * 256) ∙ ap (bit_xor (times_power 8 s)) (times_byte-high q)

-- one byte, as the code takes it
pub byte-step : (r b looked_up : ℕ) (low : List ℕ) → b < 256
    → low ≡ r % 256 ∷ r / 256 % 256 ∷ r / 65536 % 256 ∷ r / 16777216 % 256 ∷ []
    → looked_up ≡ times_bytes 1 (bit_xor (get_or low 0 0) b)
    → times_power 8 (bit_xor r b) ≡ bit_xor looked_up (r / 256)
unfolding times_bytes
byte-step r b looked_up low h is e =
    let alone : 0 * 2 ^ 8 + b ≡ b = omega arith in
    ap (times_power 8)
    (ap (λ n. bit_xor n b) (sym (div-add-mod' r 256))
    ∙ ap (bit_xor (r / 256 * 256 + r % 256)) (sym alone)
    ∙ xor_block 8 (r / 256) 0 (r % 256) b (omega arith) h
    ∙ ap (λ n. n * 256 + bit_xor (r % 256) b) (xor_zero_r (r / 256)))
    ∙ times_byte-split (r / 256) (bit_xor (r % 256) b) (xor_lt 8 (r % 256) b (omega arith) h)
    ∙ ap (λ n. bit_xor n (r / 256)) (sym (e ∙ ap (λ (l : List ℕ). times_power 8 (bit_xor (get_or l 0 0) b)) is))

-- a loop over bytes, one step
pub absorbed-step : (r i next total : ℕ) (bytes : List ℕ) → i < length bytes
    → absorbed r (drop i bytes) ≡ total → times_power 8 (bit_xor r (get_or bytes i 0)) ≡ next
    → absorbed next (drop (i + 1) bytes) ≡ total
unfolding absorbed
absorbed-step r i next total bytes h so_far e =
    let further : i + 1 ≡ suc i = omega arith in
    ap (λ n. absorbed n (drop (i + 1) bytes)) (sym e)
    ∙ ap (λ n. absorbed (times_power 8 (bit_xor r (get_or bytes i 0))) (drop n bytes)) further
    ∙ sym (ap (absorbed r) (drop-cons bytes i 0 h))
    ∙ so_far

-- a loop over bytes, at its end
pub absorbed-end : (r i total : ℕ) (bytes : List ℕ) → length bytes ≤ i
    → absorbed r (drop i bytes) ≡ total → r ≡ total
unfolding absorbed
absorbed-end r i total bytes h so_far = sym (ap (absorbed r) (drop_all i bytes h)) ∙ so_far

-- a loop over blocks, one step
pub absorbed_blocks-step : (r i next total : ℕ) (blocks : List (List ℕ)) → i < length blocks
    → absorbed_blocks r (drop i blocks) ≡ total → next ≡ absorbed r (get_or blocks i [])
    → absorbed_blocks next (drop (i + 1) blocks) ≡ total
unfolding absorbed_blocks
absorbed_blocks-step r i next total blocks h so_far e =
    let further : i + 1 ≡ suc i = omega arith in
    ap (λ n. absorbed_blocks n (drop (i + 1) blocks)) e
    ∙ ap (λ n. absorbed_blocks (absorbed r (get_or blocks i [])) (drop n blocks)) further
    ∙ sym (ap (absorbed_blocks r) (drop-cons blocks i [] h))
    ∙ so_far

-- a loop over blocks, at its end
pub absorbed_blocks-end : (r i total : ℕ) (blocks : List (List ℕ)) → length blocks ≤ i
    → absorbed_blocks r (drop i blocks) ≡ total → r ≡ total
unfolding absorbed_blocks
absorbed_blocks-end r i total blocks h so_far = sym (ap (absorbed_blocks r) (drop_all i blocks h)) ∙ so_far

-- one message after the other
pub absorbed-append : (r : ℕ) (front back : List ℕ) → absorbed r (front ++ back) ≡ absorbed (absorbed r front) back
unfolding absorbed
absorbed-append r [] back = refl
absorbed-append r (b ∷ front) back = absorbed-append (times_power 8 (bit_xor r b)) front back

-- the first k blocks of n bytes, and then the rest
pub absorbed-chunks : (r n k : ℕ) (bytes : List ℕ)
    → absorbed (absorbed_blocks r (first_chunks n k bytes)) (drop (k * n) bytes) ≡ absorbed r bytes
unfolding absorbed_blocks
absorbed-chunks r n zero bytes = ap (λ m. absorbed r (drop m bytes)) (zero-mul n)
absorbed-chunks r n (suc k) bytes =
    let size : suc k * n ≡ n + k * n = suc-mul k n ∙ add_comm (k * n) n in
    ap (absorbed (absorbed_blocks (absorbed r (take n bytes)) (first_chunks n k (drop n bytes))))
    (ap (λ m. drop m bytes) size ∙ sym (drop-drop (k * n) n bytes))
    ∙ absorbed-chunks (absorbed r (take n bytes)) n k (drop n bytes)
    ∙ sym (absorbed-append r (take n bytes) (drop n bytes))
    ∙ ap (absorbed r) (take-append-drop n bytes)
