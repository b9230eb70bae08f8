-- A block of 16 bytes is taken in at once.
use Rattle.std.proofs.Common.{◌≡◌, ℕ, zero, suc, ◌/◌, ◌%◌, ◌^◌, ◌<◌, List, [], ◌∷◌, length, get_or, refl, sym, ap, subst, ◌∙◌, arith, bit_xor}
use Rattle.std.proofs.lemmas.Nat.{xor_lt}
use lib.Bits.{xor_assoc, xor_zero_r}
use Rattle.event_frame.specs.Register.{times_bytes, absorbed}
use Rattle.event_frame.proofs.RegisterLaws.{AreBytes, shares, absorbed-little, times_bytes-little, register-little}

-- a byte met by a byte of the register
met_byte : (n b : ℕ) → b < 256 → bit_xor (n % 256) b < 256
met_byte n b h = xor_lt 8 (n % 256) b (omega arith) h

-- four bytes before others
four_more : (c0 c1 c2 c3 : ℕ) (bytes : List ℕ) → c0 < 256 → c1 < 256 → c2 < 256 → c3 < 256 → AreBytes bytes
    → AreBytes (c0 ∷ c1 ∷ c2 ∷ c3 ∷ bytes)
four_more c0 c1 c2 c3 bytes h0 h1 h2 h3 h zero = h0
four_more c0 c1 c2 c3 bytes h0 h1 h2 h3 h (suc zero) = h1
four_more c0 c1 c2 c3 bytes h0 h1 h2 h3 h (suc (suc zero)) = h2
four_more c0 c1 c2 c3 bytes h0 h1 h2 h3 h (suc (suc (suc zero))) = h3
four_more c0 c1 c2 c3 bytes h0 h1 h2 h3 h (suc (suc (suc (suc i)))) = h i

-- the sum of the shares, grouped as the code adds them
regrouped : (x0 x1 x2 x3 x4 x5 x6 x7 x8 x9 x10 x11 x12 x13 x14 x15 : ℕ)
    → bit_xor (bit_xor (bit_xor (bit_xor (bit_xor (bit_xor (bit_xor (bit_xor (bit_xor (bit_xor (bit_xor (bit_xor (bit_xor (bit_xor (bit_xor x0 x1) x2) x3) x4) x5) x6) x7) x8) x9) x10) x11) x12) x13) x14) x15
    ≡ bit_xor x0 (bit_xor x1 (bit_xor x2 (bit_xor x3 (bit_xor x4 (bit_xor x5 (bit_xor x6 (bit_xor x7 (bit_xor x8 (bit_xor x9 (bit_xor x10 (bit_xor x11 (bit_xor x12 (bit_xor x13 (bit_xor x14 (bit_xor x15 0)))))))))))))))
regrouped x0 x1 x2 x3 x4 x5 x6 x7 x8 x9 x10 x11 x12 x13 x14 x15 = simp (xor_assoc, xor_zero_r)

-- the shares of a block, the register's bytes in its first four
spelled_out : (r b0 b1 b2 b3 b4 b5 b6 b7 b8 b9 b10 b11 b12 b13 b14 b15 : ℕ) → r < 2 ^ 32 → AreBytes (b0 ∷ b1 ∷ b2 ∷ b3 ∷ b4 ∷ b5 ∷ b6 ∷ b7 ∷ b8 ∷ b9 ∷ b10 ∷ b11 ∷ b12 ∷ b13 ∷ b14 ∷ b15 ∷ [])
    → bit_xor (bit_xor (bit_xor (bit_xor (bit_xor (bit_xor (bit_xor (bit_xor (bit_xor (bit_xor (bit_xor (bit_xor (bit_xor (bit_xor (bit_xor (times_bytes 16 (bit_xor (r % 256) b0)) (times_bytes 15 (bit_xor (r / 256 % 256) b1))) (times_bytes 14 (bit_xor (r / 65536 % 256) b2))) (times_bytes 13 (bit_xor (r / 16777216 % 256) b3))) (times_bytes 12 b4)) (times_bytes 11 b5)) (times_bytes 10 b6)) (times_bytes 9 b7)) (times_bytes 8 b8)) (times_bytes 7 b9)) (times_bytes 6 b10)) (times_bytes 5 b11)) (times_bytes 4 b12)) (times_bytes 3 b13)) (times_bytes 2 b14)) (times_bytes 1 b15)
    ≡ absorbed r (b0 ∷ b1 ∷ b2 ∷ b3 ∷ b4 ∷ b5 ∷ b6 ∷ b7 ∷ b8 ∷ b9 ∷ b10 ∷ b11 ∷ b12 ∷ b13 ∷ b14 ∷ b15 ∷ [])
unfolding shares
spelled_out r b0 b1 b2 b3 b4 b5 b6 b7 b8 b9 b10 b11 b12 b13 b14 b15 small h =
    regrouped (times_bytes 16 (bit_xor (r % 256) b0)) (times_bytes 15 (bit_xor (r / 256 % 256) b1)) (times_bytes 14 (bit_xor (r / 65536 % 256) b2)) (times_bytes 13 (bit_xor (r / 16777216 % 256) b3)) (times_bytes 12 b4) (times_bytes 11 b5) (times_bytes 10 b6) (times_bytes 9 b7) (times_bytes 8 b8) (times_bytes 7 b9) (times_bytes 6 b10) (times_bytes 5 b11) (times_bytes 4 b12) (times_bytes 3 b13) (times_bytes 2 b14) (times_bytes 1 b15)
    ∙ sym
    (absorbed-little r (b0 ∷ b1 ∷ b2 ∷ b3 ∷ b4 ∷ b5 ∷ b6 ∷ b7 ∷ b8 ∷ b9 ∷ b10 ∷ b11 ∷ b12 ∷ b13 ∷ b14 ∷ b15 ∷ []) h
    ∙ ap (times_bytes 16) (register-little r b0 b1 b2 b3 (b4 ∷ b5 ∷ b6 ∷ b7 ∷ b8 ∷ b9 ∷ b10 ∷ b11 ∷ b12 ∷ b13 ∷ b14 ∷ b15 ∷ []) small (h 0) (h 1) (h 2) (h 3))
    ∙ times_bytes-little (bit_xor (r % 256) b0 ∷ bit_xor (r / 256 % 256) b1 ∷ bit_xor (r / 65536 % 256) b2 ∷ bit_xor (r / 16777216 % 256) b3 ∷ b4 ∷ b5 ∷ b6 ∷ b7 ∷ b8 ∷ b9 ∷ b10 ∷ b11 ∷ b12 ∷ b13 ∷ b14 ∷ b15 ∷ [])
    (four_more _ _ _ _ (b4 ∷ b5 ∷ b6 ∷ b7 ∷ b8 ∷ b9 ∷ b10 ∷ b11 ∷ b12 ∷ b13 ∷ b14 ∷ b15 ∷ []) (met_byte r b0 (h 0)) (met_byte (r / 256) b1 (h 1)) (met_byte (r / 65536) b2 (h 2))
    (met_byte (r / 16777216) b3 (h 3)) (λ i. h (suc (suc (suc (suc i)))))))

-- a list of 16 is its elements
sixteen : (bytes : List ℕ) → length bytes ≡ 16 → bytes ≡ get_or bytes 0 0 ∷ get_or bytes 1 0 ∷ get_or bytes 2 0 ∷ get_or bytes 3 0 ∷ get_or bytes 4 0 ∷ get_or bytes 5 0 ∷ get_or bytes 6 0 ∷ get_or bytes 7 0 ∷ get_or bytes 8 0 ∷ get_or bytes 9 0 ∷ get_or bytes 10 0 ∷ get_or bytes 11 0 ∷ get_or bytes 12 0 ∷ get_or bytes 13 0 ∷ get_or bytes 14 0 ∷ get_or bytes 15 0 ∷ []
sixteen [] h = absurd (omega arith)
sixteen (b0 ∷ []) h = absurd (omega arith)
sixteen (b0 ∷ b1 ∷ []) h = absurd (omega arith)
sixteen (b0 ∷ b1 ∷ b2 ∷ []) h = absurd (omega arith)
sixteen (b0 ∷ b1 ∷ b2 ∷ b3 ∷ []) h = absurd (omega arith)
sixteen (b0 ∷ b1 ∷ b2 ∷ b3 ∷ b4 ∷ []) h = absurd (omega arith)
sixteen (b0 ∷ b1 ∷ b2 ∷ b3 ∷ b4 ∷ b5 ∷ []) h = absurd (omega arith)
sixteen (b0 ∷ b1 ∷ b2 ∷ b3 ∷ b4 ∷ b5 ∷ b6 ∷ []) h = absurd (omega arith)
sixteen (b0 ∷ b1 ∷ b2 ∷ b3 ∷ b4 ∷ b5 ∷ b6 ∷ b7 ∷ []) h = absurd (omega arith)
sixteen (b0 ∷ b1 ∷ b2 ∷ b3 ∷ b4 ∷ b5 ∷ b6 ∷ b7 ∷ b8 ∷ []) h = absurd (omega arith)
sixteen (b0 ∷ b1 ∷ b2 ∷ b3 ∷ b4 ∷ b5 ∷ b6 ∷ b7 ∷ b8 ∷ b9 ∷ []) h = absurd (omega arith)
sixteen (b0 ∷ b1 ∷ b2 ∷ b3 ∷ b4 ∷ b5 ∷ b6 ∷ b7 ∷ b8 ∷ b9 ∷ b10 ∷ []) h = absurd (omega arith)
sixteen (b0 ∷ b1 ∷ b2 ∷ b3 ∷ b4 ∷ b5 ∷ b6 ∷ b7 ∷ b8 ∷ b9 ∷ b10 ∷ b11 ∷ []) h = absurd (omega arith)
sixteen (b0 ∷ b1 ∷ b2 ∷ b3 ∷ b4 ∷ b5 ∷ b6 ∷ b7 ∷ b8 ∷ b9 ∷ b10 ∷ b11 ∷ b12 ∷ []) h = absurd (omega arith)
sixteen (b0 ∷ b1 ∷ b2 ∷ b3 ∷ b4 ∷ b5 ∷ b6 ∷ b7 ∷ b8 ∷ b9 ∷ b10 ∷ b11 ∷ b12 ∷ b13 ∷ []) h = absurd (omega arith)
sixteen (b0 ∷ b1 ∷ b2 ∷ b3 ∷ b4 ∷ b5 ∷ b6 ∷ b7 ∷ b8 ∷ b9 ∷ b10 ∷ b11 ∷ b12 ∷ b13 ∷ b14 ∷ []) h = absurd (omega arith)
sixteen (b0 ∷ b1 ∷ b2 ∷ b3 ∷ b4 ∷ b5 ∷ b6 ∷ b7 ∷ b8 ∷ b9 ∷ b10 ∷ b11 ∷ b12 ∷ b13 ∷ b14 ∷ b15 ∷ []) h = refl
sixteen (b0 ∷ b1 ∷ b2 ∷ b3 ∷ b4 ∷ b5 ∷ b6 ∷ b7 ∷ b8 ∷ b9 ∷ b10 ∷ b11 ∷ b12 ∷ b13 ∷ b14 ∷ b15 ∷ b16 ∷ rest) h = absurd (omega arith)

-- the shares of a block's bytes are the register after the block
pub block-shares : (r : ℕ) (bytes : List ℕ) → length bytes ≡ 16 → r < 2 ^ 32 → AreBytes bytes
    → bit_xor (bit_xor (bit_xor (bit_xor (bit_xor (bit_xor (bit_xor (bit_xor (bit_xor (bit_xor (bit_xor (bit_xor (bit_xor (bit_xor (bit_xor (times_bytes 16 (bit_xor (r % 256) (get_or bytes 0 0))) (times_bytes 15 (bit_xor (r / 256 % 256) (get_or bytes 1 0)))) (times_bytes 14 (bit_xor (r / 65536 % 256) (get_or bytes 2 0)))) (times_bytes 13 (bit_xor (r / 16777216 % 256) (get_or bytes 3 0)))) (times_bytes 12 (get_or bytes 4 0))) (times_bytes 11 (get_or bytes 5 0))) (times_bytes 10 (get_or bytes 6 0))) (times_bytes 9 (get_or bytes 7 0))) (times_bytes 8 (get_or bytes 8 0))) (times_bytes 7 (get_or bytes 9 0))) (times_bytes 6 (get_or bytes 10 0))) (times_bytes 5 (get_or bytes 11 0))) (times_bytes 4 (get_or bytes 12 0))) (times_bytes 3 (get_or bytes 13 0))) (times_bytes 2 (get_or bytes 14 0))) (times_bytes 1 (get_or bytes 15 0))
    ≡ absorbed r bytes
block-shares r bytes size small h =
    spelled_out r (get_or bytes 0 0) (get_or bytes 1 0) (get_or bytes 2 0) (get_or bytes 3 0) (get_or bytes 4 0) (get_or bytes 5 0) (get_or bytes 6 0) (get_or bytes 7 0) (get_or bytes 8 0) (get_or bytes 9 0) (get_or bytes 10 0) (get_or bytes 11 0) (get_or bytes 12 0) (get_or bytes 13 0) (get_or bytes 14 0) (get_or bytes 15 0) small (subst AreBytes (sixteen bytes size) h)
    ∙ ap (absorbed r) (sym (sixteen bytes size))

-- equal terms have equal sums
met : {a b c d : ℕ} → a ≡ b → c ≡ d → bit_xor a c ≡ bit_xor b d
met {a} {b} {c} {d} p q = ap (λ n. bit_xor n c) p ∙ ap (bit_xor b) q

-- the same for shares that were looked up, with the register's bytes as a list
pub block-looked_up : (r : ℕ) (low bytes : List ℕ) (x0 x1 x2 x3 x4 x5 x6 x7 x8 x9 x10 x11 x12 x13 x14 x15 : ℕ)
    → low ≡ r % 256 ∷ r / 256 % 256 ∷ r / 65536 % 256 ∷ r / 16777216 % 256 ∷ []
    → length bytes ≡ 16 → r < 2 ^ 32 → AreBytes bytes
    → x0 ≡ times_bytes 16 (bit_xor (get_or low 0 0) (get_or bytes 0 0)) → x1 ≡ times_bytes 15 (bit_xor (get_or low 1 0) (get_or bytes 1 0)) → x2 ≡ times_bytes 14 (bit_xor (get_or low 2 0) (get_or bytes 2 0)) → x3 ≡ times_bytes 13 (bit_xor (get_or low 3 0) (get_or bytes 3 0)) → x4 ≡ times_bytes 12 (get_or bytes 4 0) → x5 ≡ times_bytes 11 (get_or bytes 5 0) → x6 ≡ times_bytes 10 (get_or bytes 6 0) → x7 ≡ times_bytes 9 (get_or bytes 7 0) → x8 ≡ times_bytes 8 (get_or bytes 8 0) → x9 ≡ times_bytes 7 (get_or bytes 9 0) → x10 ≡ times_bytes 6 (get_or bytes 10 0) → x11 ≡ times_bytes 5 (get_or bytes 11 0) → x12 ≡ times_bytes 4 (get_or bytes 12 0) → x13 ≡ times_bytes 3 (get_or bytes 13 0) → x14 ≡ times_bytes 2 (get_or bytes 14 0) → x15 ≡ times_bytes 1 (get_or bytes 15 0)
    → bit_xor (bit_xor (bit_xor (bit_xor (bit_xor (bit_xor (bit_xor (bit_xor (bit_xor (bit_xor (bit_xor (bit_xor (bit_xor (bit_xor (bit_xor x0 x1) x2) x3) x4) x5) x6) x7) x8) x9) x10) x11) x12) x13) x14) x15
    ≡ absorbed r bytes
block-looked_up r low bytes x0 x1 x2 x3 x4 x5 x6 x7 x8 x9 x10 x11 x12 x13 x14 x15 is size small h e0 e1 e2 e3 e4 e5 e6 e7 e8 e9 e10 e11 e12 e13 e14 e15 =
    met (met (met (met (met (met (met (met (met (met (met (met (met (met (met e0 e1) e2) e3) e4) e5) e6) e7) e8) e9) e10) e11) e12) e13) e14) e15
    ∙ ap (λ (l : List ℕ). bit_xor (bit_xor (bit_xor (bit_xor (bit_xor (bit_xor (bit_xor (bit_xor (bit_xor (bit_xor (bit_xor (bit_xor (bit_xor (bit_xor (bit_xor (times_bytes 16 (bit_xor (get_or l 0 0) (get_or bytes 0 0))) (times_bytes 15 (bit_xor (get_or l 1 0) (get_or bytes 1 0)))) (times_bytes 14 (bit_xor (get_or l 2 0) (get_or bytes 2 0)))) (times_bytes 13 (bit_xor (get_or l 3 0) (get_or bytes 3 0)))) (times_bytes 12 (get_or bytes 4 0))) (times_bytes 11 (get_or bytes 5 0))) (times_bytes 10 (get_or bytes 6 0))) (times_bytes 9 (get_or bytes 7 0))) (times_bytes 8 (get_or bytes 8 0))) (times_bytes 7 (get_or bytes 9 0))) (times_bytes 6 (get_or bytes 10 0))) (times_bytes 5 (get_or bytes 11 0))) (times_bytes 4 (get_or bytes 12 0))) (times_bytes 3 (get_or bytes 13 0))) (times_bytes 2 (get_or bytes 14 0))) (times_bytes 1 (get_or bytes 15 0))) is
    ∙ block-shares r bytes size small h
