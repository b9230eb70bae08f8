-- The CRC-32 of IEEE 802.3 (clause 3.2.9, the frame check sequence): the remainder of the message
-- polynomial under division by the generator, over the field of two elements. A polynomial is the
-- list of its coefficients, that of the highest power first.
use Rattle.std.specs.Prelude.{ℕ, zero, suc, ◌+◌, ◌*◌, ◌/◌, ◌%◌, ◌==◌, Bool, true, false, not, List, [], ◌∷◌, ◌++◌, length, map, replicate, if◌then◌else◌, codes}
use Rattle.std.specs.List.{flat_map}

-- coefficients written as the digits 0 and 1
abbrev pub coefficients : List ℕ → List Bool
coefficients digits = map (λ digit. digit == 49) digits

-- the generator x^32 + x^26 + x^23 + x^22 + x^16 + x^12 + x^11 + x^10 + x^8 + x^7 + x^5 + x^4 + x^2 + x + 1
-- without its leading term: the coefficients of x^31 to 1
abbrev pub generator : List Bool
generator = coefficients (codes "00000100110000010001110110110111")

-- the sum of two coefficients
abbrev pub plus_coefficient : Bool → Bool → Bool
plus_coefficient a true = not a
plus_coefficient a false = a

-- p + q x^k, where the leading coefficients of p and of q x^k stand for the same power
unfoldable pub plus : List Bool → List Bool → List Bool
plus [] q = []
plus (a ∷ p) [] = a ∷ p
plus (a ∷ p) (b ∷ q) = plus_coefficient a b ∷ plus p q

-- long division, k steps: the leading coefficient goes, and where it is 1 the generator, times the
-- power of x that stands there, is subtracted, which is the same as added
unfoldable pub remainder : ℕ → List Bool → List Bool
remainder zero p = p
remainder (suc k) [] = []
remainder (suc k) (a ∷ p) = remainder k (if a then plus p generator else p)

-- the k low bits of a number, the least significant first
unfoldable pub low_bits : ℕ → ℕ → List Bool
low_bits zero n = []
low_bits (suc k) n = (n % 2 == 1) ∷ low_bits k (n / 2)

-- the coefficients of a message: its bytes in order, each with its least significant bit first
unfoldable pub message_bits : List ℕ → List Bool
message_bits bytes = flat_map (low_bits 8) bytes

-- the number with these bits, the least significant first
unfoldable pub number_of : List Bool → ℕ
number_of [] = 0
number_of (a ∷ p) = (if a then 1 else 0) + 2 * number_of p

-- M(x) x^32, its first 32 coefficients complemented, for the coefficients of M
unfoldable pub dividend : List Bool → List Bool
dividend message = plus (message ++ replicate 32 false) (replicate 32 true)

-- the CRC-32 of a message: the complement of the remainder, the coefficient of x^31 being the least
-- significant bit of the number
unfoldable pub crc_of : List ℕ → ℕ
crc_of bytes =
    number_of (map not (remainder (length (message_bits bytes)) (dividend (message_bits bytes))))
