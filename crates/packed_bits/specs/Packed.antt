-- Numbers of some bits each, packed one behind the other from the lowest bit of the first byte on (Apache Parquet format,
-- "Run Length Encoding / Bit-Packing Hybrid": bits are packed from the least significant bit of each byte).
use Rattle.std.specs.Prelude.{ℕ, zero, suc, ◌+◌, ◌*◌, ◌/◌, ◌%◌, ◌^◌, List, [], ◌∷◌}

-- bytes as one number, the first byte lowest
unfoldable pub little : List ℕ → ℕ
little [] = 0
little (b ∷ bytes) = b + 256 * little bytes

-- the first so many numbers of this width in a number's bits, the lowest first. Above its bits there are zeros
unfoldable pub unpacked : ℕ → ℕ → ℕ → List ℕ
unpacked width zero bits = []
unpacked width (suc n) bits = bits % 2 ^ width ∷ unpacked width n (bits / 2 ^ width)
