-- The register of a bitwise CRC-32: a polynomial of degree below 32 as a number whose least
-- significant bit is the coefficient of x^31.
use Rattle.std.specs.Prelude.{ℕ, zero, suc, ◌*◌, ◌/◌, ◌%◌, List, [], ◌∷◌, bit_xor}

-- the register times x, less a multiple of the generator
unfoldable pub times_x : ℕ → ℕ
times_x register = bit_xor (register / 2) (register % 2 * 0xEDB88320)

-- the register times x^k
unfoldable pub times_power : ℕ → ℕ → ℕ
times_power zero register = register
times_power (suc k) register = times_power k (times_x register)

-- the register times x^(8 k)
unfoldable pub times_bytes : ℕ → ℕ → ℕ
times_bytes zero register = register
times_bytes (suc k) register = times_bytes k (times_power 8 register)

-- the register after these bytes of the message
unfoldable pub absorbed : ℕ → List ℕ → ℕ
absorbed register [] = register
absorbed register (byte ∷ bytes) = absorbed (times_power 8 (bit_xor register byte)) bytes

-- the register after these blocks of the message, one after the other
unfoldable pub absorbed_blocks : ℕ → List (List ℕ) → ℕ
absorbed_blocks register [] = register
absorbed_blocks register (block ∷ blocks) = absorbed_blocks (absorbed register block) blocks
