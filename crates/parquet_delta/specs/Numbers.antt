-- The numbers of the delta encodings (Apache Parquet format, "Delta Encoding"): ULEB128 varints, zigzag, and sums modulo
-- the size of a word.
use Rattle.std.specs.Prelude.{ℕ, ℤ, ◌+◌, ◌-◌, ◌%◌, ◌^◌, List, [], ◌∷◌, drop, Option, None, Some, Result, Ok, Err}
use Rattle.std.specs.Int.{cast_signed, cast_unsigned, w32, w64}
use Rattle.thrift_compact.specs.declared.faults.ThriftFault.{ThriftFault}
use Rattle.thrift_compact.specs.Varints.{varint_at, zigzag}
use Rattle.parquet_delta.specs.declared.word.Word.{Word}
use Rattle.parquet_delta.specs.declared.word.Word.TheVariants.{Bits32, Bits64}

-- what was read, and the bytes behind it
abbrev pub behind : List ℕ → Result (ℕ × ℕ) ThriftFault → Option (ℕ × List ℕ)
behind bytes (Ok x) = Some (x.0, drop x.1 bytes)
behind bytes (Err f) = None

-- the varint at the front, and the bytes behind it
unfoldable pub number_at : List ℕ → Option (ℕ × List ℕ)
number_at bytes = behind bytes (varint_at (2 ^ 64 - 1) bytes)

-- the 64 bits of the signed number that a varint stands for
unfoldable pub zigzag_bits : ℕ → ℕ
zigzag_bits n = cast_unsigned w64 (zigzag n)

-- a sum of 64 bits read as a signed word. Its low 32 bits are the sum modulo 2^32
unfoldable pub signed_of : Word → ℕ → ℤ
signed_of Bits32 sum = cast_signed w32 (sum % 2 ^ 32)
signed_of Bits64 sum = cast_signed w64 sum

-- the sum with the next delta
abbrev pub next_sum : ℕ → List ℕ → ℕ
next_sum sum [] = sum
next_sum sum (d ∷ deltas) = (sum + d) % 2 ^ 64
