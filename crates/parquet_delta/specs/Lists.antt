-- Lists in DELTA_BINARY_PACKED (Apache Parquet format, "Delta Encoding"): `<block size in values> <number of miniblocks in
-- a block> <total value count> <first value>` and the blocks.
use Rattle.std.specs.Prelude.{◌≡◌, ℕ, ℤ, zero, suc, ◌-◌, ◌/◌, ◌%◌, ◌^◌, ◌&&◌, ◌==◌, nat_lt, Bool, List, [], ◌∷◌, length, drop, if◌then◌else◌, Option, None, Some}
use Rattle.std.specs.Option.{option_and_then}
use Rattle.std.specs.Int.{div_ceil}
use Rattle.parquet_delta.specs.declared.word.Word.{Word}
use Rattle.parquet_delta.specs.Numbers.{number_at, zigzag_bits, signed_of, next_sum}
use Rattle.parquet_delta.specs.Blocks.{Place, end_of, deltas_of}

-- what the head tells: the bits of the first value, and where the miniblocks begin
pub record Start : Type 0 where
  pub first : ℕ
  pub place : Place

-- the block size is a multiple of 128 below 2^31, and is cut into miniblocks of a multiple of 32 values
unfoldable pub is_shape : ℕ → ℕ → Bool
is_shape size minis =
    nat_lt 0 size && nat_lt size (2 ^ 31) && (size % 128 == 0) && nat_lt 0 minis && (size % minis == 0) && (size / minis % 32 == 0)

-- the head of a list of so many values
unfoldable pub head_at : ℕ → List ℕ → Option Start
head_at count bytes = option_and_then
    (λ size. option_and_then
    (λ minis. option_and_then
    (λ total. option_and_then
    (λ first. if is_shape size.0 minis.0 && (total.0 == count)
    then Some (record {
      first = zigzag_bits first.0;
      place = record { values = size.0 / minis.0; minis = minis.0; least = 0; widths = []; bytes = first.1 };
    })
    else None)
    (number_at total.1))
    (number_at minis.1))
    (number_at size.1))
    (number_at bytes)

-- so many values, from a sum on
unfoldable pub values_from : Word → ℕ → ℕ → List ℕ → List ℤ
values_from word zero sum deltas = []
values_from word (suc n) sum deltas = signed_of word sum ∷ values_from word n (next_sum sum deltas) (drop 1 deltas)

-- the list of so many values at the front of the bytes, and the bytes behind it. Its miniblocks are as many as hold the deltas
-- of all values but the first
abbrev pub list_behind : Word → ℕ → Start → Option (List ℤ × List ℕ)
list_behind word count start =
    let minis = div_ceil (count - 1) start.place.values in
    option_and_then (λ rest. Some (values_from word count start.first (deltas_of minis start.place), rest)) (end_of minis start.place)

unfoldable pub list_at : Word → ℕ → List ℕ → Option (List ℤ × List ℕ)
list_at word count bytes = if count == 0 then Some ([], bytes) else option_and_then (list_behind word count) (head_at count bytes)

-- a list of which values are still to come, and how many bytes it has
pub record ListState : Type 0 where
  pub left : List ℤ
  pub used : ℕ

-- the values and the length of what was found at the front of the bytes
abbrev pub IsOpened : List ℕ → ListState → Option (List ℤ × List ℕ) → Type 0
IsOpened bytes state None = ⊥
IsOpened bytes state (Some x) = (state.left ≡ x.0) × (state.used ≡ length bytes - length x.1)
