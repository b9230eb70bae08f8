-- The blocks of DELTA_BINARY_PACKED (Apache Parquet format, "Delta Encoding"): `<min delta> <list of bitwidths of
-- miniblocks> <miniblocks>`, where each miniblock is packed whole.
use Rattle.std.specs.Prelude.{ℕ, zero, suc, ◌+◌, ◌*◌, ◌/◌, ◌%◌, ◌^◌, ◌&&◌, nat_le, List, [], ◌∷◌, ◌++◌, length, map, take, drop, if◌then◌else◌, Option, None, Some}
use Rattle.std.specs.Option.{option_and_then}
use Rattle.packed_bits.specs.Packed.{little, unpacked}
use Rattle.parquet_delta.specs.Numbers.{number_at, zigzag_bits}

-- a miniblock: the bits of the block's least delta, the width of its numbers, and their bits
pub record Mini : Type 0 where
  pub least : ℕ
  pub width : ℕ
  pub bits : ℕ

-- where miniblocks go on: how many values one has and how many a block has, the least delta and the widths left of the
-- block, and the bytes
pub record Place : Type 0 where
  pub values : ℕ
  pub minis : ℕ
  pub least : ℕ
  pub widths : List ℕ
  pub bytes : List ℕ

-- how many bytes a miniblock has
abbrev pub mini_size : ℕ → ℕ → ℕ
mini_size values width = values / 8 * width

-- the next miniblock of a block of which these widths are left
abbrev pub mini_of : ℕ → ℕ → ℕ → List ℕ → List ℕ → Option (Mini × Place)
mini_of values minis least [] bytes = None
mini_of values minis least (width ∷ widths) bytes =
    let size = mini_size values width in
    if nat_le width 64 && nat_le size (length bytes)
    then Some (
      record { least = least; width = width; bits = little (take size bytes) },
      record { values = values; minis = minis; least = least; widths = widths; bytes = drop size bytes },
    )
    else None

-- the same where its widths are still to be read
unfoldable pub mini_in : Place → Option (Mini × Place)
mini_in p = mini_of p.values p.minis p.least p.widths p.bytes

-- a block's head: its least delta and the widths of its miniblocks
unfoldable pub block_at : Place → Option Place
block_at p = option_and_then
    (λ x. if nat_le p.minis (length x.1)
    then Some (record { values = p.values; minis = p.minis; least = zigzag_bits x.0; widths = take p.minis x.1; bytes = drop p.minis x.1 })
    else None)
    (number_at p.bytes)

-- the next miniblock, which is the first of the next block where the block has no more
abbrev pub mini_after : List ℕ → Place → Option (Mini × Place)
mini_after [] p = option_and_then mini_in (block_at p)
mini_after (width ∷ widths) p = mini_in p

unfoldable pub mini_at : Place → Option (Mini × Place)
mini_at p = mini_after p.widths p

-- the bytes behind so many miniblocks
unfoldable pub end_of : ℕ → Place → Option (List ℕ)
end_of zero p = Some p.bytes
end_of (suc n) p = option_and_then (λ m. end_of n m.1) (mini_at p)

-- the first so many deltas of a miniblock
unfoldable pub mini_deltas : ℕ → Mini → List ℕ
mini_deltas n m = map (λ x. (m.least + x) % 2 ^ 64) (unpacked m.width n m.bits)

-- the deltas of so many miniblocks, padding included
abbrev pub joined_deltas : ℕ → (Place → List ℕ) → Option (Mini × Place) → List ℕ
joined_deltas values more None = []
joined_deltas values more (Some m) = mini_deltas values m.0 ++ more m.1

unfoldable pub deltas_of : ℕ → Place → List ℕ
deltas_of zero p = []
deltas_of (suc n) p = joined_deltas p.values (deltas_of n) (mini_at p)

-- the deltas that are still to come, and how many of them are those of the miniblock that was entered
pub record RunState : Type 0 where
  pub inside : ℕ
  pub deltas : List ℕ
