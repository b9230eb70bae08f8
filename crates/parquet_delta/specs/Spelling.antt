-- What bytes spell which whole numbers: DELTA_BINARY_PACKED as a relation (Apache Parquet format, "Delta Encoding"). A block
-- has a head, a width for each of its miniblocks, and the bodies of those miniblocks that hold a value of the list. A body is
-- packed whole, padding included; the widths of later miniblocks may be any byte, and these have no bodies.
use Rattle.std.specs.Prelude.{◌≡◌, ℕ, ℤ, zero, suc, ⊤, ◌-◌, ◌/◌, ◌^◌, ◌<◌, ◌≤◌, true, List, [], ◌∷◌, ◌++◌, length}
use Rattle.std.specs.Int.{div_ceil}
use Rattle.packed_bits.specs.Packed.{little}
use Rattle.thrift_compact.specs.Grammar.{SpellsVarint}
use Rattle.parquet_delta.specs.declared.word.Word.{Word}
use Rattle.parquet_delta.specs.Numbers.{zigzag_bits}
use Rattle.parquet_delta.specs.Blocks.{mini_size, mini_deltas}
use Rattle.parquet_delta.specs.Lists.{is_shape, values_from}

-- a varint without sign, of at most 64 bits
abbrev pub SpellsNumber : ℕ → List ℕ → Type 0
SpellsNumber number text = SpellsVarint (2 ^ 64 - 1) number text

-- the least delta's number in zigzag and its bytes, the widths, and the bodies
pub record Block : Type 0 where
  pub number : ℕ
  pub head : List ℕ
  pub widths : List ℕ
  pub bodies : List (List ℕ)

-- bodies of miniblocks of these widths, of which so many hold values
abbrev pub AreBodies : ℕ → ℕ → List ℕ → List (List ℕ) → Type 0
AreBodies values zero widths [] = ⊤
AreBodies values zero widths (body ∷ bodies) = ⊥
AreBodies values (suc n) [] [] = ⊤
AreBodies values (suc n) [] (body ∷ bodies) = ⊥
AreBodies values (suc n) (width ∷ widths) [] = ⊥
AreBodies values (suc n) (width ∷ widths) (body ∷ bodies) =
    (width ≤ 64) × (length body ≡ mini_size values width) × AreBodies values n widths bodies

-- blocks of miniblocks of so many values, so many a block, of which so many hold values
abbrev pub AreBlocks : ℕ → ℕ → ℕ → List Block → Type 0
AreBlocks values minis n [] = n ≡ 0
AreBlocks values minis n (b ∷ blocks) =
    (0 < n)
    × SpellsNumber b.number b.head × (length b.widths ≡ minis) × AreBodies values n b.widths b.bodies
    × AreBlocks values minis (n - minis) blocks

-- the bytes of bodies, and of blocks
abbrev pub bodies_text : List (List ℕ) → List ℕ
bodies_text [] = []
bodies_text (body ∷ bodies) = body ++ bodies_text bodies

abbrev pub blocks_text : List Block → List ℕ
blocks_text [] = []
blocks_text (b ∷ blocks) = b.head ++ (b.widths ++ (bodies_text b.bodies ++ blocks_text blocks))

-- the deltas of bodies, and of blocks: the least delta and each packed number
abbrev pub bodies_deltas : ℕ → ℕ → List ℕ → List (List ℕ) → List ℕ
bodies_deltas values least widths [] = []
bodies_deltas values least [] (body ∷ bodies) = []
bodies_deltas values least (width ∷ widths) (body ∷ bodies) =
    mini_deltas values (record { least = least; width = width; bits = little body }) ++ bodies_deltas values least widths bodies

abbrev pub blocks_deltas : ℕ → List Block → List ℕ
blocks_deltas values [] = []
blocks_deltas values (b ∷ blocks) = bodies_deltas values (zigzag_bits b.number) b.widths b.bodies ++ blocks_deltas values blocks

-- a list of at least one value: the block size, the number of miniblocks, the count, the first value and the blocks
pub record SpellsSome (word : Word) (values : List ℤ) (text : List ℕ) : Type 0 where
  pub size : ℕ
  pub size_text : List ℕ
  pub size_spelled : SpellsNumber size size_text
  pub minis : ℕ
  pub minis_text : List ℕ
  pub minis_spelled : SpellsNumber minis minis_text
  pub shape : is_shape size minis ≡ true
  pub count : ℕ
  pub count_text : List ℕ
  pub count_spelled : SpellsNumber count count_text
  pub count_is : count ≡ length values
  pub first : ℕ
  pub first_text : List ℕ
  pub first_spelled : SpellsNumber first first_text
  pub blocks : List Block
  pub are_blocks : AreBlocks (size / minis) minis (div_ceil (count - 1) (size / minis)) blocks
  pub values_are : values ≡ values_from word count (zigzag_bits first) (blocks_deltas (size / minis) blocks)
  pub text_is : text ≡ size_text ++ (minis_text ++ (count_text ++ (first_text ++ blocks_text blocks)))

-- the bytes are these values. No value has no byte
abbrev pub Spells : Word → List ℤ → List ℕ → Type 0
Spells word [] text = text ≡ []
Spells word (v ∷ values) text = SpellsSome word (v ∷ values) text

-- a front of the bytes is these values, and has so many bytes
pub record SpellsFront (word : Word) (values : List ℤ) (used : ℕ) (bytes : List ℕ) : Type 0 where
  pub text : List ℕ
  pub spelled : Spells word values text
  pub used_is : used ≡ length text
  pub rest : List ℕ
  pub joined : bytes ≡ text ++ rest

-- no front of the bytes is a list of so many values
abbrev pub SpellsNone : Word → ℕ → List ℕ → Type 0
SpellsNone word count bytes =
    (values : List ℤ) (text rest : List ℕ) → length values ≡ count → bytes ≡ text ++ rest → Spells word values text → ⊥
