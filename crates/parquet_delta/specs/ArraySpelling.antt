-- What bytes spell which byte arrays: DELTA_LENGTH_BYTE_ARRAY and DELTA_BYTE_ARRAY as relations (Apache Parquet format,
-- "Delta-length byte array" and "Delta Strings").
use Rattle.std.specs.Prelude.{◌≡◌, ℕ, ℤ, pos, ⊤, ◌≤◌, List, [], ◌∷◌, ◌++◌, length, take}
use Rattle.parquet_delta.specs.declared.word.Word.TheVariants.{Bits32}
use Rattle.parquet_delta.specs.Spelling.{Spells}
use Rattle.parquet_delta.specs.Arrays.{longest_value}

-- the lengths of values, and their bytes joined
abbrev pub lengths_of : List (List ℕ) → List ℤ
lengths_of [] = []
lengths_of (v ∷ values) = pos (length v) ∷ lengths_of values

abbrev pub bytes_of : List (List ℕ) → List ℕ
bytes_of [] = []
bytes_of (v ∷ values) = v ++ bytes_of values

-- DELTA_LENGTH_BYTE_ARRAY: the lengths, and then the bytes of the values
pub record SpellsArrays (values : List (List ℕ)) (text : List ℕ) : Type 0 where
  pub lengths_text : List ℕ
  pub lengths_spelled : Spells Bits32 (lengths_of values) lengths_text
  pub text_is : text ≡ lengths_text ++ bytes_of values

-- a front of the bytes is these values, so many
pub record ArraysFront (count : ℕ) (values : List (List ℕ)) (bytes : List ℕ) : Type 0 where
  pub text : List ℕ
  pub spelled : SpellsArrays values text
  pub rest : List ℕ
  pub joined : bytes ≡ text ++ rest
  pub many : length values ≡ count

-- no front of the bytes is a list of so many values
abbrev pub NoArrays : ℕ → List ℕ → Type 0
NoArrays count bytes =
    (values : List (List ℕ)) (text rest : List ℕ) → length values ≡ count → bytes ≡ text ++ rest → SpellsArrays values text → ⊥

-- each value is so many first bytes of the one before and its suffix, and is no longer than a value may be
abbrev pub AreJoined : List ℕ → List (List ℕ) → List ℤ → List (List ℕ) → Type 0
AreJoined before [] [] [] = ⊤
AreJoined before (v ∷ values) (z ∷ prefixes) (s ∷ suffixes) =
    (n : ℕ)
    × (z ≡ pos n) × (n ≤ length before) × (v ≡ take n before ++ s) × (length v ≤ longest_value)
    × AreJoined v values prefixes suffixes
AreJoined before _ _ _ = ⊥

-- DELTA_BYTE_ARRAY: the lengths of the prefixes, and then the suffixes. Before the first value stands an empty one
pub record SpellsFronts (values : List (List ℕ)) (text : List ℕ) : Type 0 where
  pub prefixes : List ℤ
  pub prefixes_text : List ℕ
  pub prefixes_spelled : Spells Bits32 prefixes prefixes_text
  pub suffixes : List (List ℕ)
  pub suffixes_text : List ℕ
  pub suffixes_spelled : SpellsArrays suffixes suffixes_text
  pub are_joined : AreJoined [] values prefixes suffixes
  pub text_is : text ≡ prefixes_text ++ suffixes_text

-- a front of the bytes is these values, so many
pub record FrontsFront (count : ℕ) (values : List (List ℕ)) (bytes : List ℕ) : Type 0 where
  pub text : List ℕ
  pub spelled : SpellsFronts values text
  pub rest : List ℕ
  pub joined : bytes ≡ text ++ rest
  pub many : length values ≡ count

-- no front of the bytes is a list of so many values
abbrev pub NoFronts : ℕ → List ℕ → Type 0
NoFronts count bytes =
    (values : List (List ℕ)) (text rest : List ℕ) → length values ≡ count → bytes ≡ text ++ rest → SpellsFronts values text → ⊥
