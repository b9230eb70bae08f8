-- Lists of byte arrays (Apache Parquet format, "Delta-length byte array" and "Delta Strings").
use Rattle.std.specs.Prelude.{ℕ, ℤ, pos, negsuc, ◌+◌, ◌-◌, ◌≤◌, ◌&&◌, nat_le, max, Bool, true, false, List, [], ◌∷◌, ◌++◌, length, take, drop, if◌then◌else◌, Option, None, Some}
use Rattle.std.specs.Option.{option_and_then, option_map}
use Rattle.parquet_delta.specs.declared.word.Word.TheVariants.{Bits32}
use Rattle.parquet_delta.specs.Lists.{list_at}

abbrev pub is_natural : ℤ → Bool
is_natural (pos n) = true
is_natural (negsuc n) = false

-- a length that is not negative
abbrev pub size_of : ℤ → ℕ
size_of (pos n) = n
size_of (negsuc n) = 0

-- no length is negative, and so many bytes are enough for all
unfoldable pub are_lengths : List ℤ → ℕ → Bool
are_lengths [] bytes = true
are_lengths (z ∷ lengths) bytes = is_natural z && nat_le (size_of z) bytes && are_lengths lengths (bytes - size_of z)

-- byte arrays of these lengths, one behind the other
unfoldable pub arrays : List ℤ → List ℕ → List (List ℕ)
arrays [] bytes = []
arrays (z ∷ lengths) bytes = take (size_of z) bytes ∷ arrays lengths (drop (size_of z) bytes)

-- DELTA_LENGTH_BYTE_ARRAY: so many lengths and then the bytes of the values
unfoldable pub arrays_at : ℕ → List ℕ → Option (List (List ℕ))
arrays_at count bytes =
    option_and_then (λ x. if are_lengths x.0 (length x.1) then Some (arrays x.0 x.1) else None) (list_at Bits32 count bytes)

-- how long a value of DELTA_BYTE_ARRAY may be
abbrev pub longest_value : ℕ
longest_value = 4194304

-- a value may begin with so many bytes of the one before, which has the length before, and go on with so many others
abbrev pub may_join : ℤ → ℕ → ℕ → Bool
may_join z before suffix = is_natural z && nat_le (size_of z) before && nat_le (size_of z + suffix) longest_value

-- the length of the longest value with these prefixes and suffixes, where each value is as it may be
unfoldable pub longest_of : ℕ → List ℤ → List (List ℕ) → Option ℕ
longest_of before [] suffixes = Some 0
longest_of before (z ∷ prefixes) [] = None
longest_of before (z ∷ prefixes) (s ∷ suffixes) =
    if may_join z before (length s)
    then option_map (max (size_of z + length s)) (longest_of (size_of z + length s) prefixes suffixes)
    else None

-- the values: each is so many first bytes of the one before, and then its suffix
unfoldable pub joined : List ℕ → List ℤ → List (List ℕ) → List (List ℕ)
joined before [] suffixes = []
joined before (z ∷ prefixes) [] = []
joined before (z ∷ prefixes) (s ∷ suffixes) = (take (size_of z) before ++ s) ∷ joined (take (size_of z) before ++ s) prefixes suffixes

-- DELTA_BYTE_ARRAY: so many lengths of prefixes, and the suffixes in DELTA_LENGTH_BYTE_ARRAY. Before the first value is none
abbrev pub joined_by : List ℤ → List (List ℕ) → Option (List (List ℕ))
joined_by prefixes suffixes = option_map (λ n. joined [] prefixes suffixes) (longest_of 0 prefixes suffixes)

unfoldable pub fronts_at : ℕ → List ℕ → Option (List (List ℕ))
fronts_at count bytes = option_and_then (λ x. option_and_then (joined_by x.0) (arrays_at count x.1)) (list_at Bits32 count bytes)

-- the values that are still to come, and the last one that was read
pub record FrontState : Type 0 where
  pub left : List (List ℕ)
  pub value : List ℕ

-- there is room for the longest value
abbrev pub HasRoom : Option ℕ → ℕ → Type 0
HasRoom None room = ⊥
HasRoom (Some n) room = n ≤ room
