-- Any file's footer has a tree.
use Rattle.std.proofs.Common.{ℕ, zero, suc, ◌-◌, ◌<◌, Bool, true, false, nat_lt, if◌then◌else◌, List, [], ◌∷◌, length, take, drop, get_or, Result, Ok, Err, arith}
use Rattle.thrift_compact.specs.Trees.{FieldList, stop}
use Rattle.thrift_compact.specs.Varints.{IsBytes}
use Rattle.thrift_compact.proofs.TreeBuilt.{tree_built}
use Rattle.parquet_metadata.specs.declared.faults.FooterError.{FooterError}
use Rattle.parquet_metadata.specs.declared.faults.FooterError.TheVariants.{FooterTooLarge, BadFooter}
use Rattle.parquet_metadata.specs.Layout.{told_length, located, footer_of_length, footer_place, largest_footer}
use Rattle.parquet_metadata.specs.Files.{IsTreeOf, HasFileTree}

bytes_in_front : (n : ℕ) (bytes : List ℕ) → IsBytes bytes → (i : ℕ) → get_or (take n bytes) i 0 < 256
bytes_in_front zero bytes are i = omega arith
bytes_in_front (suc n) [] are i = omega arith
bytes_in_front (suc n) (b ∷ bytes) are zero = are 0
bytes_in_front (suc n) (b ∷ bytes) are (suc i) = bytes_in_front n bytes (λ j. are (suc j)) i

bytes_behind : (n : ℕ) (bytes : List ℕ) → IsBytes bytes → (i : ℕ) → get_or (drop n bytes) i 0 < 256
bytes_behind zero bytes are i = are i
bytes_behind (suc n) [] are i = omega arith
bytes_behind (suc n) (b ∷ bytes) are i = bytes_behind n bytes (λ j. are (suc j)) i

abbrev Has : Result (List ℕ) FooterError → Type 0
Has footer = (fields : FieldList) × IsTreeOf footer fields

bytes_have : (bytes : List ℕ) → IsBytes bytes → Has (Ok bytes)
bytes_have bytes are = let t = tree_built bytes are in (t.fields, (t.answer, t.are))

tested : (large long : Bool) (e f : FooterError) (bytes : List ℕ) → IsBytes bytes → Has (if large then Err e else if long then Err f else Ok bytes)
tested true long e f bytes are = (stop 0, tt)
tested false true e f bytes are = (stop 0, tt)
tested false false e f bytes are = bytes_have bytes are

of_length : (object : List ℕ) (len : Result ℕ FooterError) → IsBytes object → Has (footer_of_length object len)
of_length object (Err e) are = (stop 0, tt)
of_length object (Ok len) are =
    tested (nat_lt largest_footer len) (nat_lt (length object - 12) len) FooterTooLarge (BadFooter (length object - 8)) (take len (drop (footer_place object len) object))
    (bytes_in_front len (drop (footer_place object len) object) (bytes_behind (footer_place object len) object are))

pub file_tree : (object : List ℕ) → IsBytes object → HasFileTree object
unfolding located
file_tree object are =
    let t = of_length object (told_length object) are in
    record { fields = t.0; is = t.1 }
