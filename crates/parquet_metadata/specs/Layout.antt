-- How a file is laid out (Apache Parquet, "File format"): the mark PAR1, the pages, the footer, the footer's length
-- in 4 bytes, little-endian, and the mark again.
use Rattle.std.specs.Prelude.{◌≡◌, ℕ, ◌+◌, ◌-◌, ◌*◌, nat_lt, ◌&&◌, bytes_eq, if◌then◌else◌, List, [], ◌∷◌, length, take, drop, Some, Result, Ok, Err}
use Rattle.select_ports.specs.Stored.{Opened}
use Rattle.parquet_metadata.specs.declared.faults.FooterError.{FooterError}
use Rattle.parquet_metadata.specs.declared.faults.FooterError.TheVariants.{Failed, OutOfMemory, NotParquet, FooterTooLarge, BadFooter}

-- the store tells these bytes of its open object
abbrev pub Tells : Opened → List ℕ → Type 0
Tells opened object = opened ≡ Some (length object, Some object)

-- PAR1
abbrev pub mark : List ℕ
mark = 80 ∷ 65 ∷ 82 ∷ 49 ∷ []

-- the largest footer, in bytes
abbrev pub largest_footer : ℕ
largest_footer = 16777216

-- the number of little-endian bytes
abbrev pub little : List ℕ → ℕ
little [] = 0
little (b ∷ bytes) = b + 256 * little bytes

-- the footer's length, where these 4 first bytes and 8 last bytes have the marks
abbrev pub ends_in : List ℕ → List ℕ → Result ℕ FooterError
ends_in first last =
    if bytes_eq first mark && bytes_eq (drop 4 last) mark then Ok (little (take 4 last))
    else Err NotParquet

-- the footer's length, as a file tells it, whose marks and length stand in bytes of their own
unfoldable pub told_length : List ℕ → Result ℕ FooterError
told_length object =
    if nat_lt (length object) 12 then Err NotParquet
    else ends_in (take 4 object) (take 8 (drop (length object - 8) object))

-- the place of the footer of this length
abbrev pub footer_place : List ℕ → ℕ → ℕ
footer_place object len = length object - 8 - len

-- a footer of the told length, of which a file has room for so many bytes
abbrev pub footer_in : List ℕ → ℕ → Result (List ℕ) FooterError
footer_in object len =
    if nat_lt largest_footer len then Err FooterTooLarge
    else if nat_lt (length object - 12) len then Err (BadFooter (length object - 8))
    else Ok (take len (drop (footer_place object len) object))

abbrev pub footer_of_length : List ℕ → Result ℕ FooterError → Result (List ℕ) FooterError
footer_of_length object (Ok len) = footer_in object len
footer_of_length object (Err e) = Err e

-- the footer's bytes, or the first of these checks that the file fails: its size and marks, the largest length,
-- and its room
unfoldable pub located : List ℕ → Result (List ℕ) FooterError
located object = footer_of_length object (told_length object)

-- what reading the marks and the footer's length answers. A call that fails may come at any time
abbrev pub TellsLength : List ℕ → Result ℕ FooterError → Type 0
TellsLength object (Ok len) = told_length object ≡ Ok len
TellsLength object (Err Failed) = Unit {0}
TellsLength object (Err e) = told_length object ≡ Err e

-- what reading the footer's bytes answers. A call that fails and want of memory may come at any time
abbrev pub Locates : List ℕ → Result (List ℕ) FooterError → Type 0
Locates object (Ok bytes) = located object ≡ Ok bytes
Locates object (Err Failed) = Unit {0}
Locates object (Err OutOfMemory) = Unit {0}
Locates object (Err e) = located object ≡ Err e

-- the error isn't one of the file: a read failed, or memory is wanting
abbrev pub IsWant : FooterError → Type 0
IsWant Failed = Unit {0}
IsWant OutOfMemory = Unit {0}
IsWant _ = ⊥

-- how many bytes the footer has, where the file has one
abbrev pub length_of : Result (List ℕ) FooterError → ℕ
length_of (Ok bytes) = length bytes
length_of (Err e) = 0

abbrev pub footer_length : List ℕ → ℕ
footer_length object = length_of (located object)
