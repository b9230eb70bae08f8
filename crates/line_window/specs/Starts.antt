-- Where the lines of an object start, and where their bodies end. An object is a list of bytes, and so is the delimiter that ends a line.
use Rattle.std.specs.Prelude.{◌≡◌, ℕ, zero, suc, ◌+◌, ◌-◌, ◌≤◌, Bool, ◌&&◌, ◌||◌, ◌==◌, nat_lt, nat_le, List, [], ◌∷◌, ◌++◌, length, take, drop, min, bytes_eq, if◌then◌else◌}

-- the delimiter stands directly before place p
abbrev pub ends_at : List ℕ → List ℕ → ℕ → Bool
ends_at delimiter object p =
    nat_le (length delimiter) p && bytes_eq (take (length delimiter) (drop (p - length delimiter) object)) delimiter

-- a line starts at place p: the object has a byte there, and p is 0 or the delimiter stands directly before p
abbrev pub is_start : List ℕ → List ℕ → ℕ → Bool
is_start delimiter object p = nat_lt p (length object) && (p == 0 || ends_at delimiter object p)

-- the starts among the k places from p on, ascending
abbrev pub starts : List ℕ → List ℕ → ℕ → ℕ → List ℕ
starts delimiter object p zero = []
starts delimiter object p (suc k) =
    if is_start delimiter object p then p ∷ starts delimiter object (suc p) k else starts delimiter object (suc p) k

-- the starts of a range: those from its first place to its last, both included
abbrev pub starts_in : List ℕ → List ℕ → ℕ → ℕ → List ℕ
starts_in delimiter object first last = starts delimiter object first (last + 1 - first)

-- the bytes before the first place where the delimiter stands, or all of them
abbrev pub before_delimiter : List ℕ → List ℕ → List ℕ
before_delimiter delimiter [] = []
before_delimiter delimiter (x ∷ xs) =
    if bytes_eq (take (length delimiter) (x ∷ xs)) delimiter then [] else x ∷ before_delimiter delimiter xs

-- the body of the line at p: from p to the first place at or after p where the delimiter stands, or to the object's end
abbrev pub body : List ℕ → List ℕ → ℕ → List ℕ
body delimiter object p = before_delimiter delimiter (drop p object)

-- the whole length of the line at p: its body and, where the object goes on, the delimiter after it
abbrev pub whole_len : List ℕ → List ℕ → ℕ → ℕ
whole_len delimiter object p = min (length (body delimiter object p) + length delimiter) (length object - p)

-- The tiling law: the starts of two adjacent ranges, one list after the other, are the starts of both.
abbrev pub AdjacentStartsAppend : Type 0
AdjacentStartsAppend =
    (delimiter object : List ℕ) (first middle last : ℕ) → first ≤ middle → middle ≤ last
    → starts_in delimiter object first last ≡ starts_in delimiter object first middle ++ starts_in delimiter object (middle + 1) last

-- the bytes from place i up to j, as far as the object goes
abbrev pub bytes_between : List ℕ → ℕ → ℕ → List ℕ
bytes_between object i j = take (j - i) (drop i object)

-- Locality: the starts of a range are told by the bytes of the range and as many bytes before it as the delimiter has.
abbrev pub NearBytesTell : Type 0
NearBytesTell =
    (delimiter one other : List ℕ) (first last : ℕ) → first ≤ last
    → bytes_between one (first - length delimiter) (last + 1) ≡ bytes_between other (first - length delimiter) (last + 1)
    → starts_in delimiter one first last ≡ starts_in delimiter other first last
