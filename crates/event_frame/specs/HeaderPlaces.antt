-- Where headers stand in their bytes, and the first of them whose name came before.
use Rattle.std.specs.Prelude.{◌≡◌, ℕ, ◌+◌, ◌<◌, ◌≤◌, List, [], ◌∷◌, ◌++◌, length, slice_index, take, drop, ⊤}
use Rattle.std.specs.Cmp.Lexicographic.{slice_cmp}
use Rattle.std.specs.Ordering.{nat_cmp, ordering_then}
use Rattle.std.specs.declared.cmp.Ordering.{Ordering}
use Rattle.event_frame.specs.Message.{Header, print_header, print_headers}
use Rattle.event_frame.specs.Reading.{IsHeader}
use Rattle.event_frame.specs.HeaderFront.{HasNoHeader}

-- each header can be written; a name may come twice
abbrev pub CanBeWritten : List Header → Type 0
CanBeWritten [] = ⊤
CanBeWritten (h ∷ headers) = IsHeader h × CanBeWritten headers

-- the places of headers that stand one after the other, the first at this one
abbrev pub places_from : ℕ → List Header → List ℕ
places_from at [] = []
places_from at (h ∷ headers) = at ∷ places_from (at + length (print_header h)) headers

-- the bytes are headers at these places, and then the rest
pub record ListsHeaders (bytes places rest : List ℕ) : Type 0 where
  pub headers : List Header
  pub can_be_written : CanBeWritten headers
  pub spelled : bytes ≡ print_headers headers ++ rest
  pub places_are : places ≡ places_from 0 headers

-- these are the places of all headers that stand before the first one that can't be written, and their end
pub record ListsAllHeaders (bytes places : List ℕ) (end : ℕ) : Type 0 where
  pub rest : List ℕ
  pub lists : ListsHeaders bytes places rest
  pub last : HasNoHeader rest
  pub end_is : end + length rest ≡ length bytes

-- the name that its length (1) stands before
abbrev pub front_name : List ℕ → List ℕ
front_name [] = []
front_name (n ∷ rest) = take n rest

-- the name of the header at a place
unfoldable pub name_at : List ℕ → ℕ → List ℕ
name_at bytes place = front_name (drop place bytes)

-- the order of places by the names that stand there, and then by the places
abbrev pub by_name : List ℕ → ℕ → ℕ → Ordering
by_name bytes p q = ordering_then (slice_cmp nat_cmp (name_at bytes p) (name_at bytes q)) (nat_cmp p q)

-- the least place whose left neighbour in the list has the same name, or the end where there is none
pub record IsLeastRepeat (bytes places : List ℕ) (end least : ℕ) : Type 0 where
  pub within : least ≤ end
  pub is_one : least < end
      → (k : ℕ) × (k + 1 < length places) × (slice_index places (k + 1) ≡ least)
      × (name_at bytes (slice_index places k) ≡ name_at bytes (slice_index places (k + 1)))
  pub is_least : (k : ℕ) → k + 1 < length places → name_at bytes (slice_index places k) ≡ name_at bytes (slice_index places (k + 1))
      → least ≤ slice_index places (k + 1)
