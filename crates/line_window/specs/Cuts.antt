-- The cuts of an object: its pieces, each of which a delimiter or the object's end closes. Lines are cut at every delimiter.
use Rattle.std.specs.Prelude.{◌≡◌, ℕ, ◌+◌, ◌-◌, ◌≤◌, ◌==◌, List, [], ◌∷◌, ◌++◌, map, take, drop, bytes_eq, if◌then◌else◌}
use Rattle.line_window.specs.Starts.{body, whole_len, starts}

-- the place of the first byte; the bytes without the delimiter; the length with it
pub record Cut : Type 0 where
  pub start : ℕ
  pub body : List ℕ
  pub whole : ℕ

-- bytes without a leading UTF-8 byte order mark
abbrev pub without_mark : List ℕ → List ℕ
without_mark xs = if bytes_eq (take 3 xs) (0xef ∷ 0xbb ∷ 0xbf ∷ []) then drop 3 xs else xs

-- the content of a cut: its body, without a byte order mark at the object's front
abbrev pub content : Cut → List ℕ
content cut = if cut.start == 0 then without_mark cut.body else cut.body

-- the cut of the line at a start
abbrev pub cut_at : List ℕ → List ℕ → ℕ → Cut
cut_at delimiter object p = record { start = p; body = body delimiter object p; whole = whole_len delimiter object p }

-- the cuts of the lines that start among the k places from p on
abbrev pub cuts : List ℕ → List ℕ → ℕ → ℕ → List Cut
cuts delimiter object p k = map (cut_at delimiter object) (starts delimiter object p k)

-- the cuts of the lines that start in a range: from its first place to its last, both included
abbrev pub cuts_in : List ℕ → List ℕ → ℕ → ℕ → List Cut
cuts_in delimiter object first last = cuts delimiter object first (last + 1 - first)

-- The tiling law: the cuts of two adjacent ranges, one list after the other, are the cuts of both.
abbrev pub AdjacentCutsAppend : Type 0
AdjacentCutsAppend =
    (delimiter object : List ℕ) (first middle last : ℕ) → first ≤ middle → middle ≤ last
    → cuts_in delimiter object first last ≡ cuts_in delimiter object first middle ++ cuts_in delimiter object (middle + 1) last
