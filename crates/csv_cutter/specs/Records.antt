-- The records of an object whose quoted fields may hold record delimiters, as cuts: each ends at the first delimiter that stands outside
-- of the quoted part of a field, or at the object's end.
use Rattle.std.specs.Prelude.{◌≡◌, ℕ, ◌+◌, ◌-◌, ◌<◌, ◌≤◌, true, ◌==◌, ◌⊎◌, List, [], ◌∷◌, if◌then◌else◌, length, take, drop}
use Rattle.line_window.specs.Cuts.{Cut, without_mark}
use Rattle.line_window.specs.Delimiters.{StandsAt}
use Rattle.csv_cutter.specs.declared.dialect.Dialect.{Dialect}
use Rattle.csv_cutter.specs.Dialects.{is_valid, delimiter_bytes}
use Rattle.csv_cutter.specs.Fields.{begins_with, IsClosed}

-- the bytes of the dialect's record delimiter
abbrev pub delimiter_of : Dialect → List ℕ
delimiter_of d = delimiter_bytes d.delimiter

-- the content of the record that starts at place p and has this body: without a byte order mark at the object's front
abbrev pub content_at : ℕ → List ℕ → List ℕ
content_at p body = if p == 0 then without_mark body else body

-- a record with this content may end at a delimiter: it is a comment, or its fields are closed
abbrev pub MayEndWith : Dialect → List ℕ → Type 0
MayEndWith d content = (begins_with d.comment content ≡ true) ⊎ IsClosed d content

-- the delimiter stands k bytes behind place p, and the record that starts at p may end there
pub record MayEnd (d : Dialect) (object : List ℕ) (p k : ℕ) : Type 0 where
  pub here : StandsAt (delimiter_of d) (drop p object) k
  pub ends : MayEndWith d (content_at p (take k (drop p object)))

-- a record with this body and whole length starts at place p: it ends at the first delimiter where it may, or at the object's end
pub data EndsRecord (d : Dialect) (object : List ℕ) (p : ℕ) (body : List ℕ) (whole : ℕ) : Type 0 where
  delimited : (k : ℕ) → MayEnd d object p k → ((j : ℕ) → j < k → MayEnd d object p j → ⊥) → body ≡ take k (drop p object)
      → whole ≡ k + length (delimiter_of d) → EndsRecord d object p body whole
  unended : ((j : ℕ) → MayEnd d object p j → ⊥) → body ≡ drop p object → whole ≡ length object - p → EndsRecord d object p body whole

-- the cut of the record that starts at place p
pub record CutsRecord (d : Dialect) (object : List ℕ) (p : ℕ) (cut : Cut) : Type 0 where
  pub some : p < length object
  pub start : cut.start ≡ p
  pub ends : EndsRecord d object p cut.body cut.whole

-- The records from place p on: where the object goes on, one starts there, and the next one behind it.
abbrev pub AreRecords : Dialect → List ℕ → ℕ → List Cut → Type 0
AreRecords d object p [] = length object ≤ p
AreRecords d object p (cut ∷ cuts) = CutsRecord d object p cut × AreRecords d object (p + cut.whole) cuts

-- each object has records
abbrev pub EachObjectHasRecords : Type 0
EachObjectHasRecords = (d : Dialect) → is_valid d ≡ true → (object : List ℕ) → (cuts : List Cut) × AreRecords d object 0 cuts

-- an object has no other records
abbrev pub RecordsAreOne : Type 0
RecordsAreOne =
    (d : Dialect) → is_valid d ≡ true → (object : List ℕ) (one other : List Cut) → AreRecords d object 0 one → AreRecords d object 0 other → one ≡ other
