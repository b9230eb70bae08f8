-- A walk over a record, a byte at a time: where it stops. It serves the contracts of private functions alone.
use Rattle.std.specs.Prelude.{◌≡◌, ℕ, suc, ◌+◌, ◌-◌, ◌<◌, ◌≤◌, Bool, true, false, ◌==◌, ◌&&◌, List, [], ◌∷◌, ◌++◌, if◌then◌else◌, length, take, drop, min, bytes_eq}
use Rattle.line_window.specs.Delimiters.{StandsAt}
use Rattle.line_window.specs.Cuts.{Cut}
use Rattle.csv_cutter.specs.declared.dialect.Dialect.{Dialect}
use Rattle.csv_cutter.specs.declared.walk.State.{State}
use Rattle.csv_cutter.specs.declared.walk.State.TheVariants.{Start, Tail, Inside, Paired, Comment}
use Rattle.csv_cutter.specs.declared.stride.Stretch.{Stretch}
use Rattle.csv_cutter.specs.Fields.{begins_with}
use Rattle.csv_cutter.specs.Walk.{special, step}
use Rattle.csv_cutter.specs.Records.{delimiter_of}

-- a record may end in this state
abbrev pub may_end : State → Bool
may_end Start = true
may_end Tail = true
may_end Inside = false
may_end Paired = false
may_end Comment = true

-- the bytes begin with the delimiter
abbrev pub delimited : Dialect → List ℕ → Bool
delimited d bytes = bytes_eq (take (length (delimiter_of d)) bytes) (delimiter_of d)

-- the walk stops before these bytes
abbrev pub stops : Dialect → State → List ℕ → Bool
stops d s bytes = may_end s && delimited d bytes

-- how many bytes the walk passes before it stops, or all of them
unfoldable pub stop_from : Dialect → State → List ℕ → ℕ
stop_from d s [] = 0
stop_from d s (c ∷ cs) = if stops d s (c ∷ cs) then 0 else suc (stop_from d (step d s c (special d cs)) cs)

-- the state behind these bytes
unfoldable pub state_after : Dialect → State → List ℕ → State
state_after d s [] = s
state_after d s (c ∷ cs) = state_after d (step d s c (special d cs)) cs

-- the state before a record's content
abbrev pub first_state : Dialect → List ℕ → State
first_state d content = if begins_with d.comment content then Comment else Start

-- how many bytes of a byte order mark stand at the front of the bytes from place p on, where p is the object's front
abbrev pub mark_len : ℕ → List ℕ → ℕ
mark_len p bytes = if p == 0 && bytes_eq (take 3 bytes) (0xef ∷ 0xbb ∷ 0xbf ∷ []) then 3 else 0

-- how many bytes a record's content has, where nothing but the object's end stops it else
abbrev pub content_len : Dialect → List ℕ → ℕ
content_len d content = stop_from d (first_state d content) content

-- the length of the body of the record that starts at place p, where the object goes on with these bytes
unfoldable pub body_len : Dialect → ℕ → List ℕ → ℕ
body_len d p bytes = mark_len p bytes + content_len d (drop (mark_len p bytes) bytes)

-- the cut of that record
abbrev pub cut_of : Dialect → List ℕ → ℕ → Cut
cut_of d object p = record {
  start = p;
  body = take (body_len d p (drop p object)) (drop p object);
  whole = min (body_len d p (drop p object) + length (delimiter_of d)) (length object - p);
}

-- ---- a walk over bytes that are a front of the object's

-- the byte at a place can be told: it is there, and so is the next one, or nothing follows the bytes
pub record IsTold (bytes : List ℕ) (last : Bool) (at : ℕ) : Type 0 where
  pub here : at < length bytes
  pub next : last ≡ false → at + 1 < length bytes

-- no byte from this place on can be told
pub record IsUntold (bytes : List ℕ) (last : Bool) (at : ℕ) : Type 0 where
  pub near : length bytes ≤ at + 1
  pub past : last ≡ true → length bytes ≤ at

-- The walk went from a place in one state to another place in another, whatever follows the bytes; nothing follows where they are the last.
pub record Strides (d : Dialect) (bytes : List ℕ) (last : Bool) (from : ℕ) (s : State) (at : ℕ) (t : State) : Type 0 where
  pub low : from ≤ at
  pub high : at ≤ length bytes
  pub same : (more : List ℕ) → (last ≡ true → more ≡ []) → stop_from d s (drop from bytes ++ more) ≡ at - from + stop_from d t (drop at bytes ++ more)

-- the walk stops at a place
pub record StopsAt (d : Dialect) (bytes : List ℕ) (s : State) (at : ℕ) : Type 0 where
  pub here : StandsAt (delimiter_of d) bytes at
  pub ends : may_end s ≡ true

-- one stride: to where the walk stops, or at least a byte onwards
pub record IsStride (d : Dialect) (bytes : List ℕ) (last : Bool) (from : ℕ) (s : State) (r : Stretch) : Type 0 where
  pub strides : Strides d bytes last from s r.at r.state
  pub stopped : r.stopped ≡ true → StopsAt d bytes r.state r.at
  pub onwards : r.stopped ≡ false → from < r.at

-- a walk to where it stops, or to the last byte that can be told
pub record IsWalk (d : Dialect) (bytes : List ℕ) (last : Bool) (from : ℕ) (s : State) (r : Stretch) : Type 0 where
  pub strides : Strides d bytes last from s r.at r.state
  pub stopped : r.stopped ≡ true → StopsAt d bytes r.state r.at
  pub untold : r.stopped ≡ false → IsUntold bytes last r.at
