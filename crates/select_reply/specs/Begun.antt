-- A reply that has begun.
use Rattle.std.specs.Prelude.{◌≡◌, ℕ, zero, suc, ◌+◌, ◌-◌, ◌^◌, ◌<◌, min, Bool, true, false, List, [], length, take, Option, None, Some}
use Rattle.event_frame.specs.declared.counts.Counts.{Counts}
use Rattle.select_reply.specs.Pieces.{piece}
use Rattle.select_reply.specs.Events.{counts}
use Rattle.select_reply.specs.declared.writer.ReplyWriter.TheInside.{Inside}

-- the output behind the last whole piece; the bytes of the whole pieces, and the lengths of the records, so far; whether
-- progress was asked for; and how many outputs the limit still allows, where there is one
pub record Begun : Type 0 where
  pub pending : List ℕ
  pub cut : ℕ
  pub scanned : ℕ
  pub progress : Bool
  pub left : Option ℕ

-- the pending bytes stand at the front of the piece
abbrev pub begun_of : Inside → Begun
begun_of w = record { pending = take w.used w.piece.items; cut = w.cut; scanned = w.scanned; progress = w.progress; left = w.left }

pub record IsRoomy (w : Inside) : Type 0 where
  pub room : length w.piece.items ≡ piece
  pub used : w.used < piece

-- a count goes on, up to the largest value of 128 bits
abbrev pub counted : ℕ → ℕ → ℕ
counted n more = min (n + more) (2 ^ 128 - 1)

-- before any record
abbrev pub unbegun : Bool → Option ℕ → Begun
unbegun progress limit = record { pending = []; cut = 0; scanned = 0; progress = progress; left = limit }

-- no more output is allowed
abbrev pub is_full : Option ℕ → Bool
is_full None = false
is_full (Some zero) = true
is_full (Some (suc n)) = false

-- one output less is allowed
abbrev pub one_less : Option ℕ → Option ℕ
one_less None = None
one_less (Some n) = Some (n - 1)

-- the counts so far
abbrev pub begun_counts : Begun → Counts
begun_counts begun = counts begun.scanned (counted begun.cut (length begun.pending))
