use Rattle.std.proofs.Common.{◌≡◌, ◌^◌, ◌≤◌, length, ℕ, ◌<◌, drop, List}
use Rattle.thrift_compact.specs.Varints.{varint_number, low_groups}
use Rattle.thrift_compact.proofs.number.group_number.Given as goal

pub record Reads (bytes : List ℕ) (index number : ℕ) : Type 0 where
  pub within : index ≤ length bytes
  pub groups : number ≡ varint_number (low_groups (drop index bytes))
  pub bound : number < 2 ^ 70

abbrev pub invariant-loop-index : goal.invariant-loop-index
invariant-loop-index l = Reads l.bytes l.index l.number

abbrev pub decreases-loop-index : goal.decreases-loop-index
decreases-loop-index l = l.index
