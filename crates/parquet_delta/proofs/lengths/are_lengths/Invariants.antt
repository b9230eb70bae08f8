use Rattle.std.proofs.Common.{◌≡◌, length}
use Rattle.parquet_delta.specs.Arrays.{are_lengths}
use Rattle.parquet_delta.proofs.lengths.are_lengths.Given as goal

abbrev pub invariant-loop-len : goal.invariant-loop-len
invariant-loop-len l = are_lengths l.lengths.left l.rest ≡ are_lengths l.fn.lengths.left l.bytes

abbrev pub decreases-loop-len : goal.decreases-loop-len
decreases-loop-len l = length l.lengths.left
