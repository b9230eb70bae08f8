use Rattle.std.proofs.Common.{◌≡◌, ◌-◌}
use Rattle.parquet_delta.specs.Blocks.{end_of}
use Rattle.parquet_delta.proofs.run.pass.Given as goal

abbrev pub invariant-loop-place : goal.invariant-loop-place
invariant-loop-place l = end_of (l.minis - l._place) l.blocks ≡ end_of l.minis l.fn.blocks
