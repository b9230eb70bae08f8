use Rattle.std.proofs.Common.{[], ◌∙◌, sym, arith}
use Rattle.parquet_footer.specs.Open.{levels_of}
use Rattle.parquet_footer.proofs.OpenLaws.{all_walked}
use Rattle.parquet_footer.proofs.leaves.are_leaves.Goals as goal

pub returns : goal.returns
returns c =
    all_walked c.loop-left.chunks_left.now (levels_of [] c.loop-left.open.items) c.loop-left.left.now (omega arith)
    ∙ sym c.loop-left.invariant
