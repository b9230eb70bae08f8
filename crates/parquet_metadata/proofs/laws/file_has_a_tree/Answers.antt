use Rattle.std.proofs.Common.{arith}
use Rattle.parquet_metadata.proofs.FileTree.{file_tree}
use Rattle.parquet_metadata.proofs.laws.file_has_a_tree.Goals as goal

pub returns : goal.returns
returns c = file_tree c.args.object.now (λ i. omega (arith, c.type_inv.object i))
