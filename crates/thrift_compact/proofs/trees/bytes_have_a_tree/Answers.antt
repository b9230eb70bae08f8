use Rattle.std.proofs.Common.{arith}
use Rattle.thrift_compact.proofs.TreeBuilt.{tree_built}
use Rattle.thrift_compact.proofs.trees.bytes_have_a_tree.Goals as goal

pub returns : goal.returns
returns c = tree_built c.args.bytes.now (λ i. omega (arith, c.type_inv.bytes i))
