use Rattle.std.proofs.Common.{pos}
use Rattle.parquet_metadata.proofs.OneTree.{one_fields}
use Rattle.parquet_metadata.proofs.laws.trees_are_one.Goals as goal

pub returns : goal.returns
returns c = λ bytes fields others a b h i. (one_fields fields others bytes 1 (pos 0) 0 a b h i).0
