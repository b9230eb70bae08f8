use Rattle.parquet_footer.proofs.TreeLaws.{listed_tree, only_tree}
use Rattle.parquet_footer.proofs.laws.schemas_are_trees.Goals as goal

pub returns-clause-listed : goal.returns-clause-listed
returns-clause-listed c = λ elements nodes is. listed_tree elements nodes is

pub returns-clause-only : goal.returns-clause-only
returns-clause-only c = λ elements nodes is. only_tree elements nodes is
