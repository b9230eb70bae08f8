use Rattle.parquet_footer.proofs.CheckLaws.{one_outcome}
use Rattle.parquet_footer.proofs.laws.footers_are_one.Goals as goal

pub returns : goal.returns
returns c = one_outcome c.trees_are_one.ensures
