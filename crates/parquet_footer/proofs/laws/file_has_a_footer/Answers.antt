use Rattle.parquet_footer.proofs.CheckLaws.{has_footer}
use Rattle.parquet_footer.proofs.laws.file_has_a_footer.Goals as goal

pub returns : goal.returns
returns c = has_footer c.args.object.now c.file_has_a_tree.ensures
