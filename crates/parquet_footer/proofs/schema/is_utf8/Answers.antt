use Rattle.parquet_footer.proofs.ByteLaws.{test_is_utf8}
use Rattle.parquet_footer.proofs.schema.is_utf8.Goals as goal

pub returns : goal.returns
returns c = test_is_utf8 c.is_utf8.result c.args.bytes.now c.is_utf8.ensures
